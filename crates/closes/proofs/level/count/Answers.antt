-- `count` meets its contract. Assumes nothing.
use Rattle.closes.proofs.Walks.{count_up, count_down}
use borrow.Author.Rules.{rules}
use Rattle.closes.proofs.level.count.Goals as goal

pub returns-then-up : goal.returns-then-up
returns-then-up c = search (count_up, rules)

pub returns-else-up : goal.returns-else-up
returns-else-up c = search (count_down, rules)
