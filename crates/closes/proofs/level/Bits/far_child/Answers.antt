-- `far_child` meets its contract. Assumes nothing.
use Rattle.closes.proofs.Walks.{child_here, child_left}
use borrow.Author.Rules.{rules}
use Rattle.closes.proofs.level.Bits.far_child.Goals as goal

pub returns-then-d-eq0 : goal.returns-then-d-eq0
returns-then-d-eq0 c = search (child_here, rules)

pub returns : goal.returns
returns c = search (child_left, rules)
