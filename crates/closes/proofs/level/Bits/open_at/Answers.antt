-- `open_at` meets its contract. Assumes nothing.
use Rattle.closes.proofs.Walks.{open_in, open_out}
use borrow.Author.Rules.{rules}
use Rattle.closes.proofs.level.Bits.open_at.Goals as goal

pub returns-then-i-self : goal.returns-then-i-self
returns-then-i-self c = search (open_in, rules)

pub returns-else-i-self : goal.returns-else-i-self
returns-else-i-self c = search (open_out, rules)
