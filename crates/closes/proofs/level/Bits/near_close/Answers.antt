-- `near_close` meets its contract. Assumes nothing.
use Rattle.closes.proofs.Walks.{near_shut, near_far, near_in, near_out}
use borrow.Author.Rules.{rules}
use Rattle.closes.proofs.level.Bits.near_close.Goals as goal

pub returns-then-not-open_at : goal.returns-then-not-open_at
returns-then-not-open_at c = search (near_shut, rules)

pub returns-in_default : goal.returns-in_default
returns-in_default c = search (near_far, rules)

pub returns-then-c-self : goal.returns-then-c-self
returns-then-c-self c = search (near_in, rules)

pub returns : goal.returns
returns c = search (near_out, rules)
