-- `from_pioneer` meets its contract. Assumes nothing.
use Rattle.closes.proofs.Walks.{from_out, from_none, from_left}
use borrow.Author.Rules.{rules}
use Rattle.closes.proofs.level.Bits.from_pioneer.Goals as goal

pub returns-then-self-c : goal.returns-then-self-c
returns-then-self-c c = search (from_out, rules)

pub returns-in_err-d : goal.returns-in_err-d
returns-in_err-d c = search (from_none, c.in_err-d.was, rules)

pub returns : goal.returns
returns c = search (from_left, c.in_ok-d.was, rules)
