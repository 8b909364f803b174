-- `get` meets its contract. Assumes nothing.
use Rattle.closes.proofs.Asked.{bit_unfit, bit_place, bit_is}
use borrow.Author.Rules.{rules}
use Rattle.closes.proofs.get.Goals as goal

pub returns-then-not-counts_fit : goal.returns-then-not-counts_fit
returns-then-not-counts_fit c = search (bit_unfit, rules)

pub returns-then-string-place : goal.returns-then-string-place
returns-then-string-place c = search (bit_place, rules)

pub returns : goal.returns
returns c = search (bit_is, rules)
