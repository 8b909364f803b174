-- `listing::reader::with_digit` meets its contract.
use Rattle.listing.proofs.Putting.{broke}
use Rattle.listing.proofs.Scan.{with_zero, with_none, with_large, with_sum}
use borrow.Author.Rules.{rules}
use Rattle.listing.proofs.reader.with_digit.Goals as goal

pub returns-then-v-eq0 : goal.returns-then-v-eq0
returns-then-v-eq0 c = search (with_zero, rules)

pub returns-in_err-d : goal.returns-in_err-d
returns-in_err-d c = search (with_none, broke, rules)

pub returns-in_err-checked_mul : goal.returns-in_err-checked_mul
returns-in_err-checked_mul c = search (with_large, c.in_ok-d.was, c.in_err-checked_mul.ensures, rules)

pub returns : goal.returns
returns c = search (with_sum, c.in_ok-d.was, c.in_ok-checked_mul.ensures, c.checked_add.ensures, rules)
