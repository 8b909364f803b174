-- `listing::writer::write_number` meets its contract. The measure is the number.
use Rattle.listing.proofs.Putting.{number_small, number_halted, number_more, went, broke}
use borrow.Author.Rules.{rules}
use Rattle.listing.proofs.writer.+write_number.Goals as goal

pub returns-then-n-lt10 : goal.returns-then-n-lt10
returns-then-n-lt10 t c = search (number_small, rules)

pub returns-in_err-at : goal.returns-in_err-at
returns-in_err-at t c = search (number_halted, broke, rules)

pub returns : goal.returns
returns t c = search (number_more, went, rules)
