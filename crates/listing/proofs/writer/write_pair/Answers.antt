-- `listing::writer::write_pair` meets its contract.
use Rattle.listing.proofs.Putting.{next, halted, told, went, broke}
use borrow.Author.Rules.{rules}
use Rattle.listing.proofs.writer.write_pair.Goals as goal

pub returns-in_err-at : goal.returns-in_err-at
returns-in_err-at c = search (next, halted, told, broke, rules)

pub returns : goal.returns
returns c = search (next, told, went, rules)
