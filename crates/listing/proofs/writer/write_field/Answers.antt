-- `listing::writer::write_field` meets its contract.
use Rattle.meaning.specs.Listing.{ended}
use Rattle.listing.proofs.Putting.{next, halted, told, went, broke}
use borrow.Author.Rules.{rules}
use Rattle.listing.proofs.writer.write_field.Goals as goal

pub returns-in_err-at : goal.returns-in_err-at
unfolding ended
returns-in_err-at c = search (next, halted, told, broke, rules)

pub returns : goal.returns
unfolding ended
returns c = search (next, told, went, rules)
