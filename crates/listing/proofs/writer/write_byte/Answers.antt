-- `listing::writer::write_byte` meets its contract.
use Rattle.listing.proofs.Putting.{put_one, put_past}
use borrow.Author.Rules.{rules}
use Rattle.listing.proofs.writer.write_byte.Goals as goal

pub returns-then-out-at : goal.returns-then-out-at
returns-then-out-at c = search (put_past, rules)

pub returns : goal.returns
returns c = search (put_one, rules)
