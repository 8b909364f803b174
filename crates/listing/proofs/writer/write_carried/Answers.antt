-- `listing::writer::write_carried` meets its contract.
use Rattle.listing.proofs.Pieces.{one_put, two_put}
use borrow.Author.Rules.{rules}
use Rattle.listing.proofs.writer.write_carried.Goals as goal

pub returns-in-One : goal.returns-in-One
returns-in-One c = search (one_put, rules)

pub returns-in-Two : goal.returns-in-Two
returns-in-Two c = search (two_put, rules)
