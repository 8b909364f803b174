-- `listing::writer::write_number` meets its contract. The measure is the number.
use Rattle.listing.proofs.writer.+write_number.Given as goal

abbrev pub decreases-write_number : goal.decreases-write_number
decreases-write_number l = l.n
