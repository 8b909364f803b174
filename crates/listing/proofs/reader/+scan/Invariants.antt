-- `listing::reader::scan` meets its contract. The measure is the text's length.
use lib.ListN.{length}
use Rattle.listing.proofs.reader.+scan.Given as goal

abbrev pub decreases-scan : goal.decreases-scan
decreases-scan l = length l.text.now
