-- `Digest::feed_number` meets its contract: it is safe, and ends with the last digit. The measure is the number.
use Rattle.recorded.proofs.Digest.+feed_number.Given as goal

abbrev pub decreases-feed_number : goal.decreases-feed_number
decreases-feed_number l = l.x
