-- `listing::reader::digit_of` meets its contract.
use Rattle.listing.proofs.Scan.{digit_said}
use Rattle.listing.proofs.reader.digit_of.Goals as goal

pub returns : goal.returns
returns c = let e = c.from.ensures in rw (← e) (digit_said _ _ c.to_digit.ensures.value)
