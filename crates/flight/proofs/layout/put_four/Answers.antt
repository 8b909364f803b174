-- `put_four`: the four elements are the array's.
use native.Mathlib.Omega.{arith}
use Rattle.flight.proofs.Putting.{four_put}
use Rattle.flight.proofs.layout.put_four.Goals as goal

pub returns : goal.returns
returns c = four_put _ _ _ _ _ c.requires (omega arith) c.copy_from_slice.ensures.after (omega arith)
