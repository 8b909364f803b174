-- `past` meets its contract.
use native.Mathlib.Omega.{arith}
use Rattle.sparse_one_nnd.proofs.Parts.{past_is}
use Rattle.sparse_one_nnd.proofs.DictAreas.past.Goals as goal

pub returns : goal.returns
returns c = past_is _ _ _ _ _ _ _ _ _ (omega (arith, c.ranges.self), omega (arith, c.ranges.self)) c.saturating_mul.ensures c.saturating_mul-2.ensures c.past.ensures c.past-2.ensures c.past-3.ensures
