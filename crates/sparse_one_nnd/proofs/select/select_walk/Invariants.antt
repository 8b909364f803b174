-- `select_walk` meets its contract. The invariant is `Finding`.
use Prim.Native.Nat.{◌*◌}
use lib.ListN.{length}
use Rattle.meaning.specs.Dictionary.{placed, select_walk}
use Rattle.sparse_one_nnd.proofs.Selects.{Finding}
use Rattle.sparse_one_nnd.proofs.select.select_walk.Given as goal

abbrev pub invariant-loop-count : goal.invariant-loop-count
invariant-loop-count l = Finding (placed (select_walk 0 (2048 * l.m) l.q l.bytes)) l.m (length l.bytes) l.rest l.j l.left

abbrev pub decreases-loop-count : goal.decreases-loop-count
decreases-loop-count l = length l.rest
