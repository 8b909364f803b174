-- `count_ones` meets its contract. The invariant is `Adding`.
use Prim.Native.Nat.{◌-◌}
use Rattle.meaning.specs.Bits.{bit_at}
use Rattle.sparse_one_nnd.proofs.Stretches.{Adding}
use Rattle.sparse_one_nnd.proofs.first_pass.count_ones.Given as goal

abbrev pub invariant-loop-i : goal.invariant-loop-i
invariant-loop-i l = Adding (bit_at l.ws) l.from l.k l.c l.i

abbrev pub decreases-loop-i : goal.decreases-loop-i
decreases-loop-i l = l.k - l.i
