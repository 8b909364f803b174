-- `put_offsets`: the offsets of the ones before the next place are written.
use Rattle.std.proofs.Common.{◌-◌}
use Rattle.sparse_one_nnd.proofs.Offsets.{Going}
use Rattle.sparse_one_nnd.proofs.second_pass.put_offsets.Given as goal

abbrev pub invariant-loop-place : goal.invariant-loop-place
invariant-loop-place l = Going l.ws l.k l.at l.fn.bytes l.bytes l.ones l.next

abbrev pub decreases-loop-place : goal.decreases-loop-place
decreases-loop-place l = l.k - l.ones.next
