-- `listing::reader::read_list` meets its contract. The loop's invariant: k entries are stored, and `rest` is left.
use Prim.Native.Nat.{◌-◌}
use lib.ListN.{length}
use Rattle.listing.proofs.Fill.{Filling}
use Rattle.listing.proofs.reader.read_list.Given as goal

abbrev pub invariant-loop-rest : goal.invariant-loop-rest
invariant-loop-rest l = Filling l.text (length l.initial.levels) (length l.initial.labels) l.levels l.labels l.rest l.k

abbrev pub decreases-loop-rest : goal.decreases-loop-rest
decreases-loop-rest l = 512 - l.k
