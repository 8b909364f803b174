-- `counted` of `LinearFid` meets its contract. The loop's invariant: r is the ones before place i.
use mathlib.Core.Path.{◌≡◌}
use lib.ListN.{take}
use Rattle.meaning.specs.Bits.{opens, bits_of}
use Rattle.meaning.specs.Plain.{side}
use Rattle.ops.proofs.linear_fid.LinearFidFid.counted.Given as goal

abbrev pub invariant-loop-i : goal.invariant-loop-i
invariant-loop-i l = l.r ≡ opens (take l.i (side l.one (bits_of l.self.words.now l.self.len)))
