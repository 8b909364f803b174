-- `nth` of `LinearFid` meets its contract. The loop's invariant: of the k ones, `left` are still to come from place i on.
use Rattle.meaning.specs.Bits.{bits_of}
use Rattle.meaning.specs.Plain.{side}
use Rattle.ops.proofs.Scan.{After}
use Rattle.ops.proofs.linear_fid.LinearFidFid.nth.Given as goal

abbrev pub invariant-loop-i : goal.invariant-loop-i
invariant-loop-i l = After (side l.one (bits_of l.self.words.now l.self.len)) l.k l.left l.i
