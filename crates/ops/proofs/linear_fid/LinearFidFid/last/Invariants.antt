-- `last` of `LinearFid` meets its contract. The loop's invariant: there is none from place j on, up to place i.
use Rattle.meaning.specs.Bits.{bits_of}
use Rattle.meaning.specs.Plain.{side}
use Rattle.ops.proofs.Scan.{Down}
use Rattle.ops.proofs.linear_fid.LinearFidFid.last.Given as goal

abbrev pub invariant-loop-j : goal.invariant-loop-j
invariant-loop-j l = Down (side l.one (bits_of l.self.words.now l.self.len)) l.i l.j
