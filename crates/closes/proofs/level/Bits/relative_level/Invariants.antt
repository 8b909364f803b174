use Rattle.closes.specs.Steps.{string_of}
use Rattle.closes.proofs.Walks.{Counting}
use Rattle.closes.proofs.level.Bits.relative_level.Given as goal

abbrev pub invariant-loop-i : goal.invariant-loop-i
invariant-loop-i l = Counting (string_of l.self) l.q l.p l.depth l.i
