use Rattle.closes.specs.Steps.{string_of}
use Rattle.closes.proofs.Walks.{Walking}
use Rattle.closes.proofs.level.Bits.walk_left.Given as goal

abbrev pub invariant-loop-i : goal.invariant-loop-i
invariant-loop-i l = Walking (string_of l.self) l.d l.c l.i l.depth l.best
