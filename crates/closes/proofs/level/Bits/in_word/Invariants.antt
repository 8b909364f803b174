use Rattle.closes.specs.Steps.{string_of}
use Rattle.closes.proofs.Walks.{Searching}
use Rattle.closes.proofs.level.Bits.in_word.Given as goal

abbrev pub invariant-loop-step : goal.invariant-loop-step
invariant-loop-step l = Searching (string_of l.self) l.place l.depth l.step
