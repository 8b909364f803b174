-- `gather`: the invariant is `Kept` of Keeps.antt.
use Rattle.pioneers.proofs.Keeps.{Kept}
use Rattle.pioneers.proofs.compact.gather.Given as goal

abbrev pub invariant-loop-i : goal.invariant-loop-i
invariant-loop-i l = Kept l.initial.scr l.lay l.scr l.i l.at
