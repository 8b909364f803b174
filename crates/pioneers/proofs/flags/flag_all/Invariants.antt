-- `flag_all`: the invariant is `Inv` of Pass.antt.
use Rattle.pioneers.specs.Scratch.{text_of}
use Rattle.pioneers.proofs.Pass.{Inv}
use Rattle.pioneers.proofs.flags.flag_all.Given as goal

abbrev pub invariant-loop-i : goal.invariant-loop-i
invariant-loop-i l = Inv (text_of l.initial.scr l.lay) l.lay l.initial.scr l.scr l.i l.s
