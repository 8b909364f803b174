-- `one_root`: what is left of the string has the whole string's answer.
use Rattle.pioneers.proofs.Rooted.{Rooting}
use Rattle.pioneers.proofs.root.one_root.Given as goal

abbrev pub invariant-loop-i : goal.invariant-loop-i
invariant-loop-i l = Rooting l.words l.n l.i l.depth
