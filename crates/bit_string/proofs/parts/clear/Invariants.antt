-- `parts::clear` meets its contract. The loop's invariant: the words before q are done, the others as they were.
use Rattle.bit_string.proofs.Clear.{Clearing}
use Rattle.bit_string.proofs.parts.clear.Given as goal

abbrev pub invariant-loop-q : goal.invariant-loop-q
invariant-loop-q l = Clearing l.initial.words l.a l.e l.words l.q
