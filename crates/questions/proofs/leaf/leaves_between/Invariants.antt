-- `leaves_between` meets its contract. Assumes nothing.
use Rattle.std.proofs.Common.{get_or}
use Rattle.meaning.specs.Bits.{bits_of}
use Rattle.questions.proofs.Loops.{Leafing}
use Rattle.questions.proofs.leaf.leaves_between.Given as goal

abbrev pub invariant-loop-i : goal.invariant-loop-i
invariant-loop-i l = Leafing (bits_of l.catalogue.words.now (get_or l.catalogue.counts.bits 0 0)) l.p l.c l.i l.total l.open
