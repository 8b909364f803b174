-- `copy_words`: the first i words are there.
use Rattle.std.proofs.Common.{◌≡◌, take}
use Rattle.longer.proofs.copy_words.Given as goal

abbrev pub invariant-loop-i : goal.invariant-loop-i
invariant-loop-i l = take l.i l.word-items ≡ take l.i l.words
