-- `write_string`: the first i words are there.
use Rattle.std.proofs.Common.{◌≡◌, take, drop}
use Rattle.parentheses.proofs.writes.write_string.Given as goal

abbrev pub invariant-loop-i : goal.invariant-loop-i
invariant-loop-i l = take l.i l.word-items ≡ take l.i (drop l.lay.text l.scr)
