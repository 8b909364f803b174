-- `last_one`: from place i on there is no one.
use Rattle.std.proofs.Common.{◌≡◌, ℕ, true, ◌≤◌, ◌<◌}
use Rattle.meaning.specs.Bits.{bit_at}
use Rattle.longer.proofs.last_one.Given as goal

abbrev pub invariant-loop-i : goal.invariant-loop-i
invariant-loop-i l = (j : ℕ) → l.i ≤ j → j < l.m → bit_at l.words j ≡ true → ⊥
