-- What is told of a size, by what the question answered.
use mathlib.Core.Path.{◌≡◌, refl, ap, ◌∙◌}
use Prim.Native.Nat.{ℕ}
use Rattle.std.specs.Prelude.{Result, Ok, Err}
use Rattle.std.specs.Result.{result_unwrap_or}
use Rattle.meaning.specs.Answers.{Answer}
use Rattle.refusal.specs.Said.{said_number}
use Rattle.refusal.specs.declared.Refusal.{Refusal}
use Rattle.listwalk.specs.Told.{or_zero}

size : (x : Result ℕ Refusal) → result_unwrap_or x 0 ≡ or_zero (said_number x)
unfolding or_zero
size (Ok n) = refl
size (Err r) = refl

pub size_is : (a : Answer ℕ) (x : Result ℕ Refusal) → said_number x ≡ a → result_unwrap_or x 0 ≡ or_zero a
size_is a x e = size x ∙ ap or_zero e
