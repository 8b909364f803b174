-- What the code's answers say: a refusal's number and what it carries, and a value, nothing or a refusal.
use Rattle.std.specs.Prelude.{Bool, List, [], ◌∷◌, ℕ, get_or}
use Rattle.std.specs.Prelude.{Option, None, Some, Result, Ok, Err}
use Rattle.std.proofs.Math.Option as maybe
use Rattle.meaning.specs.Answers as answers
use Rattle.meaning.specs.Answers.{Answer, is, nothing, refused}
use Rattle.meaning.specs.Bits.{as_bit}
use Rattle.refusal.specs.declared.Refusal.{Refusal}
use Rattle.refusal.specs.declared.Refusal.TheVariants.{Lengths, Many, Level, Room, Full, Deep, Place, Close, Broken, Text}

abbrev pub numbered : ℕ → List ℕ → answers.Refusal
numbered n cs = record { number = n; carries = cs }

-- the number of a refusal, and what it carries: 0 where there is nothing to carry
abbrev pub refusal_of : Refusal → answers.Refusal
refusal_of Lengths = numbered 1 (0 ∷ [])
refusal_of (Many n) = numbered 2 (n ∷ [])
refusal_of (Level k) = numbered 3 (k ∷ [])
refusal_of (Room a) = numbered 4 (a ∷ [])
refusal_of (Full l b) = numbered 5 (l ∷ b ∷ [])
refusal_of Deep = numbered 6 (0 ∷ [])
refusal_of (Place p) = numbered 7 (p ∷ [])
refusal_of (Close p) = numbered 8 (p ∷ [])
refusal_of Broken = numbered 9 (0 ∷ [])
refusal_of (Text k) = numbered 10 (k ∷ [])

-- as two numbers
abbrev pub carried_of : Refusal → ℕ × ℕ
carried_of r = (get_or (refusal_of r).carries 0 0, get_or (refusal_of r).carries 1 0)

-- a value, as f has it, or a refusal
abbrev pub said_by : {A B : Type 0} → (A → B) → Result A Refusal → Answer B
said_by f (Ok x) = is (f x)
said_by f (Err r) = refused (refusal_of r)

-- a value, nothing, or a refusal
abbrev pub found_by : {A B : Type 0} → (A → B) → Result (Option A) Refusal → Answer B
found_by f (Ok (Some x)) = is (f x)
found_by f (Ok None) = nothing
found_by f (Err r) = refused (refusal_of r)

-- a number
abbrev pub said_number : Result ℕ Refusal → Answer ℕ
said_number = said_by (λ n. n)

-- yes or no
abbrev pub said_truth : Result Bool Refusal → Answer Bool
said_truth = said_by (λ b. b)

-- a value, or nothing: a question that refuses nothing
abbrev pub only_found_by : {A B : Type 0} → (A → B) → Option A → Answer B
only_found_by f (Some x) = is (f x)
only_found_by f None = nothing

abbrev pub only_found : Option ℕ → Answer ℕ
only_found = only_found_by (λ n. n)

-- a number, or nothing
abbrev pub found_number : Result (Option ℕ) Refusal → Answer ℕ
found_number = found_by (λ n. n)

-- a bit is 1 or 0
abbrev pub said_bit : Result Bool Refusal → Answer ℕ
said_bit = said_by as_bit

abbrev pub found_bit : Result (Option Bool) Refusal → Answer ℕ
found_bit = found_by as_bit

-- a value or nothing, as the definitions have it
abbrev pub option_of : {A : Type 0} → Option A → maybe.Option A
option_of (Some x) = maybe.some x
option_of None = maybe.none

-- what is refused, if something is
abbrev pub refused_of : {A : Type 0} → Result A Refusal → maybe.Option answers.Refusal
refused_of (Ok x) = maybe.none
refused_of (Err r) = maybe.some (refusal_of r)
