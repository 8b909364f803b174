-- The reply that tells a refusal.
use mathlib.Core.Path.{◌≡◌, refl, sym}
use mathlib.Core.List.{[], ◌∷◌}
use Prim.Native.Nat.{ℕ}
use lib.ListN.{get_or}
use Rattle.meaning.specs.Answers.{refused}
use Rattle.refusal.specs.Said.{refusal_of, carried_of}
use Rattle.refusal.specs.declared.Refusal.{Refusal}
use Rattle.refusal.specs.declared.Refusal.TheVariants.{Lengths, Many, Level, Room, Full, Deep, Place, Close, Broken, Text}
use Rattle.flight.specs.Layout.{reply, of_number}

-- a refusal carries two numbers at most
third : (r : Refusal) → get_or (refusal_of r).carries 2 0 ≡ 0
third Lengths = refl
third (Many n) = refl
third (Level k) = refl
third (Room a) = refl
third (Full l b) = refl
third Deep = refl
third (Place p) = refl
third (Close p) = refl
third Broken = refl
third (Text k) = refl

pub refusal_told : (r : Refusal) (n : ℕ) (p : ℕ × ℕ) → n ≡ (refusal_of r).number → p ≡ carried_of r
    → n ∷ 0 ∷ p.0 ∷ p.1 ∷ 0 ∷ [] ≡ reply of_number (refused (refusal_of r))
refusal_told r n p e f = λ i. e i ∷ 0 ∷ (f i).0 ∷ (f i).1 ∷ sym (third r) i ∷ []
