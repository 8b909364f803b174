-- The bytes and the entries from a place on.
use mathlib.Core.Path.{◌≡◌, refl, sym, ap, ◌∙◌}
use mathlib.Core.Bool.{false}
use mathlib.Core.List.{List, [], ◌∷◌}
use Prim.Native.Nat.{ℕ, ◌+◌, ◌*◌, ◌-◌, ◌/◌, ◌≤◌, ◌<◌}
use native.Mathlib.Numerals.{add-one}
use native.Mathlib.Omega.{arith}
use lib.Dec.{eqb}
use lib.ListN.{length, get_or, take, drop, length-drop}
use lib.Seq.{drop-cons, take_all}
use borrow.Author.Tests.{ne_eqb}
use Rattle.std.specs.Prelude.{◌⊎◌, slice_range}
use Rattle.std.proofs.Common.{inl, inr}

pub head : (B : List ℕ) (i : ℕ) → i < length B → drop i B ≡ get_or B i 0 ∷ drop (i + 1) B
head B i h = drop-cons B i 0 h ∙ ap (λ (k : ℕ). get_or B i 0 ∷ drop k B) (sym (add-one i))

pub rest_length : (B : List ℕ) (i : ℕ) → length (drop (i + 1) B) ≡ length B - (i + 1)
rest_length B i = length-drop (i + 1) B

-- an entry is two numbers
pub two : (E : List ℕ) (i : ℕ) → i < length E / 2 → drop (2 * i) E ≡ get_or E (2 * i) 0 ∷ get_or E (2 * i + 1) 0 ∷ drop (2 * (i + 1)) E
two E i h =
    let u : 2 * i + 1 + 1 ≡ 2 * (i + 1) = omega arith in
    head E (2 * i) (omega arith)
    ∙ ap (λ (l : List ℕ). get_or E (2 * i) 0 ∷ l) (head E (2 * i + 1) (omega arith) ∙ ap (λ (k : ℕ). get_or E (2 * i + 1) 0 ∷ drop k E) u)

-- "A dictionary without entries": none of the three lengths is above zero
module _ (b m l : ℕ) where
  pub empty_if : b ≡ 0 → m ≡ 0 → eqb l 0 ≡ eqb (b + m + l) 0
  empty_if e f = let u : l ≡ b + m + l = omega arith in ap (λ (k : ℕ). eqb k 0) u

  pub bytes_there : (b ≡ 0 → ⊥) → false ≡ eqb (b + m + l) 0
  bytes_there h = sym (ne_eqb (b + m + l) 0 (λ e. h (omega arith)))

  pub middles_there : (m ≡ 0 → ⊥) → false ≡ eqb (b + m + l) 0
  middles_there h = sym (ne_eqb (b + m + l) 0 (λ e. h (omega arith)))

-- all past a place
pub past_rest : (a : List ℕ) (n : ℕ) → take (length a - n) (drop n a) ≡ drop n a
past_rest a n = take_all (length a - n) (drop n a) (omega (arith, length-drop n a))

pub past_length : (n : ℕ) (bs : List ℕ) → (length bs < n) ⊎ (length bs < length bs) → length bs < n
past_length n bs = elim [ inl h ↦ h | inr h ↦ absurd (omega arith) ]

-- what is left of a block's bytes is shorter
pub shorter : (rest bs l : List ℕ) (a n : ℕ) → rest ≡ a ∷ bs → n ≤ length bs → l ≡ slice_range bs n (length bs) → length l < length rest
shorter rest bs l a n p h e = omega (arith, ap length p, ap length (e ∙ past_rest bs n), length-drop n bs)

pub none_left : (l : List ℕ) → length l ≡ 0 → l ≡ []
none_left [] h = refl
none_left (x ∷ l) h = absurd (omega arith)
