-- At most 4b - 6 flags for b words, so no accepted list needs a fifth pioneer level: DEEP is never given.
use mathlib.Core.Path.{◌≡◌, sym, ap, ◌∙◌}
use mathlib.Core.Bool.{Bool}
use mathlib.Core.Option.{Option, none, some}
use mathlib.Core.List.{List, [], ◌∷◌}
use Prim.Native.Nat.{ℕ, zero, suc, ◌+◌, ◌*◌, ◌-◌, ◌/◌, ◌≤◌}
use native.Mathlib.Decide.{dec_le}
use native.Mathlib.Omega.{arith}
use lib.ListN.{length}
use borrow.Author.Tests.{le-leb, lt-leb}
use Rattle.meaning.specs.Answers.{Refusal}
use Rattle.meaning.specs.Bits.{opens}
use Rattle.meaning.specs.Pioneers.{flags, pioneer_string, higher}
use Rattle.meaning.specs.Family.{Fits}
use Rattle.meaning.specs.Refusals.{refuse, check, full_block, full_at, full_from}
use Rattle.meaning.proofs.If.{if_true, if_false}
use Rattle.meaning.proofs.String.{Walk}
use Rattle.meaning.proofs.Depth.{O}
use Rattle.meaning.proofs.Count.{O-all}
use Rattle.meaning.proofs.Up.{length_flags, up_length, up_walk, pioneers_few}
use Rattle.meaning.proofs.Paired.{flags_even}

module _ (l : List Bool) (w : Walk 0 l 0) (b : ℕ) (h : length l ≤ 64 * b) where
  pub flags_few : opens (flags l) ≤ 4 * b - 6
  flags_few = omega (arith, flags_even l w, pioneers_few l w b h)

  pub up_few : length (pioneer_string l) ≤ 4 * b - 6
  up_few = omega (arith, flags_few, up_length l w, ap (O (flags l)) (length_flags l), O-all (flags l))

-- the pioneer strings above a string of at most 2,097,152 bits
module _ (l : List Bool) (w : Walk 0 l 0) (h : length l ≤ 2097152) where
  pub sizes : (length (higher 1 l) ≤ 131066) × (length (higher 2 l) ≤ 8186) × (length (higher 3 l) ≤ 506) × (length (higher 4 l) ≤ 26)
  unfolding higher
  sizes =
      let w₁ = up_walk l w in
      let w₂ = up_walk (higher 1 l) w₁ in
      let w₃ = up_walk (higher 2 l) w₂ in
      let a : length (higher 1 l) ≤ 131066 = omega (arith, up_few l w 32768 (omega arith)) in
      let b : length (higher 2 l) ≤ 8186 = omega (arith, up_few (higher 1 l) w₁ 2048 (omega arith)) in
      let c : length (higher 3 l) ≤ 506 = omega (arith, up_few (higher 2 l) w₂ 128 (omega arith)) in
      (a, b, c, omega (arith, up_few (higher 3 l) w₃ 8 (omega arith)))

  pub fits_four : Fits 4 l
  unfolding Fits higher
  fits_four = λ a b c d. omega (arith, sizes.3)

-- DEEP is never given where the strings fit
abbrev pub deep : Option Refusal
deep = refuse 6 (0 ∷ [])

number_of : Option Refusal → ℕ
number_of none = 0
number_of (some r) = r.number

never : none ≡ deep → ⊥
unfolding number_of
never e = let z : ◌≡◌ {A = ℕ} 0 6 = ap number_of e in omega arith

pub no_deep : (k v : ℕ) (l : List Bool) → Fits k l → ¬ (full_from k v l ≡ deep)
unfolding full_from check Fits full_at number_of
no_deep zero v l fit e = never (sym (ap (λ b. check b 6 (0 ∷ [])) (le-leb (length l) 64 fit)) ∙ e)
no_deep (suc k) v l fit e = go (dec_le (length l) 64) (no_deep k (suc v) (pioneer_string l))
  where
    above : (o : Option ℕ) → (full_from k (suc v) (pioneer_string l) ≡ deep → ⊥) → full_at v o (full_from k (suc v) (pioneer_string l)) ≡ deep → ⊥
    above none ih q = ih q
    above (some b) ih q = let z : ◌≡◌ {A = ℕ} 5 6 = ap number_of q in omega arith

    go : Dec (length l ≤ 64) → (Fits k (pioneer_string l) → full_from k (suc v) (pioneer_string l) ≡ deep → ⊥) → ⊥
    go (yes h) ih = never (sym (if_true _ _ (le-leb (length l) 64 h)) ∙ e)
    go (no h) ih = above (full_block (length l / 256 + 1) 0 (flags l)) (ih (fit (omega arith))) (sym (if_false _ _ (lt-leb (length l) 64 (omega arith))) ∙ e)
