-- The loop over the leaves between two places.
use mathlib.Core.Path.{◌≡◌, refl, sym, ap, ◌∙◌}
use mathlib.Core.Bool.{Bool, true, false, ◌&&◌, not}
use mathlib.Core.List.{List, [], ◌∷◌}
use Prim.Native.Nat.{ℕ, suc, ◌+◌, ◌-◌, ◌^◌, ◌<◌, ◌≤◌}
use native.Mathlib.Numerals.{add-one}
use native.Mathlib.Omega.{arith}
use lib.ListN.{length, get_or}
use lib.Seq.{slice, slice-cons, length-slice}
use Rattle.std.specs.Int.{from_bool}
use Rattle.meaning.specs.Bits.{bits_of}
use Rattle.meaning.specs.Leaves.{leaves, leaf_count}
use Rattle.meaning.proofs.Stored.{length_bits}

-- "each a 1 then a 0"
abbrev leaf_at : Bool → Bool → ℕ
leaf_at true false = 1
leaf_at true true = 0
leaf_at false y = 0

-- two bits at the front: the first is a leaf's open if a close follows
leaf_front : (x y : Bool) (l : List Bool) → leaves (x ∷ y ∷ l) ≡ leaf_at x y + leaves (y ∷ l)
unfolding leaves
leaf_front true true l = omega arith
leaf_front true false l = omega arith
leaf_front false y l = omega arith

leaves_short : (l : List Bool) → length l ≤ 1 → leaves l ≡ 0
unfolding leaves
leaves_short [] h = refl
leaves_short (true ∷ []) h = refl
leaves_short (false ∷ []) h = refl
leaves_short (x ∷ y ∷ l) h = absurd (omega arith)

leaf_low : (x y : Bool) → leaf_at x y ≤ 1
leaf_low true true = omega arith
leaf_low true false = omega arith
leaf_low false y = omega arith

leaf_is : (x y : Bool) → from_bool (x && not y) ≡ leaf_at x y
leaf_is true true = refl
leaf_is true false = refl
leaf_is false y = refl

-- the places from p to i are counted, but for the last one's bit, x
pub record Leafing (l : List Bool) (p c i t : ℕ) (x : Bool) : Type 0 where
  pub same : t + leaves (x ∷ slice (suc i) c l) ≡ leaf_count l p c
  pub low : t + p ≤ i
  pub within : i ≤ c

pub leaf_start : (l : List Bool) (p c : ℕ) → p ≤ c → Leafing l p c p 0 false
unfolding leaf_count leaves
leaf_start l p c h = record { same = omega arith; low = omega arith; within = h }

pub leaf_on : (ws : List ℕ) (n p c i t : ℕ) (x y : Bool) (r : ℕ) → Leafing (bits_of ws n) p c i t x → c ≤ n → i < c - 1
    → y ≡ get_or (bits_of ws n) (i + 1) false → r ≡ from_bool (x && not y) → Leafing (bits_of ws n) p c (i + 1) (t + r) y
leaf_on ws n p c i t x y r s k h f g =
    let l : List Bool = bits_of ws n in
    let e : r ≡ leaf_at x y = g ∙ leaf_is x y in
    let a : slice (suc i) c l ≡ y ∷ slice (suc (suc i)) c l =
    slice-cons (suc i) c l false (omega arith) (omega (arith, length_bits ws n))
    ∙ ap (λ z. z ∷ slice (suc (suc i)) c l) (ap (λ j. get_or l j false) (sym (add-one i)) ∙ sym f) in
    let v : leaves (x ∷ slice (suc i) c l) ≡ r + leaves (y ∷ slice (suc (suc i)) c l) =
    ap (λ z. leaves (x ∷ z)) a ∙ leaf_front x y (slice (suc (suc i)) c l) ∙ ap (λ u. u + leaves (y ∷ slice (suc (suc i)) c l)) (sym e) in
    let w : leaves (y ∷ slice (suc (i + 1)) c l) ≡ leaves (y ∷ slice (suc (suc i)) c l) = ap (λ j. leaves (y ∷ slice (suc j) c l)) (add-one i) in
    record { same = omega (arith, s.same, v, w); low = omega (arith, s.low, e, leaf_low x y); within = omega arith }

pub leaf_fits : (l : List Bool) (p c i t : ℕ) (x : Bool) → Leafing l p c i t x → i < c - 1 → c < 2 ^ 64 → t + 1 < 2 ^ 64
leaf_fits l p c i t x s k g = omega (arith, s.low)

pub leaf_done : (ws : List ℕ) (n p c i t : ℕ) (x : Bool) → Leafing (bits_of ws n) p c i t x → c ≤ n → c - 1 ≤ i → t ≡ leaf_count (bits_of ws n) p c
leaf_done ws n p c i t x s h k =
    let l : List Bool = bits_of ws n in
    let e : leaves (x ∷ slice (suc i) c l) ≡ 0 =
    leaves_short (x ∷ slice (suc i) c l) (omega (arith, length-slice (suc i) c l (omega (arith, length_bits ws n)))) in
    omega (arith, s.same, e)
