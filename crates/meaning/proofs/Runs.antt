-- Runs of zeros, and runs of stores.
use mathlib.Core.Path.{◌≡◌, refl, sym, ap, ◌∙◌}
use mathlib.Core.List.{List, [], ◌∷◌, ◌++◌}
use Prim.Native.Nat.{ℕ, zero, suc, ◌+◌, ◌-◌, ◌≤◌}
use native.Mathlib.Nat.{zero-add, not-suc-le-zero, le_of_suc-le-suc}
use native.Mathlib.Omega.{arith}
use lib.ListN.{length, set, take, drop, replicate, length-replicate}
use lib.Seq.{sets, sets-eq}
use Rattle.meaning.specs.Areas.{filled}

pub take_zeros : (t k : ℕ) → t ≤ k → take t (replicate {A = ℕ} k 0) ≡ replicate t 0
take_zeros zero k h = refl
take_zeros (suc t) zero h = absurd (not-suc-le-zero h)
take_zeros (suc t) (suc k) h = ap (λ (l : List ℕ). 0 ∷ l) (take_zeros t k (le_of_suc-le-suc h))

pub drop_zeros : (t k : ℕ) → drop t (replicate {A = ℕ} k 0) ≡ replicate (k - t) 0
drop_zeros zero k = let e : k ≡ k - 0 = omega arith in ap (λ (n : ℕ). replicate n 0) e
drop_zeros (suc t) zero = let e : 0 ≡ 0 - suc t = omega arith in ap (λ (n : ℕ). replicate {A = ℕ} n 0) e
drop_zeros (suc t) (suc k) = let e : k - t ≡ suc k - suc t = omega arith in drop_zeros t k ∙ ap (λ (n : ℕ). replicate n 0) e

-- one run of stores after another
pub sets_append : (l : List ℕ) (i : ℕ) (a b : List ℕ) → sets l i (a ++ b) ≡ sets (sets l i a) (i + length a) b
sets_append l i [] b = let e : i ≡ i + 0 = omega arith in ap (λ (k : ℕ). sets l k b) e
sets_append l i (x ∷ a) b =
    let e : suc i + length a ≡ i + suc (length a) = omega arith in
    sets_append (set l i x) (suc i) a b ∙ ap (λ (k : ℕ). sets (sets (set l i x) (suc i) a) k b) e

pub sets_more : (l : List ℕ) (i k : ℕ) (a b : List ℕ) → k ≡ i + length a → sets (sets l i a) k b ≡ sets l i (a ++ b)
sets_more l i k a b e = ap (λ (j : ℕ). sets (sets l i a) j b) e ∙ sym (sets_append l i a b)

-- a run over zeros, from their start
pub sets_zeros : (k o : ℕ) (d : List ℕ) → o ≡ 0 → length d ≤ k → sets (replicate k 0) o d ≡ filled k d
unfolding filled
sets_zeros k o d e h =
    ap (λ (i : ℕ). sets (replicate k 0) i d) e
    ∙ sets-eq d (replicate k 0) 0 (omega (arith, length-replicate {A = ℕ} k 0))
    ∙ ap (λ (t : List ℕ). d ++ t) (ap (λ (i : ℕ). drop i (replicate k 0)) (zero-add (length d)) ∙ drop_zeros (length d) k)
