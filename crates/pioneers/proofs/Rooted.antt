-- The test for one root, bit by bit: what is left of the string has the whole string's answer.
use mathlib.Core.Path.{◌≡◌, refl, sym, ap, ◌∙◌}
use mathlib.Core.Bool.{Bool, true, false}
use mathlib.Core.List.{List, [], ◌∷◌}
use Prim.Native.Nat.{ℕ, zero, suc, ◌+◌, ◌-◌, ◌≤◌, ◌<◌}
use native.Mathlib.Numerals.{add-one}
use native.Mathlib.Decide.{ℕ_discrete}
use native.Mathlib.Omega.{arith}
use lib.Dec.{eqb}
use lib.ListN.{length, drop, drop_of_length-le, length-drop}
use lib.Seq.{drop-cons}
use borrow.Author.Tests.{eq-eqb, ne_eqb}
use Rattle.meaning.specs.Bits.{bit_at, bits_of}
use Rattle.meaning.specs.Growth.{rest_holds, one_root}
use Rattle.meaning.proofs.Stored.{length_bits, bits_at}

-- d nodes are open, the root among them
unfoldable pub rooted : ℕ → List Bool → Bool
rooted zero l = one_root l
rooted (suc d) l = rest_holds d l

rises : (d : ℕ) (l : List Bool) → rooted (suc d) l ≡ rooted d (true ∷ l)
unfolding rooted one_root rest_holds
rises zero l = refl
rises (suc d) l = refl

falls : (d : ℕ) (l : List Bool) → rooted (suc d) l ≡ rooted (suc (suc d)) (false ∷ l)
unfolding rooted rest_holds
falls d l = refl

none_open : (l : List Bool) → rooted 0 (false ∷ l) ≡ false
unfolding rooted one_root
none_open l = refl

last_one : (l : List Bool) → rooted 1 (false ∷ l) ≡ eqb (length l) 0
unfolding rooted rest_holds
last_one [] = refl
last_one (b ∷ l) = sym (ne_eqb (suc (length l)) 0 (λ e. omega arith))

no_end : (d : ℕ) → rooted d [] ≡ false
unfolding rooted one_root rest_holds
no_end zero = refl
no_end (suc d) = refl

pub record Rooting (ws : List ℕ) (n i d : ℕ) : Type 0 where
  pub few : d ≤ i
  pub within : i ≤ n
  pub same : rooted d (drop i (bits_of ws n)) ≡ one_root (bits_of ws n)

module _ (ws : List ℕ) (n : ℕ) where
  pub root_start : Rooting ws n 0 0
  unfolding rooted
  root_start = record { few = omega arith; within = omega arith; same = refl }

  module _ (i d : ℕ) (v : Rooting ws n i d) where
    module _ (h : i < n) (r : Bool) (q : r ≡ bit_at ws i) where
      at : (b : Bool) → r ≡ b → drop i (bits_of ws n) ≡ b ∷ drop (suc i) (bits_of ws n)
      at b e =
          drop-cons (bits_of ws n) i false (omega (arith, length_bits ws n))
          ∙ ap (λ (x : Bool). x ∷ drop (suc i) (bits_of ws n)) (bits_at ws n i h ∙ sym q ∙ e)

      pub root_opens : r ≡ true → (d' : ℕ) → d' ≡ d + 1 → Rooting ws n (i + 1) d'
      root_opens e d' f =
          record {
            few = omega (arith, v.few);
            within = omega arith;
            same = rw (f, add-one d, add-one i) (rises d _ ∙ sym (ap (rooted d) (at true e)) ∙ v.same);
          }

      module _ (e : r ≡ false) where
        pub root_none : d ≡ 0 → false ≡ one_root (bits_of ws n)
        root_none z = sym (none_open _) ∙ ap (λ (x : ℕ). rooted x (false ∷ drop (suc i) (bits_of ws n))) (sym z) ∙ sym (ap (rooted d) (at false e)) ∙ v.same

        pub root_closes : d ≡ 1 → eqb (i + 1) n ≡ one_root (bits_of ws n)
        root_closes z =
            same_test ∙ sym (last_one (drop (suc i) (bits_of ws n))) ∙ ap (λ (x : ℕ). rooted x (false ∷ drop (suc i) (bits_of ws n))) (sym z)
            ∙ sym (ap (rooted d) (at false e)) ∙ v.same
          where
            left : length (drop (suc i) (bits_of ws n)) ≡ n - suc i
            left = length-drop (suc i) (bits_of ws n) ∙ ap (λ (x : ℕ). x - suc i) (length_bits ws n)

            by : Dec (i + 1 ≡ n) → eqb (i + 1) n ≡ eqb (length (drop (suc i) (bits_of ws n))) 0
            by (yes u) = eq-eqb (i + 1) n u ∙ sym (eq-eqb (length (drop (suc i) (bits_of ws n))) 0 (omega (arith, left)))
            by (no u) = ne_eqb (i + 1) n u ∙ sym (ne_eqb (length (drop (suc i) (bits_of ws n))) 0 (λ z. omega (arith, left)))

            same_test : eqb (i + 1) n ≡ eqb (length (drop (suc i) (bits_of ws n))) 0
            same_test = by (ℕ_discrete (i + 1) n)

        pub root_falls : (d ≡ 0 → ⊥) → (d ≡ 1 → ⊥) → (d' : ℕ) → d' ≡ d - 1 → Rooting ws n (i + 1) d'
        root_falls a b d' f =
            let u : d' ≡ suc (d - 2) = omega arith in
            let w : suc (suc (d - 2)) ≡ d = omega arith in
            record {
              few = omega (arith, v.few);
              within = omega arith;
              same = rw (u, add-one i) (falls (d - 2) _ ∙ ap (λ (x : ℕ). rooted x (false ∷ drop (suc i) (bits_of ws n))) w ∙ sym (ap (rooted d) (at false e)) ∙ v.same);
            }

    pub root_end : n ≤ i → false ≡ one_root (bits_of ws n)
    root_end h = sym (no_end d) ∙ sym (ap (rooted d) (drop_of_length-le (bits_of ws n) {i = i} (omega (arith, length_bits ws n)))) ∙ v.same
