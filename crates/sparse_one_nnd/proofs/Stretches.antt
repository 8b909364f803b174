-- A stretch of places up to the next one of a word, and loops that go by stretches.
use mathlib.Core.Path.{◌≡◌, refl, sym, ap, ap₂, ◌∙◌}
use mathlib.Core.Bool.{Bool, true, false}
use mathlib.Core.List.{List, [], ◌∷◌, ◌++◌}
use Prim.Native.Nat.{ℕ, zero, suc, ◌+◌, ◌-◌, ◌/◌, ◌%◌, ◌^◌, ◌≤◌, ◌<◌, min}
use native.Mathlib.Nat.{add-zero, not-suc-le-zero}
use native.Mathlib.Omega.{arith}
use lib.Count.{under, count_trailing_zeros}
use lib.Dec.{eqb}
use lib.ListN.{get_or}
use lib.Pow.{shr-shr}
use borrow.Author.Tests.{eq-eqb, ne_eqb}
use Rattle.std.specs.Int.{from_bool}
use Rattle.meaning.specs.Bits.{opens, tab, bit, as_bit, bit_at}
use Rattle.meaning.proofs.Tab.{opens_append, length_tab, tab_snoc, tab_add}
use Rattle.sparse_one_nnd.specs.declared.first_pass.Stretch.{Stretch}
use Rattle.sparse_one_nnd.specs.Blocks.{StretchIs}
use Rattle.sparse_one_nnd.proofs.Blocks.{opens_le}

-- below the trailing zeros' count the digits are zeros, and there is a one
digit_zero : (k n j : ℕ) → j < count_trailing_zeros k n → n / 2 ^ j % 2 ≡ 0
unfolding count_trailing_zeros
digit_zero zero n j h = absurd (not-suc-le-zero h)
digit_zero (suc k) n j h = go (n % 2) refl j h (digit_zero k (n / 2))
  where
    go : (d : ℕ) → n % 2 ≡ d → (j : ℕ) → j < under d (count_trailing_zeros k (n / 2)) → ((i : ℕ) → i < count_trailing_zeros k (n / 2) → n / 2 / 2 ^ i % 2 ≡ 0) → n / 2 ^ j % 2 ≡ 0
    go zero e zero h ih = omega arith
    go zero e (suc i) h ih = let u : 1 + i ≡ suc i = omega arith in ap (λ (m : ℕ). n / 2 ^ m % 2) (sym u) ∙ ap (λ (m : ℕ). m % 2) (sym (shr-shr n 1 i)) ∙ ih i (omega arith)
    go (suc d) e j h ih = absurd (not-suc-le-zero h)

digit_one : (k n : ℕ) → count_trailing_zeros k n < k → n / 2 ^ count_trailing_zeros k n % 2 ≡ 1
unfolding count_trailing_zeros
digit_one zero n h = absurd (not-suc-le-zero h)
digit_one (suc k) n h = go (n % 2) refl h (digit_one k (n / 2))
  where
    go : (d : ℕ) → n % 2 ≡ d → under d (count_trailing_zeros k (n / 2)) < suc k → (count_trailing_zeros k (n / 2) < k → n / 2 / 2 ^ count_trailing_zeros k (n / 2) % 2 ≡ 1)
        → n / 2 ^ under d (count_trailing_zeros k (n / 2)) % 2 ≡ 1
    go zero e h ih =
        let t : ℕ = count_trailing_zeros k (n / 2) in
        let u : 1 + count_trailing_zeros k (n / 2) ≡ suc (count_trailing_zeros k (n / 2)) = omega arith in
        ap (λ (m : ℕ). n / 2 ^ m % 2) (sym u) ∙ ap (λ (m : ℕ). m % 2) (sym (shr-shr n 1 (count_trailing_zeros k (n / 2)))) ∙ ih (omega arith)
    go (suc d) e h ih = omega arith

module _ (ws : List ℕ) (at left w most : ℕ) (e : w ≡ get_or ws (at / 64) 0) (f : most ≡ min (64 - at % 64) left) where
  -- the bits of the word from the place on
  bit_in : (j : ℕ) → at % 64 + j < 64 → bit_at ws (at + j) ≡ eqb (w / 2 ^ (at % 64) / 2 ^ j % 2) 1
  unfolding bit_at
  bit_in j h =
      let u : (at + j) / 64 ≡ at / 64 = omega arith in
      let v : (at + j) % 64 ≡ at % 64 + j = omega arith in
      ap₂ (λ (x i : ℕ). eqb (bit x i) 1) (ap (λ (q : ℕ). get_or ws q 0) u ∙ sym e) v
      ∙ ap (λ (m : ℕ). eqb (m % 2) 1) (sym (shr-shr w (at % 64) j))

  zero_in : (j : ℕ) → at % 64 + j < 64 → j < count_trailing_zeros 64 (w / 2 ^ (at % 64)) → bit_at ws (at + j) ≡ false
  zero_in j h k =
      bit_in j h
      ∙ ne_eqb (w / 2 ^ (at % 64) / 2 ^ j % 2) 1 (λ z. omega (arith, digit_zero 64 (w / 2 ^ (at % 64)) j k))

  module _ (t : ℕ) (q : t ≡ count_trailing_zeros 64 (w / 2 ^ (at % 64))) where
    pub stretch_one : t < most → StretchIs (bit_at ws) at left (record { places = t + 1; one = true })
    stretch_one h =
        let u : t + 1 - 1 ≡ t = omega arith in
        record {
          some_places = omega arith;
          within = omega arith;
          zeros = λ j k. zero_in j (omega arith) (omega arith);
          last =
              ap (λ (j : ℕ). bit_at ws (at + j)) u ∙ bit_in t (omega arith)
              ∙ eq-eqb (w / 2 ^ (at % 64) / 2 ^ t % 2) 1
              (ap (λ (t : ℕ). w / 2 ^ (at % 64) / 2 ^ t % 2) q ∙ digit_one 64 (w / 2 ^ (at % 64)) (omega arith));
        }

    pub stretch_none : 0 < left → most ≤ t → StretchIs (bit_at ws) at left (record { places = most; one = false })
    stretch_none p h =
        record {
          some_places = omega arith;
          within = omega arith;
          zeros = λ j k. zero_in j (omega arith) (omega arith);
          last = zero_in (most - 1) (omega arith) (omega arith);
        }

-- what a stretch holds
no_ones : (f : ℕ → Bool) (at p : ℕ) → ((j : ℕ) → j < p → f (at + j) ≡ false) → opens (tab f at p) ≡ 0
unfolding tab opens
no_ones f at zero h = refl
no_ones f at (suc p) h =
    let u : f at ≡ false = ap f (sym (add-zero at)) ∙ h 0 (omega arith) in
    rw (u, opens) (no_ones f (suc at) p (λ j k. let v : suc at + j ≡ at + suc j = omega arith in ap f v ∙ h (suc j) (omega arith)))

module _ (f : ℕ → Bool) (at left : ℕ) (s : Stretch) (h : StretchIs f at left s) where
  split : tab f at s.places ≡ tab f at (s.places - 1) ++ (s.one ∷ [])
  split =
      let u : s.places ≡ suc (s.places - 1) = omega (arith, h.some_places) in
      ap (tab f at) u ∙ tab_snoc f at (s.places - 1) ∙ ap (λ (b : Bool). tab f at (s.places - 1) ++ (b ∷ [])) h.last

  one_opens : (b : Bool) → opens (b ∷ []) ≡ as_bit b
  unfolding opens
  one_opens true = refl
  one_opens false = refl

  stretch_opens : opens (tab f at s.places) ≡ as_bit s.one
  stretch_opens =
      ap opens split ∙ opens_append (tab f at (s.places - 1)) (s.one ∷ [])
      ∙ ap₂ ◌+◌ (no_ones f at (s.places - 1) (λ j k. h.zeros j (omega arith))) (one_opens s.one)
      ∙ omega arith

-- the ones of k places, stretch by stretch
pub record Adding (f : ℕ → Bool) (from k c i : ℕ) : Type 0 where
  pub within : i ≤ k
  pub same : c ≡ opens (tab f from i)

pub adding_start : (f : ℕ → Bool) (from k : ℕ) → Adding f from k 0 0
unfolding tab opens
adding_start f from k = record { within = omega arith; same = refl }

pub adding_few : {f : ℕ → Bool} {from k c i : ℕ} → Adding f from k c i → c ≤ i
adding_few {f} {from} {k} {c} {i} a = omega (arith, a.same, opens_le (tab f from i), length_tab f from i)

bit_is : (b : Bool) → from_bool b ≡ as_bit b
bit_is true = refl
bit_is false = refl

pub adding_on : {f : ℕ → Bool} {from k c i : ℕ} → Adding f from k c i → (s : Stretch) (r : ℕ) → StretchIs f (from + i) (k - i) s → i < k → r ≡ from_bool s.one
    → Adding f from k (c + r) (i + s.places)
adding_on {f} {from} {k} {c} {i} a s r h t e =
    record {
      within = omega (arith, h.within);
      same =
          ap (λ (r : ℕ). c + r) (e ∙ bit_is s.one)
          ∙ sym (ap opens (tab_add f from i s.places) ∙ opens_append (tab f from i) (tab f (from + i) s.places)
          ∙ ap₂ ◌+◌ (sym a.same) (stretch_opens f (from + i) (k - i) s h));
    }

pub adding_end : {f : ℕ → Bool} {from k c i : ℕ} → Adding f from k c i → k ≤ i → c ≡ opens (tab f from k)
adding_end {f} {from} {k} {c} {i} a h = a.same ∙ ap (λ (j : ℕ). opens (tab f from j)) (omega (arith, a.within))

pub bit_small : (b : Bool) (r : ℕ) → r ≡ from_bool b → r ≤ 1
bit_small true r e = omega arith
bit_small false r e = omega arith
