-- The words with zeros behind their first n bits.
use mathlib.Core.Path.{◌≡◌, sym, ap, ◌∙◌, subst}
use mathlib.Core.Bool.{false}
use mathlib.Core.List.{List, ◌++◌}
use mathlib.Core.Logic.{◌⊎◌, inl, inr}
use Prim.Native.Nat.{ℕ, ◌+◌, ◌-◌, ◌/◌, ◌%◌, ◌^◌, ◌≤◌, ◌<◌}
use native.Mathlib.Nat.{mod-lt, mod-le, lt_of_le_of_lt}
use native.Mathlib.Decide.{dec_lt}
use native.Mathlib.Omega.{arith}
use lib.Dec.{eqb}
use lib.Pow.{pow_pos}
use lib.ListN.{length, get_or, set, take, drop, replicate, length-set, length-append, length-replicate, get_or-append, get_or-eq_default}
use lib.Seq.{get_or-set_same, get_or-set_other, get_or-take, get_or-append-add, length-take-le}
use Rattle.meaning.specs.Bits.{bit, bit_at, bits_of, pack}
use Rattle.meaning.proofs.Tab.{Below}
use Rattle.meaning.proofs.Bit.{bit_none, bit_low, bit_past}
use Rattle.meaning.proofs.Stored.{bit_at_past, length_bits, bits_at}
use Rattle.meaning.proofs.Pack.{is_pack, pack_bits}
use Rattle.pioneers.proofs.Parts.{lt_or_ge, zeros_at, part_zero}

-- bits from 0 to r stay, and the rest is zero: one word cut, those after it zero
module _ (ws : List ℕ) (n : ℕ) (fits : Below (2 ^ 64) ws) where
  -- the words hold no bit past n
  pub trim_none : length ws ≤ n / 64 → ws ≡ pack (length ws) (bits_of ws n)
  trim_none h = sym (pack_bits ws n fits (λ i g. bit_at_past ws i (omega arith)))

  module _ (h : n / 64 < length ws) (x : ℕ) (e : x ≡ get_or ws (n / 64) 0 % 2 ^ (n % 64)) where
    mid : List ℕ
    mid = set ws (n / 64) x

    exit : List ℕ
    exit = take (n / 64 + 1) (set ws (n / 64) x) ++ replicate (length (set ws (n / 64) x) - (n / 64 + 1)) 0

    front : length (take (n / 64 + 1) (set ws (n / 64) x)) ≡ n / 64 + 1
    front = length-take-le (n / 64 + 1) (set ws (n / 64) x) (omega (arith, length-set ws (n / 64) x))

    exit_length : length exit ≡ length ws
    unfolding exit
    exit_length =
        length-append (take (n / 64 + 1) (set ws (n / 64) x)) (replicate (length (set ws (n / 64) x) - (n / 64 + 1)) 0)
        ∙ omega (arith, front, length-replicate {A = ℕ} (length (set ws (n / 64) x) - (n / 64 + 1)) 0, length-set ws (n / 64) x)

    early : (w : ℕ) → w < n / 64 + 1 → get_or exit w 0 ≡ get_or (set ws (n / 64) x) w 0
    unfolding exit
    early w g =
        get_or-append (take (n / 64 + 1) (set ws (n / 64) x)) (replicate (length (set ws (n / 64) x) - (n / 64 + 1)) 0) 0 w (omega (arith, front))
        ∙ get_or-take (n / 64 + 1) (set ws (n / 64) x) w 0 g

    before : (w : ℕ) → w < n / 64 → get_or exit w 0 ≡ get_or ws w 0
    before w g = early w (omega arith) ∙ get_or-set_other ws (n / 64) w x 0 (λ z. omega arith)

    cut : get_or exit (n / 64) 0 ≡ get_or ws (n / 64) 0 % 2 ^ (n % 64)
    cut = early (n / 64) (omega arith) ∙ get_or-set_same ws (n / 64) x 0 h ∙ e

    behind : (w : ℕ) → n / 64 < w → get_or exit w 0 ≡ 0
    unfolding exit
    behind w g =
        let u : w ≡ length (take (n / 64 + 1) (set ws (n / 64) x)) + (w - (n / 64 + 1)) = omega (arith, front) in
        ap (λ (y : ℕ). get_or exit y 0) u
        ∙ get_or-append-add (take (n / 64 + 1) (set ws (n / 64) x)) (replicate (length (set ws (n / 64) x) - (n / 64 + 1)) 0) (w - (n / 64 + 1)) 0
        ∙ zeros_at (length (set ws (n / 64) x) - (n / 64 + 1)) (w - (n / 64 + 1))

    where_is : (w : ℕ) → (w < n / 64) ⊎ ((w ≡ n / 64) ⊎ (n / 64 < w))
    where_is w = elim (dec_lt w (n / 64)) [ yes a ↦ inl a | no a ↦ elim (dec_lt (n / 64) w) [ yes b ↦ inr (inr b) | no b ↦ inr (inl (omega arith)) ] ]

    exit_below : Below (2 ^ 64) exit
    exit_below w = go (where_is w)
      where
        go : (w < n / 64) ⊎ ((w ≡ n / 64) ⊎ (n / 64 < w)) → get_or exit w 0 < 2 ^ 64
        go (inl a) = subst (λ (y : ℕ). y < 2 ^ 64) (sym (before w a)) (fits w)
        go (inr (inl a)) =
            subst (λ (y : ℕ). y < 2 ^ 64) (sym (ap (λ (y : ℕ). get_or exit y 0) a ∙ cut)) (lt_of_le_of_lt (mod-le (get_or ws (n / 64) 0) (2 ^ (n % 64))) (fits (n / 64)))
        go (inr (inr a)) = subst (λ (y : ℕ). y < 2 ^ 64) (sym (behind w a)) (omega arith)

    bits_are : (i : ℕ) → bit_at exit i ≡ get_or (bits_of ws n) i false
    unfolding bit_at
    bits_are i = go (lt_or_ge i n) (where_is (i / 64))
      where
        none : n ≤ i → get_or (bits_of ws n) i false ≡ false
        none a = get_or-eq_default (bits_of ws n) false {n = i} (omega (arith, length_bits ws n))

        go : (i < n) ⊎ (n ≤ i) → (i / 64 < n / 64) ⊎ ((i / 64 ≡ n / 64) ⊎ (n / 64 < i / 64)) → bit_at exit i ≡ get_or (bits_of ws n) i false
        go (inl a) (inl b) = ap (λ (y : ℕ). eqb (bit y (i % 64)) 1) (before (i / 64) b) ∙ sym (bits_at ws n i a)
        go (inl a) (inr (inl b)) =
            ap (λ (y : ℕ). eqb (bit y (i % 64)) 1) (ap (λ (y : ℕ). get_or exit y 0) b ∙ cut)
            ∙ ap (λ (y : ℕ). eqb y 1) (bit_low (get_or ws (n / 64) 0) (n % 64) (i % 64) (omega arith))
            ∙ ap (λ (y : ℕ). eqb (bit (get_or ws y 0) (i % 64)) 1) (sym b)
            ∙ sym (bits_at ws n i a)
        go (inl a) (inr (inr b)) = absurd (omega arith)
        go (inr a) (inl b) = absurd (omega arith)
        go (inr a) (inr (inl b)) =
            ap (λ (y : ℕ). eqb (bit y (i % 64)) 1) (ap (λ (y : ℕ). get_or exit y 0) b ∙ cut)
            ∙ ap (λ (y : ℕ). eqb y 1) (bit_past (get_or ws (n / 64) 0 % 2 ^ (n % 64)) (n % 64) (i % 64) (mod-lt (get_or ws (n / 64) 0) (pow_pos (n % 64))) (omega arith))
            ∙ sym (none a)
        go (inr a) (inr (inr b)) = ap (λ (y : ℕ). eqb (bit y (i % 64)) 1) (behind (i / 64) b) ∙ ap (λ (y : ℕ). eqb y 1) (bit_none (i % 64)) ∙ sym (none a)

    pub trim_some : (s : List ℕ) → s ≡ replicate (length (take (length (set ws (n / 64) x) - (n / 64 + 1)) (drop (n / 64 + 1) (set ws (n / 64) x)))) 0
        → take (n / 64 + 1) (set ws (n / 64) x) ++ (s ++ drop (length (set ws (n / 64) x) - (n / 64 + 1)) (drop (n / 64 + 1) (set ws (n / 64) x))) ≡ pack (length ws) (bits_of ws n)
    unfolding exit
    trim_some s q =
        part_zero (set ws (n / 64) x) s (n / 64 + 1) q
        ∙ is_pack exit (length ws) (bits_of ws n) exit_length exit_below (λ i g. bits_are i)
