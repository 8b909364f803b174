-- A place inside a word of w bits, held in one of 64.
use mathlib.Core.Path.{◌≡◌, refl, ap, ap₂, sym, ◌∙◌}
use mathlib.Core.Bool.{Bool, true, false}
use Prim.Native.Nat.{ℕ, suc, ◌+◌, ◌%◌, ◌^◌, ◌≤◌, ◌<◌}
use native.Mathlib.Decide.{dec_le}
use native.Mathlib.Omega.{arith}
use native.Mathlib.Nat.{mod-eq_of_lt, lt_of_lt_of_le}
use lib.Dec.{eqb}
use lib.Pow.{pow-lt}
use Rattle.meaning.specs.Bits.{bit, as_bit, with_bit}
use Rattle.meaning.specs.Answers.{Refusal, Answer, is, refused, place}
use Rattle.meaning.specs.Count.{count}
use Rattle.meaning.specs.Word.{word_rank}
use Rattle.meaning.proofs.Ones.{bits_le}
use Rattle.meaning.proofs.Mask.{with_lt, as_bit_lt}
use Rattle.meaning.proofs.Word.{rank_in, rank_out, rank_zero_in}

pub below : {i w : ℕ} → i < w → w ≤ 64 → i < 64
below h f = lt_of_lt_of_le h f

-- a word of one bit or more holds 1
pub one_fits : {w : ℕ} → 1 ≤ w → 1 % 2 ^ w ≡ 1
one_fits h = mod-eq_of_lt (pow-lt h)

-- its bit is that of the word widened
pub bit_in : {x y i w : ℕ} → x ≡ y → i < w → w ≤ 64 → eqb (bit x (i % 64)) 1 ≡ eqb (bit y i) 1
bit_in e h l = ap₂ (λ (x i : ℕ). eqb (bit x i) 1) e (mod-eq_of_lt (below h l))

-- and so is what a test of it says
pub bit_told : {b d : Bool} {x y i w : ℕ} → b ≡ eqb (bit x (i % 64)) 1 → b ≡ d → x ≡ y → i < w → w ≤ 64 → eqb (bit y i) 1 ≡ d
bit_told p q e h l = sym (p ∙ bit_in e h l) ∙ q

-- the widened word with it changed is the word with it changed
pub set_within : {v x y w i : ℕ} (b : Bool) → v ≡ with_bit x (i % 64) (as_bit b) → x ≡ y → y < 2 ^ w → i < w → w ≤ 64 → v % 2 ^ w ≡ with_bit y i (as_bit b)
set_within {v} {x} {y} {w} {i} b e p f h l =
    let s : v ≡ with_bit y i (as_bit b) = e ∙ ap₂ (λ (x i : ℕ). with_bit x i (as_bit b)) p (mod-eq_of_lt (below h l)) in
    ap (λ (n : ℕ). n % 2 ^ w) s ∙ mod-eq_of_lt (with_lt w y i (as_bit b) f h (as_bit_lt b))

-- what rank_one says of its place, by its answer
pub rank_told : (w x i n : ℕ) → ◌≡◌ {A = Answer ℕ} (is n) (word_rank true w x i) → (i < w) × (n ≡ count (bit x) (i + 1))
rank_told w x i n e = go (dec_le (suc i) w)
  where
    go : Dec (suc i ≤ w) → (i < w) × (n ≡ count (bit x) (i + 1))
    go (yes h) =
        let p : ◌≡◌ {A = Answer ℕ} (is n) (is (count (bit x) (i + 1))) = e ∙ rank_in w x i (count (bit x) (i + 1)) h refl in
        (h, cc)
    go (no f) = let p : ◌≡◌ {A = Answer ℕ} (is n) (refused (place i)) = e ∙ rank_out w x i true (omega arith) in absurd cc

pub rank_refused : (w x i : ℕ) (r : Refusal) → ◌≡◌ {A = Answer ℕ} (refused r) (word_rank true w x i) → ◌≡◌ {A = Answer ℕ} (refused r) (word_rank false w x i)
rank_refused w x i r e = go (dec_le (suc i) w)
  where
    go : Dec (suc i ≤ w) → ◌≡◌ {A = Answer ℕ} (refused r) (word_rank false w x i)
    go (yes h) = let p : ◌≡◌ {A = Answer ℕ} (refused r) (is (count (bit x) (i + 1))) = e ∙ rank_in w x i (count (bit x) (i + 1)) h refl in absurd cc
    go (no f) = let g : w ≤ i = omega arith in e ∙ rank_out w x i true g ∙ sym (rank_out w x i false g)

-- what the steps of rank_zero rest on
pub ruleset zeros = (rank_told, rank_refused, rank_zero_in, bits_le)
