-- One word: its bits as a list, and each question answered from its bits as numbers, over any width.
use mathlib.Core.Path.{◌≡◌, refl, sym, ap, ◌∙◌, subst}
use mathlib.Core.Bool.{Bool, true, false, not}
use mathlib.Core.Logic.{◌⊎◌}
use mathlib.Core.List.{map}
use Prim.Native.Nat.{ℕ, zero, suc, ◌+◌, ◌-◌, ◌^◌, ◌≤◌, ◌<◌}
use native.Mathlib.Nat.{zero-add}
use native.Mathlib.Omega.{arith}
use lib.Dec.{eqb}
use lib.ListN.{length, get_or}
use lib.Seq.{ext_get_or}
use borrow.Author.Tests.{lt-ltb, le-ltb, eqb-true}
use Rattle.meaning.specs.Answers.{Answer, is, nothing, refused, place, close, provided}
use Rattle.meaning.specs.Bits.{bit, as_bit, with_bit}
use Rattle.meaning.specs.Count.{count}
use Rattle.meaning.specs.Plain.{side, plain_rank}
use Rattle.meaning.specs.Match.{close_of}
use Rattle.meaning.specs.Word.{word_bits, in_width, word_get, word_set, word_ones, word_rank, word_select, word_pred, word_succ, if_inside, word_close}
use Rattle.meaning.proofs.If.{if_true, if_false}
use Rattle.meaning.proofs.Tab.{length_tab, get_d_tab}
use Rattle.meaning.proofs.Bit.{bit_lt, bit_not}
use Rattle.meaning.proofs.Plain.{length_map, get_d_map, rank_zero, ones_all, rank_at, select_at, select_none, pred_at, pred_none, succ_at, succ_none}

pub length_word : (w x : ℕ) → length (word_bits w x) ≡ w
unfolding word_bits
length_word w x = length_tab (λ i. eqb (bit x i) 1) 0 w

pub at_word : (w x i : ℕ) → i < w → get_or (word_bits w x) i false ≡ eqb (bit x i) 1
unfolding word_bits
at_word w x i h = get_d_tab (λ i. eqb (bit x i) 1) 0 w i false h ∙ ap (λ (n : ℕ). eqb (bit x n) 1) (zero-add i)

-- a test for 1 as a number is the bit again
pub as_bit_lem : (n : ℕ) → n < 2 → as_bit (eqb n 1) ≡ n
as_bit_lem zero h = refl
as_bit_lem (suc zero) h = refl
as_bit_lem (suc (suc n)) h = absurd (omega arith)

same : (w x i : ℕ) → i < length (word_bits w x) → bit x i ≡ as_bit (get_or (word_bits w x) i false)
same w x i h = sym (ap as_bit (at_word w x i (omega (arith, length_word w x))) ∙ as_bit_lem (bit x i) (bit_lt x i))

-- "A bit index at or past the width is PLACE"
pub inside : (w i : ℕ) (a : Answer ℕ) → i < w → in_width w i a ≡ a
unfolding in_width provided
inside w i a h = rw (lt-ltb i w h)

pub outside : (w i : ℕ) (a : Answer ℕ) → w ≤ i → in_width w i a ≡ refused (place i)
unfolding in_width provided
outside w i a h = rw (le-ltb i w h)

module _ (w x i : ℕ) where
  pub get_in : i < w → word_get w x i ≡ is (as_bit (eqb (bit x i) 1))
  unfolding word_get
  get_in h = inside w i (is (bit x i)) h ∙ ap is (sym (as_bit_lem (bit x i) (bit_lt x i)))

  pub get_out : w ≤ i → word_get w x i ≡ refused (place i)
  unfolding word_get
  get_out h = outside w i (is (bit x i)) h

  pub set_in : (b : Bool) → i < w → word_set w x i b ≡ is (with_bit x i (as_bit b))
  unfolding word_set
  set_in b h = inside w i (is (with_bit x i (as_bit b))) h

  pub set_out : (b : Bool) → w ≤ i → word_set w x i b ≡ refused (place i)
  unfolding word_set
  set_out b h = outside w i (is (with_bit x i (as_bit b))) h

pub ones_word : (w x : ℕ) → word_ones w x ≡ count (bit x) w
unfolding word_ones
ones_word w x = ones_all (word_bits w x) (bit x) (same w x) ∙ ap (count (bit x)) (length_word w x)

-- ---- rank
module _ (w x i : ℕ) where
  within : i < w → i < length (word_bits w x)
  within h = omega (arith, length_word w x)

  pub rank_in : (n : ℕ) → i < w → n ≡ count (bit x) (i + 1) → word_rank true w x i ≡ is n
  unfolding word_rank side
  rank_in n h e = inside w i _ h ∙ ap is (rank_at (word_bits w x) (bit x) (same w x) i (within h) ∙ sym e)

  -- "index + 1 minus rank_one"
  pub rank_zero_in : (n : ℕ) → i < w → n ≡ i + 1 - count (bit x) (i + 1) → word_rank false w x i ≡ is n
  unfolding word_rank side
  rank_zero_in n h e =
      let u : plain_rank (side false (word_bits w x)) i ≡ n =
      omega (arith, rank_zero (word_bits w x) i (within h), rank_at (word_bits w x) (bit x) (same w x) i (within h)) in
      inside w i _ h ∙ ap is u

  pub rank_out : (b : Bool) → w ≤ i → word_rank b w x i ≡ refused (place i)
  unfolding word_rank
  rank_out b h = outside w i _ h

-- ---- select, pred and succ of the ones
module _ (w x : ℕ) where
  long : (i : ℕ) → i < w → i < length (word_bits w x)
  long i h = omega (arith, length_word w x)

  short : (i : ℕ) → i < length (word_bits w x) → i < w
  short i h = omega (arith, length_word w x)

  pub select_in : (k i : ℕ) → i < w → bit x i ≡ 1 → count (bit x) i + 1 ≡ k → word_select true w x k ≡ is i
  unfolding word_select side
  select_in k i h e q = select_at (word_bits w x) (bit x) (same w x) k i (long i h) e q

  pub select_nothing : (k : ℕ) → (k ≡ 0) ⊎ (count (bit x) w < k) → word_select true w x k ≡ nothing
  unfolding word_select side
  select_nothing k h = select_none (word_bits w x) (bit x) (same w x) k (subst (λ (n : ℕ). (k ≡ 0) ⊎ (count (bit x) n < k)) (sym (length_word w x)) h)

  pub pred_in : (i j : ℕ) → i < w → j ≤ i → bit x j ≡ 1 → ((m : ℕ) → j < m → m ≤ i → bit x m ≡ 0) → word_pred true w x i ≡ is j
  unfolding word_pred side
  pred_in i j h a e z = inside w i _ h ∙ pred_at (word_bits w x) (bit x) (same w x) i j a (long j (omega arith)) e (λ m p q _. z m p q)

  pub pred_here : (i : ℕ) → i < w → eqb (bit x i) 1 ≡ true → word_pred true w x i ≡ is i
  pred_here i h t = pred_in i i h (omega arith) (eqb-true (bit x i) 1 t) (λ m p q. absurd (omega arith))

  pub pred_nothing : (i : ℕ) → i < w → ((m : ℕ) → m ≤ i → bit x m ≡ 0) → word_pred true w x i ≡ nothing
  unfolding word_pred side
  pred_nothing i h z = inside w i _ h ∙ pred_none (word_bits w x) (bit x) (same w x) i (λ m q _. z m q)

  pub pred_out : (b : Bool) (i : ℕ) → w ≤ i → word_pred b w x i ≡ refused (place i)
  unfolding word_pred
  pred_out b i h = outside w i _ h

  pub succ_in : (i j : ℕ) → i ≤ j → j < w → bit x j ≡ 1 → ((m : ℕ) → i ≤ m → m < j → bit x m ≡ 0) → word_succ true w x i ≡ is j
  unfolding word_succ side
  succ_in i j a h e z = inside w i _ (omega arith) ∙ succ_at (word_bits w x) (bit x) (same w x) i j a (long j h) e z

  pub succ_here : (i : ℕ) → i < w → eqb (bit x i) 1 ≡ true → word_succ true w x i ≡ is i
  succ_here i h t = succ_in i i (omega arith) h (eqb-true (bit x i) 1 t) (λ m p q. absurd (omega arith))

  pub succ_nothing : (i : ℕ) → i < w → ((m : ℕ) → i ≤ m → m < w → bit x m ≡ 0) → word_succ true w x i ≡ nothing
  unfolding word_succ side
  succ_nothing i h z = inside w i _ h ∙ succ_none (word_bits w x) (bit x) (same w x) i (λ m p q. z m p (short m q))

  pub succ_out : (b : Bool) (i : ℕ) → w ≤ i → word_succ b w x i ≡ refused (place i)
  unfolding word_succ
  succ_out b i h = outside w i _ h

-- ---- the zeros of a word are the ones of its complement
module _ (w x : ℕ) (f : x < 2 ^ w) where
  pub flipped : word_bits w (2 ^ w - 1 - x) ≡ side false (word_bits w x)
  unfolding side
  flipped =
      ext_get_or false (word_bits w (2 ^ w - 1 - x)) (map not (word_bits w x))
      (length_word w (2 ^ w - 1 - x) ∙ sym (length_map (word_bits w x) ∙ length_word w x))
      (λ i h. one i (omega (arith, length_word w (2 ^ w - 1 - x))))
    where
      by : (n : ℕ) → n < 2 → eqb (1 - n) 1 ≡ not (eqb n 1)
      by zero h = refl
      by (suc zero) h = refl
      by (suc (suc n)) h = absurd (omega arith)

      one : (i : ℕ) → i < w → get_or (word_bits w (2 ^ w - 1 - x)) i false ≡ get_or (map not (word_bits w x)) i false
      one i h =
          at_word w (2 ^ w - 1 - x) i h ∙ ap (λ (n : ℕ). eqb n 1) (bit_not w x i f h) ∙ by (bit x i) (bit_lt x i)
          ∙ sym (get_d_map (word_bits w x) i (omega (arith, length_word w x)) ∙ ap not (at_word w x i h))

  pub select_zeros : (k : ℕ) → word_select true w (2 ^ w - 1 - x) k ≡ word_select false w x k
  unfolding word_select side
  select_zeros k = rw flipped

  pub pred_zeros : (i : ℕ) → word_pred true w (2 ^ w - 1 - x) i ≡ word_pred false w x i
  unfolding word_pred side
  pred_zeros i = rw flipped

  pub succ_zeros : (i : ℕ) → word_succ true w (2 ^ w - 1 - x) i ≡ word_succ false w x i
  unfolding word_succ side
  succ_zeros i = rw flipped

-- ---- the close
module _ (w x i : ℕ) where
  pub close_out : w ≤ i → word_close w x i ≡ refused (place i)
  unfolding word_close
  close_out h = outside w i _ h

  -- "get_close on a close has no sound answer: here CLOSE"
  pub close_shut : i < w → eqb (bit x i) 1 ≡ false → word_close w x i ≡ refused (close i)
  unfolding word_close provided
  close_shut h e = inside w i _ h ∙ rw e

  module _ (h : i < w) (e : eqb (bit x i) 1 ≡ true) where
    pub close_in : (c : ℕ) → close_of (word_bits w x) i ≡ c → c < w → word_close w x i ≡ is c
    unfolding word_close provided if_inside
    close_in c q l = inside w i _ h ∙ rw (e, q) (if_true _ _ (lt-ltb c w l))

    pub close_nothing : close_of (word_bits w x) i ≡ w → word_close w x i ≡ nothing
    unfolding word_close provided if_inside
    close_nothing q = inside w i _ h ∙ rw (e, q) (if_false _ _ (le-ltb w w (omega arith)))
