-- The parts of scratch, bit by bit, and what a store leaves of each.
use mathlib.Core.Path.{◌≡◌, sym, ap, ap₂, ◌∙◌}
use mathlib.Core.Bool.{Bool, true, false}
use mathlib.Core.List.{List, [], ◌++◌, append-nil}
use mathlib.Core.Logic.{◌⊎◌, inl, inr}
use Prim.Native.Nat.{ℕ, ◌+◌, ◌-◌, ◌*◌, ◌/◌, ◌%◌, ◌≤◌, ◌<◌}
use native.Mathlib.Decide.{dec_lt}
use native.Mathlib.Omega.{arith}
use lib.ListN.{length, get_or, set, take, drop, replicate, length-drop, length-replicate, get_or-replicate, get_or-eq_default, drop_of_length-le, take-append-drop}
use lib.Seq.{slice, take_all, length-take-le, drop-append-le, get_or-drop, drop-set-add, drop-set-lt, take-set-le}
use borrow.Author.Tests.{leb-true}
use Rattle.meaning.specs.Bits.{as_bit, with_bit, bit_at, stored}
use Rattle.meaning.proofs.If.{both}
use Rattle.meaning.proofs.Stored.{bit_at_drop, length_bits, bits_at, bits_same}
use Rattle.pioneers.specs.Scratch.{text_of, flags_of, fits_in}
use Rattle.pioneers.specs.declared.flags.Layout.{Layout}

pub lt_or_ge : (a b : ℕ) → (a < b) ⊎ (b ≤ a)
lt_or_ge a b = elim (dec_lt a b) [ yes h ↦ inl h | no h ↦ inr (omega arith) ]

-- a bit goes by its word
pub bit_kept : (a b : List ℕ) (w j : ℕ) → get_or a ((64 * w + j) / 64) 0 ≡ get_or b ((64 * w + j) / 64) 0 → bit_at a (64 * w + j) ≡ bit_at b (64 * w + j)
unfolding bit_at
bit_kept a b w j e = rw e

-- a store there, before it and past it
pub drop_stored : (ws : List ℕ) (b j : ℕ) (v : Bool) → drop b (stored ws (64 * b + j) v) ≡ stored (drop b ws) j v
unfolding stored
drop_stored ws b j v =
    let d : (64 * b + j) / 64 ≡ b + j / 64 = omega arith in
    let m : (64 * b + j) % 64 ≡ j % 64 = omega arith in
    ap₂ (λ (x y : ℕ). drop b (set ws x (with_bit (get_or ws x 0) y (as_bit v)))) d m
    ∙ drop-set-add b ws (j / 64) (with_bit (get_or ws (b + j / 64) 0) (j % 64) (as_bit v))
    ∙ ap (λ (x : ℕ). set (drop b ws) (j / 64) (with_bit x (j % 64) (as_bit v))) (sym (get_or-drop b ws (j / 64) 0))

pub drop_stored_lt : (ws : List ℕ) (b i : ℕ) (v : Bool) → i < 64 * b → drop b (stored ws i v) ≡ drop b ws
unfolding stored
drop_stored_lt ws b i v h = drop-set-lt b ws (i / 64) _ (omega arith)

pub take_stored_le : (ws : List ℕ) (b i : ℕ) (v : Bool) → 64 * b ≤ i → take b (stored ws i v) ≡ take b ws
unfolding stored
take_stored_le ws b i v h = take-set-le b ws (i / 64) _ (omega arith)

-- zeros, and zeros in front of what is left
pub zeros_at : (k x : ℕ) → get_or (replicate {A = ℕ} k 0) x 0 ≡ 0
zeros_at k x = go (lt_or_ge x k)
  where
    go : (x < k) ⊎ (k ≤ x) → get_or (replicate {A = ℕ} k 0) x 0 ≡ 0
    go (inl h) = get_or-replicate k x 0 0 h
    go (inr h) = get_or-eq_default (replicate k 0) 0 {n = x} (omega (arith, length-replicate {A = ℕ} k 0))

-- the part from k on, lent and made anew
pub part_new : (d s : List ℕ) (k : ℕ) → take k d ++ (s ++ drop (length d - k) (drop k d)) ≡ take k d ++ s
part_new d s k =
    let c : drop (length d - k) (drop k d) ≡ [] = drop_of_length-le (drop k d) {i = length d - k} (omega (arith, length-drop k d)) in
    ap (λ (x : List ℕ). take k d ++ (s ++ x)) c ∙ ap (λ (x : List ℕ). take k d ++ x) (append-nil s)

-- what was lent
pub part_is : (d : List ℕ) (k : ℕ) → take (length d - k) (drop k d) ≡ drop k d
part_is d k = take_all (length d - k) (drop k d) (omega (arith, length-drop k d))

pub part_zero : (d s : List ℕ) (k : ℕ) → s ≡ replicate (length (take (length d - k) (drop k d))) 0
    → take k d ++ (s ++ drop (length d - k) (drop k d)) ≡ take k d ++ replicate (length d - k) 0
part_zero d s k e =
    let b : length (take (length d - k) (drop k d)) ≡ length d - k = ap length (part_is d k) ∙ length-drop k d in
    part_new d s k ∙ ap (λ (x : List ℕ). take k d ++ x) (e ∙ ap (λ (n : ℕ). replicate n 0) b)

-- the first k words made zero
pub front_zero : (d s : List ℕ) (k : ℕ) → k ≤ length d → s ≡ replicate (length (take k d)) 0 → s ++ drop k d ≡ replicate k 0 ++ drop k d
front_zero d s k h e = ap (λ (x : List ℕ). x ++ drop k d) (e ∙ ap (λ (n : ℕ). replicate n 0) (length-take-le k d h))

-- what is left of two parts, the first and then the second
pub drop_split : (a b : ℕ) (l : List ℕ) → a ≤ b → drop a l ≡ slice a b l ++ drop b l
drop_split a b l h = go (lt_or_ge (length l) b)
  where
    go : (length l < b) ⊎ (b ≤ length l) → drop a l ≡ slice a b l ++ drop b l
    go (inl g) =
        sym (ap₂ (λ (x y : List ℕ). drop a x ++ y) (take_all b l (omega arith)) (drop_of_length-le l {i = b} (omega arith)) ∙ append-nil (drop a l))
    go (inr g) =
        ap (drop a) (sym (take-append-drop b l)) ∙ drop-append-le a (take b l) (drop b l) (omega (arith, length-take-le b l g))

-- the parts fit, number by number
pub record Fits (lay : Layout) (k : ℕ) : Type 0 where
  pub order : lay.text ≤ lay.flags
  pub inside : lay.flags ≤ k
  pub small : lay.flags ≤ 33554432
  pub stack : lay.bits ≤ 2 * lay.text
  pub text : lay.bits ≤ 64 * (lay.flags - lay.text)
  pub top : lay.bits ≤ 64 * (k - lay.flags)

pub fits_are : (lay : Layout) (k : ℕ) → fits_in lay k ≡ true → Fits lay k
unfolding fits_in
fits_are lay k e =
    let a = both _ _ e in
    let b = both _ _ a.1 in
    let c = both _ _ b.1 in
    let d = both _ _ c.1 in
    let f = both _ _ d.1 in
    record {
      order = leb-true _ _ a.0;
      inside = leb-true _ _ b.0;
      small = leb-true _ _ c.0;
      stack = leb-true _ _ d.0;
      text = leb-true _ _ f.0;
      top = leb-true _ _ f.1;
    }

-- the string of scratch, and its flags, bit by bit
module _ (scr : List ℕ) (lay : Layout) where
  pub text_length : length (text_of scr lay) ≡ lay.bits
  unfolding text_of
  text_length = length_bits (drop lay.text scr) lay.bits

  pub text_bit : (i : ℕ) → i < lay.bits → get_or (text_of scr lay) i false ≡ bit_at scr (64 * lay.text + i)
  unfolding text_of
  text_bit i h = bits_at (drop lay.text scr) lay.bits i h ∙ bit_at_drop scr lay.text i

  pub flags_length : length (flags_of scr lay) ≡ lay.bits
  unfolding flags_of
  flags_length = length_bits (drop lay.flags scr) lay.bits

  pub flags_bit : (i : ℕ) → i < lay.bits → get_or (flags_of scr lay) i false ≡ bit_at scr (64 * lay.flags + i)
  unfolding flags_of
  flags_bit i h = bits_at (drop lay.flags scr) lay.bits i h ∙ bit_at_drop scr lay.flags i

-- the string goes by the words of its part
pub text_same : (a b : List ℕ) (lay : Layout) (k : ℕ) → Fits lay k → ((w : ℕ) → lay.text ≤ w → w < lay.flags → get_or a w 0 ≡ get_or b w 0) → text_of a lay ≡ text_of b lay
unfolding text_of
text_same a b lay k f h =
    bits_same (drop lay.text a) (drop lay.text b) lay.bits
    (λ i l.
    bit_at_drop a lay.text i
    ∙ bit_kept a b lay.text i (h ((64 * lay.text + i) / 64) (omega arith) (omega (arith, f.text, f.order)))
    ∙ sym (bit_at_drop b lay.text i))
