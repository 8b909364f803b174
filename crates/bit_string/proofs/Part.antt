-- The ones or the zeros of one word before the length, and their count word by word.
use mathlib.Core.Path.{◌≡◌, sym, ap, ap₂, ◌∙◌}
use mathlib.Core.Bool.{Bool, true, false}
use mathlib.Core.List.{List}
use Prim.Native.Nat.{ℕ, ◌+◌, ◌-◌, ◌*◌, ◌/◌, ◌%◌, ◌^◌, ◌≤◌, ◌<◌}
use native.Mathlib.Nat.{mod-lt}
use native.Mathlib.Decide.{dec_le}
use native.Mathlib.Omega.{arith}
use lib.Dec.{eqb}
use lib.ListN.{get_or, take, drop}
use lib.Pow.{pow_pos}
use lib.Seq.{take-add, take_all, get_or-drop}
use Rattle.meaning.specs.Bits.{opens, bit, bits_of}
use Rattle.meaning.specs.Plain.{side}
use Rattle.meaning.specs.Word.{word_bits, word_ones}
use Rattle.meaning.proofs.Bit.{bit_none, bit_low, bit_past}
use Rattle.meaning.proofs.Tab.{opens_append}
use Rattle.meaning.proofs.Stored.{bit_at_word}
use Rattle.meaning.proofs.Sought.{ones_still, ones_same}
use Rattle.meaning.proofs.Word.{length_word, at_word, flipped}
use Rattle.meaning.proofs.BitString.{sided, side_at, mark_in, mark_past}
use Rattle.bit_string.specs.Part.{Sided, Marked}

-- ---- a word's ones, or its zeros

pub sided_one : (b : Bool) (x : ℕ) → b ≡ true → Sided b x x
unfolding side
sided_one b x e = record { bits = ap (λ c. side c (word_bits 64 x)) (sym e) }

pub sided_zero : (b : Bool) (x : ℕ) → b ≡ false → x < 2 ^ 64 → Sided b x (2 ^ 64 - 1 - x)
sided_zero b x e h = record { bits = flipped 64 x h ∙ ap (λ c. side c (word_bits 64 x)) (sym e) }

-- ---- the three ways in which word q lies to the length

module _ (b : Bool) (ws : List ℕ) (n q : ℕ) where
  pub marked_none : n / 64 < q → Marked (side b (bits_of ws n)) q 0
  marked_none g = record {
    bits = λ j h. at_word 64 0 j h ∙ ap (λ x. eqb x 1) (bit_none j) ∙ sym (mark_past b ws n (64 * q + j) (omega arith));
  }

  module _ (w x : ℕ) (e : w ≡ get_or ws q 0) (s : Sided b w x) where
    mark_bit : (j : ℕ) → j < 64 → 64 * q + j < n → get_or (word_bits 64 x) j false ≡ get_or (side b (bits_of ws n)) (64 * q + j) false
    mark_bit j h l =
        ap (λ k. get_or k j false) s.bits
        ∙ side_at b (word_bits 64 w) j (omega (arith, length_word 64 w))
        ∙ ap (sided b) (at_word 64 w j h ∙ ap (λ y. eqb (bit y j) 1) e ∙ sym (bit_at_word ws q j h))
        ∙ sym (mark_in b ws n (64 * q + j) l)

    pub marked_whole : q < n / 64 → Marked (side b (bits_of ws n)) q x
    marked_whole g = record { bits = λ j h. mark_bit j h (omega arith) }

    pub marked_part : q ≤ n / 64 → n / 64 ≤ q → (r : ℕ) → r ≡ x % 2 ^ (n % 64) → Marked (side b (bits_of ws n)) q r
    marked_part f g r p = record { bits = λ j h. go j h (dec_le (n % 64) j) }
      where
        go : (j : ℕ) → j < 64 → Dec (n % 64 ≤ j) → get_or (word_bits 64 r) j false ≡ get_or (side b (bits_of ws n)) (64 * q + j) false
        go j h (yes l) =
            at_word 64 r j h ∙ ap (λ y. eqb (bit y j) 1) p ∙ ap (λ y. eqb y 1) (bit_past (x % 2 ^ (n % 64)) (n % 64) j (mod-lt x (pow_pos (n % 64))) l)
            ∙ sym (mark_past b ws n (64 * q + j) (omega arith))
        go j h (no l) =
            at_word 64 r j h ∙ ap (λ y. eqb (bit y j) 1) p ∙ ap (λ y. eqb y 1) (bit_low x (n % 64) j (omega arith))
            ∙ sym (at_word 64 x j h) ∙ mark_bit j h (omega arith)

-- ---- counting by words

ones_word : (x : ℕ) → word_ones 64 x ≡ opens (take 64 (word_bits 64 x))
unfolding word_ones
ones_word x = sym (ap opens (take_all 64 (word_bits 64 x) (omega (arith, length_word 64 x))))

-- the ones of the k low bits
ones_low : (x k : ℕ) → k ≤ 64 → word_ones 64 (x % 2 ^ k) ≡ opens (take k (word_bits 64 x))
ones_low x k h =
    ones_word (x % 2 ^ k)
    ∙ ones_still (word_bits 64 (x % 2 ^ k)) k 64 h
    (λ j p q. at_word 64 (x % 2 ^ k) j q ∙ ap (λ y. eqb y 1) (bit_past (x % 2 ^ k) k j (mod-lt x (pow_pos k)) p))
    ∙ ones_same (word_bits 64 (x % 2 ^ k)) (word_bits 64 x) k
    (λ j p. at_word 64 (x % 2 ^ k) j (omega arith) ∙ ap (λ y. eqb y 1) (bit_low x k j p) ∙ sym (at_word 64 x j (omega arith)))

module _ {l : List Bool} {q x : ℕ} (m : Marked l q x) where
  -- k bits of word q behind the words before
  pub marks_more : (k : ℕ) → k ≤ 64 → opens (take (64 * q + k) l) ≡ opens (take (64 * q) l) + opens (take k (word_bits 64 x))
  marks_more k h =
      ap opens (take-add (64 * q) k l) ∙ opens_append (take (64 * q) l) (take k (drop (64 * q) l))
      ∙ ap (λ c. opens (take (64 * q) l) + c) (ones_same (drop (64 * q) l) (word_bits 64 x) k (λ j p. get_or-drop (64 * q) l j false ∙ sym (m.bits j (omega arith))))

  pub marks_word : (r o : ℕ) → r ≡ opens (take (64 * q) l) → o ≡ word_ones 64 x → r + o ≡ opens (take (64 * (q + 1)) l)
  marks_word r o e f =
      let u : 64 * q + 64 ≡ 64 * (q + 1) = omega arith in
      ap₂ (λ a b. a + b) e (f ∙ ones_word x) ∙ sym (marks_more 64 (omega arith)) ∙ ap (λ k. opens (take k l)) u

-- the words before place e, and e mod 64 bits more
pub marks_end : (l : List Bool) (e q x y r o : ℕ) → Marked l (e / 64) x → q ≡ e / 64 → y ≡ x % 2 ^ (e % 64) → r ≡ opens (take (64 * q) l) → o ≡ word_ones 64 y → r + o ≡ opens (take e l)
marks_end l e q x y r o m p f g h =
    let u : 64 * (e / 64) + e % 64 ≡ e = omega arith in
    ap₂ (λ a b. a + b) (g ∙ ap (λ k. opens (take (64 * k) l)) p) (h ∙ ap (word_ones 64) f ∙ ones_low x (e % 64) (omega arith))
    ∙ sym (marks_more m (e % 64) (omega arith)) ∙ ap (λ k. opens (take k l)) u
