-- Words by their bits: one bit stored, bits cleared, and what the bits of a string then are.
use mathlib.Core.Path.{◌≡◌, refl, sym, ap, ap₂, ◌∙◌, subst}
use mathlib.Core.Bool.{Bool, false}
use mathlib.Core.List.{List, [], ◌∷◌, ◌++◌}
use mathlib.Core.Logic.{◌⊎◌, inl, inr}
use Prim.Native.Nat.{ℕ, zero, suc, ◌+◌, ◌-◌, ◌*◌, ◌/◌, ◌%◌, ◌^◌, ◌≤◌, ◌<◌}
use native.Mathlib.Nat.{mod-lt, zero-add}
use native.Mathlib.Decide.{ℕ_discrete, dec_le, dec_lt}
use native.Mathlib.Omega.{arith}
use lib.Dec.{eqb}
use lib.ListN.{length, get_or, set, take, drop, replicate, length-set, get_or-eq_default}
use lib.Seq.{ext_get_or, get_or-set_same, get_or-set_other, get_or-take, get_or-drop, length-take-le, set_out}
use Rattle.meaning.specs.Bits.{bit, as_bit, with_bit, tab, bit_at, bits_of, stored, cleared}
use Rattle.meaning.proofs.Bit.{bit_lt, as_lt, as_eqb, eqb_as, bit_none, bit_set, bit_below, bit_above, with_lt, number_ext}
use Rattle.meaning.proofs.Tab.{Below, length_tab, get_d_tab, tab_snoc, tab_add, tab_same, tab_const}

-- the bit at a place, as a number
pub at_bit_lem : (ws : List ℕ) (i : ℕ) → as_bit (bit_at ws i) ≡ bit (get_or ws (i / 64) 0) (i % 64)
unfolding bit_at
at_bit_lem ws i = eqb_as (bit (get_or ws (i / 64) 0) (i % 64)) (bit_lt (get_or ws (i / 64) 0) (i % 64))

-- bit j of word q
pub bit_at_word : (ws : List ℕ) (q j : ℕ) → j < 64 → bit_at ws (64 * q + j) ≡ eqb (bit (get_or ws q 0) j) 1
unfolding bit_at
bit_at_word ws q j h =
    let d : (64 * q + j) / 64 ≡ q = omega arith in
    let m : (64 * q + j) % 64 ≡ j = omega arith in
    ap₂ (λ (a b : ℕ). eqb (bit (get_or ws a 0) b) 1) d m

pub word_bit : (ws : List ℕ) (q j : ℕ) → j < 64 → bit (get_or ws q 0) j ≡ as_bit (bit_at ws (64 * q + j))
word_bit ws q j h = sym (ap as_bit (bit_at_word ws q j h) ∙ eqb_as (bit (get_or ws q 0) j) (bit_lt (get_or ws q 0) j))

-- past the end every bit is a zero
pub bit_at_past : (ws : List ℕ) (i : ℕ) → 64 * length ws ≤ i → bit_at ws i ≡ false
unfolding bit_at
bit_at_past ws i h =
    ap (λ (x : ℕ). eqb (bit x (i % 64)) 1) (get_or-eq_default ws 0 (omega arith)) ∙ ap (λ (x : ℕ). eqb x 1) (bit_none (i % 64))

-- a bit of the words from b on
pub bit_at_drop : (ws : List ℕ) (b j : ℕ) → bit_at (drop b ws) j ≡ bit_at ws (64 * b + j)
unfolding bit_at
bit_at_drop ws b j =
    let d : b + j / 64 ≡ (64 * b + j) / 64 = omega arith in
    let m : j % 64 ≡ (64 * b + j) % 64 = omega arith in
    ap (λ (x : ℕ). eqb (bit x (j % 64)) 1) (get_or-drop b ws (j / 64) 0) ∙ ap₂ (λ (x y : ℕ). eqb (bit (get_or ws x 0) y) 1) d m

-- words are equal by their bits
pub word_ext : (a b : List ℕ) (v w : ℕ) → get_or a v 0 < 2 ^ 64 → get_or b w 0 < 2 ^ 64
    → ((j : ℕ) → j < 64 → bit_at a (64 * v + j) ≡ bit_at b (64 * w + j)) → get_or a v 0 ≡ get_or b w 0
word_ext a b v w p q h =
    number_ext 64 (get_or a v 0) (get_or b w 0) p q (λ j l. word_bit a v j l ∙ ap as_bit (h j l) ∙ sym (word_bit b w j l))

pub words_ext : (a b : List ℕ) → length a ≡ length b → Below (2 ^ 64) a → Below (2 ^ 64) b → ((i : ℕ) → i < 64 * length a → bit_at a i ≡ bit_at b i) → a ≡ b
words_ext a b e p q h = ext_get_or 0 a b e (λ w l. word_ext a b w w (p w) (q w) (λ j k. h (64 * w + j) (omega arith)))

-- ---- one bit stored

module _ (ws : List ℕ) (i : ℕ) (b : Bool) where
  abbrev new : ℕ
  new = with_bit (get_or ws (i / 64) 0) (i % 64) (as_bit b)

  pub length_stored : length (stored ws i b) ≡ length ws
  unfolding stored
  length_stored = length-set ws (i / 64) new

  -- past the end nothing changes
  pub stored_past : 64 * length ws ≤ i → stored ws i b ≡ ws
  unfolding stored
  stored_past h = set_out ws (i / 64) new (omega arith)

  -- another word is as it was
  pub stored_word : (w : ℕ) → (w ≡ i / 64 → ⊥) → get_or (stored ws i b) w 0 ≡ get_or ws w 0
  unfolding stored
  stored_word w e = get_or-set_other ws (i / 64) w new 0 e

  -- and each word still fits
  pub stored_below : Below (2 ^ 64) ws → Below (2 ^ 64) (stored ws i b)
  unfolding stored
  stored_below p w = go (ℕ_discrete w (i / 64)) (dec_le (length ws) (i / 64))
    where
      go : Dec (w ≡ i / 64) → Dec (length ws ≤ i / 64) → get_or (stored ws i b) w 0 < 2 ^ 64
      go (no e) l = subst (λ (x : ℕ). x < 2 ^ 64) (sym (stored_word w e)) (p w)
      go (yes e) (yes l) = subst (λ (s : List ℕ). get_or s w 0 < 2 ^ 64) (sym (set_out ws (i / 64) new l)) (p w)
      go (yes e) (no l) =
          subst (λ (x : ℕ). x < 2 ^ 64) (sym (ap (λ (x : ℕ). get_or (stored ws i b) x 0) e ∙ get_or-set_same ws (i / 64) new 0 (omega arith)))
          (with_lt (get_or ws (i / 64) 0) (i % 64) (as_bit b) (as_lt b) 64 (mod-lt i (omega arith)) (p (i / 64)))

  -- b there
  pub stored_here : i < 64 * length ws → bit_at (stored ws i b) i ≡ b
  unfolding stored bit_at
  stored_here h =
      ap (λ (x : ℕ). eqb (bit x (i % 64)) 1) (get_or-set_same ws (i / 64) new 0 (omega arith))
      ∙ ap (λ (x : ℕ). eqb x 1) (bit_set (get_or ws (i / 64) 0) (i % 64) (as_bit b) (as_lt b)) ∙ as_eqb b

  -- elsewhere as it was
  pub stored_other : (j : ℕ) → (j ≡ i → ⊥) → bit_at (stored ws i b) j ≡ bit_at ws j
  unfolding stored bit_at
  stored_other j n = go (ℕ_discrete (j / 64) (i / 64)) (dec_le (length ws) (i / 64)) (dec_lt (j % 64) (i % 64))
    where
      kept : Dec (j % 64 < i % 64) → j / 64 ≡ i / 64 → bit new (j % 64) ≡ bit (get_or ws (i / 64) 0) (j % 64)
      kept (yes l) e = bit_below (get_or ws (i / 64) 0) (i % 64) (as_bit b) (as_lt b) (j % 64) l
      kept (no l) e = bit_above (get_or ws (i / 64) 0) (i % 64) (as_bit b) (as_lt b) (j % 64) (omega arith)

      go : Dec (j / 64 ≡ i / 64) → Dec (length ws ≤ i / 64) → Dec (j % 64 < i % 64) → bit_at (stored ws i b) j ≡ bit_at ws j
      go (no e) l d = ap (λ (x : ℕ). eqb (bit x (j % 64)) 1) (stored_word (j / 64) e)
      go (yes e) (yes l) d = ap (λ (s : List ℕ). bit_at s j) (set_out ws (i / 64) new l)
      go (yes e) (no l) d =
          ap (λ (x : ℕ). eqb (bit x (j % 64)) 1) (ap (λ (x : ℕ). get_or (stored ws i b) x 0) e ∙ get_or-set_same ws (i / 64) new 0 (omega arith))
          ∙ ap (λ (x : ℕ). eqb x 1) (kept d e)
          ∙ ap (λ (x : ℕ). eqb (bit (get_or ws x 0) (j % 64)) 1) (sym e)

-- ---- bits cleared, one after another

pub length_cleared : (ws : List ℕ) (a k : ℕ) → length (cleared ws a k) ≡ length ws
unfolding cleared
length_cleared ws a zero = refl
length_cleared ws a (suc k) = length_cleared (stored ws a false) (suc a) k ∙ length_stored ws a false

pub cleared_below : (ws : List ℕ) (a k : ℕ) → Below (2 ^ 64) ws → Below (2 ^ 64) (cleared ws a k)
unfolding cleared
cleared_below ws a zero p = p
cleared_below ws a (suc k) p = cleared_below (stored ws a false) (suc a) k (stored_below ws a false p)

pub cleared_out : (ws : List ℕ) (a k i : ℕ) → (i < a) ⊎ (a + k ≤ i) → bit_at (cleared ws a k) i ≡ bit_at ws i
unfolding cleared
cleared_out ws a zero i h = refl
cleared_out ws a (suc k) i (inl l) = cleared_out (stored ws a false) (suc a) k i (inl (omega arith)) ∙ stored_other ws a false i (λ e. omega arith)
cleared_out ws a (suc k) i (inr l) = cleared_out (stored ws a false) (suc a) k i (inr (omega arith)) ∙ stored_other ws a false i (λ e. omega arith)

-- a zero at a place of the words
stored_zero : (ws : List ℕ) (a : ℕ) → bit_at (stored ws a false) a ≡ false
stored_zero ws a = go (dec_le (64 * length ws) a)
  where
    go : Dec (64 * length ws ≤ a) → bit_at (stored ws a false) a ≡ false
    go (yes h) = ap (λ (s : List ℕ). bit_at s a) (stored_past ws a false h) ∙ bit_at_past ws a h
    go (no h) = stored_here ws a false (omega arith)

pub cleared_in : (ws : List ℕ) (a k i : ℕ) → a ≤ i → i < a + k → bit_at (cleared ws a k) i ≡ false
unfolding cleared
cleared_in ws a zero i h l = absurd (omega arith)
cleared_in ws a (suc k) i h l = go (ℕ_discrete i a) (cleared_in (stored ws a false) (suc a) k i)
  where
    go : Dec (i ≡ a) → (suc a ≤ i → i < suc a + k → bit_at (cleared (stored ws a false) (suc a) k) i ≡ false) → bit_at (cleared (stored ws a false) (suc a) k) i ≡ false
    go (yes e) ih =
        cleared_out (stored ws a false) (suc a) k i (inl (omega arith)) ∙ ap (bit_at (stored ws a false)) e ∙ stored_zero ws a
    go (no n) ih = ih (omega arith) (omega arith)

-- ---- the bits of a string of n bits

pub length_bits : (ws : List ℕ) (n : ℕ) → length (bits_of ws n) ≡ n
unfolding bits_of
length_bits ws n = length_tab (bit_at ws) 0 n

pub bits_at : (ws : List ℕ) (n j : ℕ) → j < n → get_or (bits_of ws n) j false ≡ bit_at ws j
unfolding bits_of
bits_at ws n j h = get_d_tab (bit_at ws) 0 n j false h ∙ ap (bit_at ws) (zero-add j)

-- two strings with the same bits before n
pub bits_same : (a b : List ℕ) (n : ℕ) → ((i : ℕ) → i < n → bit_at a i ≡ bit_at b i) → bits_of a n ≡ bits_of b n
unfolding bits_of
bits_same a b n h = tab_same (bit_at a) (bit_at b) 0 n (λ j p q. h j (omega arith))

-- a shorter string of the same words
pub bits_take : (ws : List ℕ) (n m : ℕ) → m ≤ n → bits_of ws m ≡ take m (bits_of ws n)
bits_take ws n m h =
    let t : length (take m (bits_of ws n)) ≡ m = length-take-le m (bits_of ws n) (omega (arith, length_bits ws n)) in
    ext_get_or false (bits_of ws m) (take m (bits_of ws n)) (length_bits ws m ∙ sym t)
    (λ j q.
    let p : j < m = omega (arith, length_bits ws m) in
    bits_at ws m j p ∙ sym (get_or-take m (bits_of ws n) j false p ∙ bits_at ws n j (omega arith)))

-- set changes its bit
pub bits_stored : (ws : List ℕ) (n i : ℕ) (b : Bool) → n ≤ 64 * length ws → i < n → bits_of (stored ws i b) n ≡ set (bits_of ws n) i b
bits_stored ws n i b h l =
    ext_get_or false (bits_of (stored ws i b) n) (set (bits_of ws n) i b) (length_bits (stored ws i b) n ∙ sym (length-set (bits_of ws n) i b ∙ length_bits ws n))
    (λ j q. go j (omega (arith, length_bits (stored ws i b) n)) (ℕ_discrete j i))
  where
    go : (j : ℕ) → j < n → Dec (j ≡ i) → get_or (bits_of (stored ws i b) n) j false ≡ get_or (set (bits_of ws n) i b) j false
    go j q (yes e) =
        bits_at (stored ws i b) n j q ∙ ap (bit_at (stored ws i b)) e ∙ stored_here ws i b (omega arith)
        ∙ sym (ap (λ (x : ℕ). get_or (set (bits_of ws n) i b) x false) e ∙ get_or-set_same (bits_of ws n) i b false (omega (arith, length_bits ws n)))
    go j q (no d) =
        bits_at (stored ws i b) n j q ∙ stored_other ws i b j d ∙ sym (bits_at ws n j q) ∙ sym (get_or-set_other (bits_of ws n) i j b false d)

-- a bit stored at or past the length leaves the string
pub bits_stored_past : (ws : List ℕ) (n i : ℕ) (b : Bool) → n ≤ i → bits_of (stored ws i b) n ≡ bits_of ws n
bits_stored_past ws n i b h = bits_same (stored ws i b) ws n (λ j l. stored_other ws i b j (λ e. omega arith))

-- one bit more of the same words
pub bits_snoc : (ws : List ℕ) (n : ℕ) → bits_of ws (suc n) ≡ bits_of ws n ++ bit_at ws n ∷ []
unfolding bits_of
bits_snoc ws n = tab_snoc (bit_at ws) 0 n ∙ ap (λ (x : ℕ). tab (bit_at ws) 0 n ++ bit_at ws x ∷ []) (zero-add n)

-- push appends its bit
pub bits_push : (ws : List ℕ) (n : ℕ) (b : Bool) → suc n ≤ 64 * length ws → bits_of (stored ws n b) (suc n) ≡ bits_of ws n ++ b ∷ []
bits_push ws n b h =
    bits_snoc (stored ws n b) n ∙ ap₂ (λ s x. s ++ x ∷ []) (bits_stored_past ws n n b (omega arith)) (stored_here ws n b h)

-- a shorter length cuts the string, whatever is cleared behind it
pub bits_shrink : (ws : List ℕ) (n m : ℕ) → m ≤ n → bits_of (cleared ws m (n - m)) m ≡ take m (bits_of ws n)
bits_shrink ws n m h = bits_same (cleared ws m (n - m)) ws m (λ i l. cleared_out ws m (n - m) i (inl l)) ∙ bits_take ws n m h

-- a longer one appends zeros
pub bits_grow : (ws : List ℕ) (n m : ℕ) → n ≤ m → bits_of (cleared ws n (m - n)) m ≡ bits_of ws n ++ replicate (m - n) false
unfolding bits_of
bits_grow ws n m h =
    let v : List ℕ = cleared ws n (m - n) in
    let e : m ≡ n + (m - n) = omega arith in
    ap (tab (bit_at v) 0) e ∙ tab_add (bit_at v) 0 n (m - n)
    ∙ ap₂ (λ s t. s ++ t)
    (tab_same (bit_at v) (bit_at ws) 0 n (λ j p q. cleared_out ws n (m - n) j (inl (omega arith))))
    (tab_same (bit_at v) (λ j. false) (0 + n) (m - n) (λ j p q. cleared_in ws n (m - n) j (omega arith) (omega arith)) ∙ tab_const false (0 + n) (m - n))
