-- The questions and changes of a string, test by test, and the ones or zeros of its bits.
use mathlib.Core.Path.{◌≡◌, refl, sym, ap, ap₂, ◌∙◌, subst}
use mathlib.Core.Bool.{Bool, true, false, not, ◌&&◌}
use mathlib.Core.List.{List, ◌∷◌}
use Prim.Native.Nat.{ℕ, zero, suc, ◌+◌, ◌-◌, ◌*◌, ◌^◌, ◌≤◌, ◌<◌, min}
use native.Mathlib.Decide.{dec_le}
use native.Mathlib.Nat.{zero-add}
use native.Mathlib.Numerals.{add-one}
use native.Mathlib.Omega.{arith}
use lib.Dec.{ltb, leb}
use lib.ListN.{length, get_or, take, get_or-eq_default}
use lib.Seq.{take_all}
use borrow.Author.Tests.{lt-ltb, le-ltb, le-leb, lt-leb, leb-true, leb-false, not-true, not-false}
use Rattle.meaning.specs.Answers.{Answer, is, nothing, refused, place, room, broken, provided}
use Rattle.meaning.specs.Bits.{opens, tab, places, as_bit, bit_at, bits_of, stored, cleared, word_count}
use Rattle.meaning.specs.Plain.{side, plain_rank, plain_select, plain_pred, plain_succ}
use Rattle.meaning.specs.Nearest.{IsSucc}
use Rattle.meaning.specs.BitString.{held, if_held, before_end, string_get, string_rank, string_select, string_pred, string_succ, string_size, edited, edit_if, string_set, string_push, resized, string_resize, met_at, one_from, one_indices}
use Rattle.meaning.proofs.If.{if_true, if_false}
use Rattle.meaning.proofs.Plain.{length_map, get_d_map}
use Rattle.meaning.proofs.Sought.{succ_has, succ_here, succ_past, succ_on}
use Rattle.meaning.proofs.Stored.{length_bits, bits_at}

-- ---- the ones, or the zeros, of the bits

pub length_side : (b : Bool) (l : List Bool) → length (side b l) ≡ length l
unfolding side
length_side true l = refl
length_side false l = length_map l

pub length_marks : (b : Bool) (ws : List ℕ) (n : ℕ) → length (side b (bits_of ws n)) ≡ n
length_marks b ws n = length_side b (bits_of ws n) ∙ length_bits ws n

-- a bit, or its opposite
abbrev pub sided : Bool → Bool → Bool
sided true x = x
sided false x = not x

pub side_at : (b : Bool) (l : List Bool) (i : ℕ) → i < length l → get_or (side b l) i false ≡ sided b (get_or l i false)
unfolding side
side_at true l i h = refl
side_at false l i h = get_d_map l i h

pub mark_in : (b : Bool) (ws : List ℕ) (n i : ℕ) → i < n → get_or (side b (bits_of ws n)) i false ≡ sided b (bit_at ws i)
mark_in b ws n i h = side_at b (bits_of ws n) i (omega (arith, length_bits ws n)) ∙ ap (sided b) (bits_at ws n i h)

pub mark_past : (b : Bool) (ws : List ℕ) (n i : ℕ) → n ≤ i → get_or (side b (bits_of ws n)) i false ≡ false
mark_past b ws n i h = get_or-eq_default (side b (bits_of ws n)) false (omega (arith, length_marks b ws n))

-- a mark stands before the length
pub mark_before : (b : Bool) (ws : List ℕ) (n i : ℕ) → get_or (side b (bits_of ws n)) i false ≡ true → i < n
mark_before b ws n i e = go (dec_le n i)
  where
    go : Dec (n ≤ i) → i < n
    go (yes h) = let z : ◌≡◌ {A = ℕ} 0 1 = cc (e, mark_past b ws n i h) in absurd (omega arith)
    go (no h) = omega arith

-- the marks before a place are those before it and the length
pub marks_upto : (b : Bool) (ws : List ℕ) (n e : ℕ) → opens (take (min e n) (side b (bits_of ws n))) ≡ opens (take e (side b (bits_of ws n)))
marks_upto b ws n e = go (dec_le n e)
  where
    go : Dec (n ≤ e) → opens (take (min e n) (side b (bits_of ws n))) ≡ opens (take e (side b (bits_of ws n)))
    go (yes h) =
        ap opens (take_all (min e n) (side b (bits_of ws n)) (omega (arith, length_marks b ws n)) ∙ sym (take_all e (side b (bits_of ws n)) (omega (arith, length_marks b ws n))))
    go (no h) = let u : min e n ≡ e = omega arith in ap (λ k. opens (take k (side b (bits_of ws n)))) u

-- ---- the tests before an answer: t is whether the words have n bits, u whether the place is outside

held_true : (ws : List ℕ) (n : ℕ) (a : Answer ℕ) {t : Bool} → t ≡ leb n (64 * length ws) → not t ≡ false → if_held ws n a ≡ a
unfolding if_held held provided
held_true ws n a {t} e h = rw (sym e ∙ not-false t h, provided)

held_false : (ws : List ℕ) (n : ℕ) (a : Answer ℕ) {t : Bool} → t ≡ leb n (64 * length ws) → not t ≡ true → if_held ws n a ≡ refused broken
unfolding if_held held provided
held_false ws n a {t} e h = rw (sym e ∙ not-true t h, provided)

end_false : (b : Bool) (n i : ℕ) (a : Answer ℕ) {u : Bool} → u ≡ (not b && leb n i) → u ≡ false → before_end b n i a ≡ a
unfolding before_end provided
end_false true n i a e h = refl
end_false false n i a e h = rw (lt-ltb i n (leb-false n i (sym e ∙ h)), provided)

end_true : (b : Bool) (n i : ℕ) (a : Answer ℕ) {u : Bool} → u ≡ (not b && leb n i) → u ≡ true → before_end b n i a ≡ refused (place i)
unfolding before_end provided
end_true true n i a e h = let z : ◌≡◌ {A = ℕ} 0 1 = cc in absurd (omega arith)
end_true false n i a e h = rw (le-ltb i n (leb-true n i (sym e ∙ h)), provided)

module _ (b : Bool) (ws : List ℕ) (n i : ℕ) {t : Bool} (e : t ≡ leb n (64 * length ws)) where
  pub rank_broken : not t ≡ true → refused broken ≡ string_rank b ws n i
  unfolding string_rank
  rank_broken h = sym (held_false ws n _ e h)

  pub select_broken : not t ≡ true → refused broken ≡ string_select b ws n i
  unfolding string_select
  select_broken h = sym (held_false ws n _ e h)

  pub pred_broken : not t ≡ true → refused broken ≡ string_pred b ws n i
  unfolding string_pred
  pred_broken h = sym (held_false ws n _ e h)

  pub succ_broken : not t ≡ true → refused broken ≡ string_succ b ws n i
  unfolding string_succ
  succ_broken h = sym (held_false ws n _ e h)

  pub select_held : not t ≡ false → (a : Answer ℕ) → a ≡ plain_select (side b (bits_of ws n)) i → a ≡ string_select b ws n i
  unfolding string_select
  select_held h a q = q ∙ sym (held_true ws n _ e h)

  module _ (h : not t ≡ false) {u : Bool} (f : u ≡ (not b && leb n i)) where
    pub rank_place : u ≡ true → refused (place i) ≡ string_rank b ws n i
    unfolding string_rank
    rank_place g = sym (held_true ws n _ e h ∙ end_true b n i _ f g)

    pub pred_place : u ≡ true → refused (place i) ≡ string_pred b ws n i
    unfolding string_pred
    pred_place g = sym (held_true ws n _ e h ∙ end_true b n i _ f g)

    pub succ_place : u ≡ true → refused (place i) ≡ string_succ b ws n i
    unfolding string_succ
    succ_place g = sym (held_true ws n _ e h ∙ end_true b n i _ f g)

    pub rank_held : u ≡ false → (k m : ℕ) → m ≡ min (i + 1) n → k ≡ opens (take m (side b (bits_of ws n))) → is k ≡ string_rank b ws n i
    unfolding string_rank plain_rank
    rank_held g k m p q =
        ap is (q ∙ ap (λ x. opens (take x (side b (bits_of ws n)))) p ∙ marks_upto b ws n (i + 1) ∙ ap (λ x. opens (take x (side b (bits_of ws n)))) (add-one i))
        ∙ sym (held_true ws n _ e h ∙ end_false b n i _ f g)

    pub pred_held : u ≡ false → (a : Answer ℕ) → a ≡ plain_pred (side b (bits_of ws n)) i → a ≡ string_pred b ws n i
    unfolding string_pred
    pred_held g a q = q ∙ sym (held_true ws n _ e h ∙ end_false b n i _ f g)

    pub succ_held : u ≡ false → (a : Answer ℕ) → a ≡ plain_succ (side b (bits_of ws n)) i → a ≡ string_succ b ws n i
    unfolding string_succ
    succ_held g a q = q ∙ sym (held_true ws n _ e h ∙ end_false b n i _ f g)

-- of the ones, and of the zeros, by themselves
module _ (ws : List ℕ) (n i : ℕ) {t : Bool} (e : t ≡ leb n (64 * length ws)) (h : not t ≡ false) where
  pub succ_one_held : (a : Answer ℕ) → a ≡ plain_succ (side true (bits_of ws n)) i → a ≡ string_succ true ws n i
  succ_one_held a q = succ_held true ws n i e h refl refl a q

  pub succ_zero_place : n ≤ i → refused (place i) ≡ string_succ false ws n i
  succ_zero_place l = succ_place false ws n i e h refl (le-leb n i l)

  pub succ_zero_held : i < n → (a : Answer ℕ) → a ≡ plain_succ (side false (bits_of ws n)) i → a ≡ string_succ false ws n i
  succ_zero_held l a q = succ_held false ws n i e h refl (lt-leb n i l) a q

-- ---- get, the size, and the changes

module _ (ws : List ℕ) (n i : ℕ) {t : Bool} (e : t ≡ leb n (64 * length ws)) where
  pub get_broken : not t ≡ true → refused broken ≡ string_get ws n i
  unfolding string_get
  get_broken h = sym (held_false ws n _ e h)

  pub get_past : not t ≡ false → n ≤ i → nothing ≡ string_get ws n i
  unfolding string_get
  get_past h l = sym (held_true ws n _ e h ∙ if_false _ _ (le-ltb i n l))

  pub get_held : not t ≡ false → i < n → {b : Bool} → b ≡ bit_at ws i → is (as_bit b) ≡ string_get ws n i
  unfolding string_get
  get_held h l q = ap (λ x. is (as_bit x)) q ∙ sym (held_true ws n _ e h ∙ if_true _ _ (lt-ltb i n l))

  pub set_broken : (b : Bool) → not t ≡ true → edited (refused broken) ws ≡ string_set ws n i b
  unfolding string_set edit_if held
  set_broken b h = rw (sym e ∙ not-true t h, edit_if)

  pub set_place : (b : Bool) → not t ≡ false → n ≤ i → edited (refused (place i)) ws ≡ string_set ws n i b
  unfolding string_set edit_if held
  set_place b h l = rw (sym e ∙ not-false t h, le-ltb i n l, edit_if)

  pub set_held : (b : Bool) → not t ≡ false → i < n → {vs : List ℕ} → vs ≡ stored ws i b → edited (is n) vs ≡ string_set ws n i b
  unfolding string_set edit_if held
  set_held b h l {vs} q = rw (sym e ∙ not-false t h, lt-ltb i n l, edit_if) (ap (edited (is n)) q)

module _ (ws : List ℕ) (n : ℕ) {t : Bool} (e : t ≡ leb n (64 * length ws)) where
  pub size_broken : not t ≡ true → refused broken ≡ string_size ws n
  unfolding string_size
  size_broken h = sym (held_false ws n _ e h)

  pub size_held : not t ≡ false → n < 2 ^ 64 → {k : ℕ} → k ≡ word_count n → is (8 * k) ≡ string_size ws n
  unfolding string_size provided
  size_held h l q =
      ap (λ x. is (8 * x)) q ∙ sym (held_true ws n _ e h ∙ rw (lt-ltb (8 * word_count n) (2 ^ 64) (omega arith), provided))

  pub push_broken : (b : Bool) → not t ≡ true → edited (refused broken) ws ≡ string_push ws n b
  unfolding string_push edit_if held
  push_broken b h = rw (sym e ∙ not-true t h, edit_if)

  module _ (b : Bool) (h : not t ≡ false) where
    pub push_longest : n ≡ 2 ^ 64 - 1 → edited (refused (room 0)) ws ≡ string_push ws n b
    unfolding string_push edit_if held
    push_longest q =
        rw (sym e ∙ not-false t h, and_false (leb (suc n) (64 * length ws)) (le-ltb (suc n) (2 ^ 64) (omega arith)), edit_if)
      where
        and_false : (a : Bool) {c : Bool} → c ≡ false → (a && c) ≡ false
        and_false true q = q
        and_false false q = refl

    module _ {u : Bool} (f : u ≡ leb (n + 1) (64 * length ws)) where
      pub push_room : not u ≡ true → edited (refused (room 0)) ws ≡ string_push ws n b
      unfolding string_push edit_if held
      push_room g =
          let r : leb (suc n) (64 * length ws) ≡ false = ap (λ m. leb m (64 * length ws)) (sym (add-one n)) ∙ sym f ∙ not-true u g in
          rw (sym e ∙ not-false t h, r, edit_if)

      pub push_held : not u ≡ false → n < 2 ^ 64 → (n ≡ 2 ^ 64 - 1 → ⊥) → {vs : List ℕ} → vs ≡ stored ws n b → edited (is (n + 1)) vs ≡ string_push ws n b
      unfolding string_push edit_if held
      push_held g l k {vs} q =
          let r : leb (suc n) (64 * length ws) ≡ true = ap (λ m. leb m (64 * length ws)) (sym (add-one n)) ∙ sym f ∙ not-false u g in
          let m : ltb (suc n) (2 ^ 64) ≡ true = lt-ltb (suc n) (2 ^ 64) (omega (arith, k)) in
          rw (sym e ∙ not-false t h, r, m, edit_if) (ap₂ (λ k v. edited (is k) v) (add-one n) q)

  pub resize_broken : (m : ℕ) → not t ≡ true → edited (refused broken) ws ≡ string_resize ws n m
  unfolding string_resize edit_if held
  resize_broken m h = rw (sym e ∙ not-true t h, edit_if)

  module _ (m : ℕ) (h : not t ≡ false) {u : Bool} (f : u ≡ leb m (64 * length ws)) where
    pub resize_room : not u ≡ true → edited (refused (room 0)) ws ≡ string_resize ws n m
    unfolding string_resize edit_if held
    resize_room g = rw (sym e ∙ not-false t h, sym f ∙ not-true u g, edit_if)

    module _ (g : not u ≡ false) {vs : List ℕ} where
      resize_to : vs ≡ resized ws n m → edited (is m) vs ≡ string_resize ws n m
      unfolding string_resize edit_if held
      resize_to q = rw (sym e ∙ not-false t h, sym f ∙ not-false u g, edit_if) (ap (edited (is m)) q)

      pub resize_shrink : m < n → vs ≡ cleared ws m (n - m) → edited (is m) vs ≡ string_resize ws n m
      unfolding resized
      resize_shrink l q = resize_to (q ∙ sym (if_true _ _ (lt-ltb m n l)))

      pub resize_grow : n ≤ m → vs ≡ cleared ws n (m - n) → edited (is m) vs ≡ string_resize ws n m
      unfolding resized
      resize_grow l q = resize_to (q ∙ sym (if_false _ _ (le-ltb m n l)))

-- ---- the cursor over the ones

module _ (ws : List ℕ) (n i : ℕ) {a : Answer ℕ} (e : a ≡ string_succ true ws n i) where
  pub one_met : met_at a ≡ one_from ws n i
  unfolding one_from
  one_met = ap met_at e

  -- what it meets stands before the length
  pub met_before : (j : ℕ) → a ≡ is j → j < n
  unfolding string_succ if_held provided before_end IsSucc
  met_before j q = go (held ws n) (sym q ∙ e)
    where
      found : (b : Answer ℕ) → IsSucc (side true (bits_of ws n)) i b → is j ≡ b → j < n
      found (is k) s z = let u : j ≡ k = cc in subst (λ m. m < n) (sym u) (mark_before true ws n k s.0)
      found nothing s z = let u : ◌≡◌ {A = ℕ} 0 1 = cc in absurd (omega arith)
      found (refused r) s z = absurd s

      go : (t : Bool) → is j ≡ provided t broken (plain_succ (side true (bits_of ws n)) i) → j < n
      go true z = found (plain_succ (side true (bits_of ws n)) i) (succ_has (side true (bits_of ws n)) i) z
      go false z = let u : ◌≡◌ {A = ℕ} 0 1 = cc in absurd (omega arith)

module _ (ws : List ℕ) (n : ℕ) (h : n ≤ 64 * length ws) where
  one_is : (i : ℕ) → one_from ws n i ≡ met_at (plain_succ (bits_of ws n) i)
  unfolding one_from string_succ before_end side
  one_is i = ap met_at (held_true ws n _ {t = true} (sym (le-leb n (64 * length ws) h)) refl)

  walk : (k i t : ℕ) → i + k ≡ n → k ≤ t → one_indices ws n (suc t) i ≡ places i (tab (bit_at ws) i k)
  unfolding one_indices places tab met_at
  walk zero i t e l =
      rw (one_is i ∙ ap met_at (sym (succ_past (bits_of ws n) i (omega (arith, length_bits ws n)))), one_indices)
  walk (suc k) i zero e l = absurd (omega arith)
  walk (suc k) i (suc t) e l =
      go (bit_at ws i) refl (walk k (suc i) t (omega arith) (omega arith)) (walk k (suc i) (suc t) (omega arith) (omega arith))
    where
      go : (b : Bool) → bit_at ws i ≡ b → one_indices ws n (suc t) (suc i) ≡ places (suc i) (tab (bit_at ws) (suc i) k)
          → one_indices ws n (suc (suc t)) (suc i) ≡ places (suc i) (tab (bit_at ws) (suc i) k)
          → one_indices ws n (suc (suc t)) i ≡ places i (b ∷ tab (bit_at ws) (suc i) k)
      go true q a b =
          rw (one_is i ∙ ap met_at (sym (succ_here (bits_of ws n) i (bits_at ws n i (omega arith) ∙ q))), one_indices) (ap (λ s. i ∷ s) a)
      go false q a b =
          let u : one_from ws n i ≡ one_from ws n (suc i) = one_is i ∙ ap met_at (sym (succ_on (bits_of ws n) i (bits_at ws n i (omega arith) ∙ q))) ∙ sym (one_is (suc i)) in
          rw (u, one_indices) b

  -- it meets each one, in order, and nothing else
  pub one_indices_lem : one_indices ws n (suc n) 0 ≡ places 0 (bits_of ws n)
  unfolding bits_of
  one_indices_lem = walk n 0 n (zero-add n) (omega arith)
