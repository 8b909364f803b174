-- The plain scan, turn by turn: what is known where a loop begins, goes on and ends.
use mathlib.Core.Path.{◌≡◌, refl, sym, ap, ◌∙◌}
use mathlib.Core.Bool.{Bool, true, false, beq}
use mathlib.Core.List.{List}
use mathlib.Core.Logic.{inl, inr}
use Prim.Native.Nat.{ℕ, ◌+◌, ◌-◌, ◌≤◌, ◌<◌, min}
use native.Mathlib.Decide.{dec_lt}
use native.Mathlib.Numerals.{add-one}
use native.Mathlib.Omega.{arith}
use lib.Dec.{ltb}
use lib.ListN.{length, get_or, take, get_or-eq_default}
use lib.Seq.{take_all}
use mir.Val.{bool_byte}
use borrow.Author.Tests.{le-ltb}
use Rattle.std.specs.Prelude.{Option, None, Some}
use Rattle.std.specs.Option.{MatchOption}
use Rattle.meaning.specs.Answers.{is, nothing}
use Rattle.meaning.specs.Bits.{opens, as_bit, bit_at, bits_of}
use Rattle.meaning.specs.Plain.{side, plain_select, plain_pred, plain_succ}
use Rattle.meaning.specs.Nearest.{IsSelect, IsPred, IsSucc}
use Rattle.meaning.proofs.Plain.{select_only, pred_only, succ_only}
use Rattle.meaning.proofs.Sought.{ones_next}
use Rattle.meaning.proofs.BitString.{sided, mark_in, mark_past, marks_upto}
use Rattle.refusal.specs.Said.{only_found}

-- ---- one place of a string

module _ (b : Bool) (ws : List ℕ) (n i : ℕ) where
  pub has_past : n ≤ i → ltb i n ≡ get_or (side b (bits_of ws n)) i false
  has_past h = le-ltb i n h ∙ sym (mark_past b ws n i h)

  -- a bit is a one, or a zero, as it is b
  as_side : (c x : Bool) → beq x c ≡ sided c x
  as_side true true = refl
  as_side true false = refl
  as_side false true = refl
  as_side false false = refl

  pub has_in : i < n → (x : Bool) → x ≡ bit_at ws i → beq x b ≡ get_or (side b (bits_of ws n)) i false
  has_in h x e = as_side b x ∙ ap (sided b) e ∙ sym (mark_in b ws n i h)

  -- .. before a place e and the length, m
  pub has_before : (e m : ℕ) → m ≡ min e n → i < m → (x : Bool) → x ≡ bit_at ws i → beq x b ≡ get_or (side b (bits_of ws n)) i false
  has_before e m q h = has_in (omega arith)

-- the ones before the place where the count ends are those before e
pub count_end : (b : Bool) (ws : List ℕ) (n e m i r : ℕ) → m ≡ min e n → i ≡ m → r ≡ opens (take i (side b (bits_of ws n))) → r ≡ opens (take e (side b (bits_of ws n)))
count_end b ws n e m i r q p h = h ∙ ap (λ k. opens (take k (side b (bits_of ws n)))) (p ∙ q) ∙ marks_upto b ws n e

-- a truth as a number
pub numbered : (m : ℕ) (t : Bool) → m ≡ bool_byte t → (b : Bool) → t ≡ b → m ≡ as_bit b
numbered m true e b q = e ∙ ap as_bit q
numbered m false e b q = e ∙ ap as_bit q

-- what the number 1 says of a place
is_one : (b : Bool) (m : ℕ) → m ≡ as_bit b → m ≡ 1 → b ≡ true
is_one true m e h = refl
is_one false m e h = absurd (omega arith)

mark_le : (b : Bool) (m : ℕ) → m ≡ as_bit b → m ≤ 1
mark_le true m e = omega arith
mark_le false m e = omega arith

module _ (l : List Bool) where
  -- ---- the ones before a place

  pub count_on : (r i m : ℕ) → r ≡ opens (take i l) → m ≡ as_bit (get_or l i false) → r + m ≡ opens (take (i + 1) l)
  count_on r i m e f = omega (arith, ones_next l i, ap (λ k. opens (take k l)) (add-one i))

  -- ---- the k-th one: `left` of them are still to come

  pub record After (k left i : ℕ) : Type 0 where
    pub sum : opens (take i l) + left ≡ k
    pub least : 0 < left

  pub after_none : (k : ℕ) → (k ≡ 0 → ⊥) → After k k 0
  unfolding opens
  after_none k h = record { sum = omega arith; least = omega (arith, h) }

  pub select_zero : (k : ℕ) → k ≡ 0 → nothing ≡ plain_select l k
  unfolding IsSelect
  select_zero k e = select_only l k nothing (inl e)

  module _ {k left i : ℕ} (s : After k left i) (m : ℕ) (e : m ≡ as_bit (get_or l i false)) where
    pub after_room : m ≤ left
    after_room = omega (arith, s.least, mark_le (get_or l i false) m e)

    pub after_here : left - m ≡ 0 → is i ≡ plain_select l k
    unfolding IsSelect
    after_here h =
        select_only l k (is i) (
          is_one (get_or l i false) m e (omega (arith, s.least, mark_le (get_or l i false) m e)),
          omega (arith, s.sum, s.least, mark_le (get_or l i false) m e),
        )

    pub after_on : (left - m ≡ 0 → ⊥) → After k (left - m) (i + 1)
    after_on h = record {
      sum = omega (arith, s.sum, count_on (opens (take i l)) i m refl e, after_room);
      least = omega (arith, h);
    }

  pub after_end : {k left i : ℕ} → After k left i → length l ≤ i → nothing ≡ plain_select l k
  unfolding IsSelect
  after_end {k} {left} {i} s h = select_only l k nothing (inr (omega (arith, s.sum, s.least, ap opens (take_all i l h))))

  -- ---- the last one at or before x: none from e on

  pub record Down (x e : ℕ) : Type 0 where
    pub low : e ≤ x + 1
    pub none : (j : ℕ) → e ≤ j → j ≤ x → get_or l j false ≡ false

  pub down_start : (x n e : ℕ) → length l ≡ n → e ≡ min (x + 1) n → Down x e
  down_start x n e q h = record {
    low = omega arith;
    none = λ j a b. get_or-eq_default l false (omega arith);
  }

  pub down_here : {x e : ℕ} → Down x e → 0 < e → (t : Bool) → t ≡ get_or l (e - 1) false → t ≡ true → is (e - 1) ≡ plain_pred l x
  unfolding IsPred
  down_here {x} {e} s h t q o = pred_only l x (is (e - 1)) (sym q ∙ o, omega (arith, s.low), λ j a b. s.none j (omega arith) b)

  pub down_end : {x e : ℕ} → Down x e → e ≤ 0 → nothing ≡ plain_pred l x
  unfolding IsPred
  down_end {x} {e} s h = pred_only l x nothing (λ j b. s.none j (omega arith) b)

  -- ---- the first one at or after x, of the places up to n

  pub first_one : (x n : ℕ) → length l ≡ n → (r : Option ℕ)
      → MatchOption r ((k : ℕ) → x ≤ k → k < n → get_or l k false ≡ false)
      (λ i. (x ≤ i) × (i < n) × (get_or l i false ≡ true) × ((k : ℕ) → x ≤ k → k < i → get_or l k false ≡ false))
      → only_found r ≡ plain_succ l x
  unfolding IsSucc
  first_one x n e (Some i) h = succ_only l x (is i) (h.2, h.0, h.3)
  first_one x n e None h = succ_only l x nothing (λ i a. go i a (dec_lt i n))
    where
      go : (i : ℕ) → x ≤ i → Dec (i < n) → get_or l i false ≡ false
      go i a (yes b) = h i a b
      go i a (no b) = get_or-eq_default l false (omega arith)
