-- The plain select, pred and succ have the properties of Nearest; pred and succ are selects of a rank.
use mathlib.Core.Path.{◌≡◌, refl, sym, ap, ap₂, ◌∙◌, subst}
use mathlib.Core.Bool.{Bool, true, false}
use mathlib.Core.Logic.{◌⊎◌, inl, inr}
use mathlib.Core.List.{List, [], ◌∷◌}
use Prim.Native.Nat.{ℕ, zero, suc, ◌+◌, ◌≤◌, ◌<◌}
use native.Mathlib.Decide.{dec_lt}
use native.Mathlib.Nat.{eq-or-lt_of_le}
use native.Mathlib.Omega.{arith}
use lib.ListN.{length, get_or, take, get_or-eq_default}
use Rattle.meaning.specs.Answers.{Answer, is, nothing, refused}
use Rattle.meaning.specs.Bits.{opens, as_bit}
use Rattle.meaning.specs.Plain.{plain_rank, plain_select, plain_pred, plain_succ}
use Rattle.meaning.specs.Nearest.{IsSelect, IsPred, IsSucc}
use Rattle.meaning.proofs.Tab.{opens_take}
use Rattle.meaning.proofs.Bit.{as_lt}
use Rattle.meaning.proofs.Depth.{O}
use Rattle.meaning.proofs.Count.{O-le, O-true}
use Rattle.meaning.proofs.Plain.{select_only, pred_only, succ_only}

-- ---- the ones before a place

-- one more place, past the end too
pub ones_next : (l : List Bool) (i : ℕ) → opens (take (suc i) l) ≡ opens (take i l) + as_bit (get_or l i false)
unfolding opens
ones_next [] zero = refl
ones_next [] (suc i) = refl
ones_next (true ∷ l) zero = refl
ones_next (false ∷ l) zero = refl
ones_next (true ∷ l) (suc i) = omega (arith, ones_next l i)
ones_next (false ∷ l) (suc i) = ones_next l i

pub ones_most : (l : List Bool) (i : ℕ) → opens (take i l) ≤ i
unfolding opens
ones_most l zero = omega arith
ones_most l (suc i) = omega (arith, ones_next l i, ones_most l i, as_lt (get_or l i false))

-- no ones from a up to b
pub ones_still : (l : List Bool) (a b : ℕ) → a ≤ b → ((j : ℕ) → a ≤ j → j < b → get_or l j false ≡ false) → opens (take b l) ≡ opens (take a l)
ones_still l a zero h z = let e : 0 ≡ a = omega arith in ap (λ k. opens (take k l)) e
ones_still l a (suc b) h z = go (eq-or-lt_of_le h) (ones_still l a b)
  where
    go : (a ≡ suc b) ⊎ (a < suc b) → (a ≤ b → ((j : ℕ) → a ≤ j → j < b → get_or l j false ≡ false) → opens (take b l) ≡ opens (take a l))
        → opens (take (suc b) l) ≡ opens (take a l)
    go (inl e) ih = ap (λ k. opens (take k l)) (sym e)
    go (inr u) ih = omega (arith, ones_next l b, ap as_bit (z b (omega arith) (omega arith)), ih (omega arith) (λ j p q. z j p (omega arith)))

-- the same bits before place k
pub ones_same : (s t : List Bool) (k : ℕ) → ((j : ℕ) → j < k → get_or s j false ≡ get_or t j false) → opens (take k s) ≡ opens (take k t)
unfolding opens
ones_same s t zero h = refl
ones_same s t (suc k) h =
    ones_next s k ∙ ap₂ (λ a b. a + b) (ones_same s t k (λ j l. h j (omega arith))) (ap as_bit (h k (omega arith))) ∙ sym (ones_next t k)

pub ones_le : (l : List Bool) (a b : ℕ) → a ≤ b → opens (take a l) ≤ opens (take b l)
unfolding O
ones_le l a b h = O-le l a b h

-- a one at j is counted at every place after it
pub counts : (l : List Bool) (j k : ℕ) → get_or l j false ≡ true → j < k → suc (opens (take j l)) ≤ opens (take k l)
unfolding O
counts l j k e h = omega (arith, O-true l j e, ones_le l (suc j) k h)

-- the one with r ones before it
pub one_at : (l : List Bool) (r : ℕ) → r < opens l → (i : ℕ) × (get_or l i false ≡ true) × (opens (take i l) ≡ r)
unfolding opens
one_at [] r h = absurd (omega arith)
one_at (true ∷ l) zero h = (0, refl, refl)
one_at (true ∷ l) (suc r) h = let k = one_at l r (omega arith) in (suc k.0, k.1, ap suc k.2)
one_at (false ∷ l) r h = let k = one_at l r h in (suc k.0, k.1, k.2)

pub not_one : (b : Bool) → (b ≡ true → ⊥) → b ≡ false
not_one true h = absurd (h refl)
not_one false h = refl

-- ---- what select finds

pub select_has : (l : List Bool) (r : ℕ) → IsSelect l r (plain_select l r)
unfolding plain_select IsSelect
select_has l zero = inl refl
select_has l (suc r) = go (dec_lt r (opens l))
  where
    go : Dec (r < opens l) → IsSelect l (suc r) (plain_select l (suc r))
    go (yes h) =
        let k = one_at l r h in
        subst (IsSelect l (suc r)) (select_only l (suc r) (is k.0) (k.1, ap suc k.2)) (k.1, ap suc k.2)
    go (no h) = subst (IsSelect l (suc r)) (select_only l (suc r) nothing (inr (omega arith))) (inr (omega arith))

module _ (l : List Bool) (x : ℕ) where
  -- of the rank of x: the last one at or before x
  pub as_pred : (a : Answer ℕ) → IsSelect l (opens (take (suc x) l)) a → IsPred l x a
  unfolding IsSelect IsPred
  as_pred (is i) s =
      (s.0, low (dec_lt x i), λ j p q. not_one (get_or l j false) (λ t. omega (arith, counts l i j s.0 p, counts l j (suc x) t (omega arith), s.1)))
    where
      low : Dec (x < i) → i ≤ x
      low (yes h) = absurd (omega (arith, ones_le l (suc x) i h, s.1))
      low (no h) = omega arith
  as_pred nothing (inl e) = λ j q. not_one (get_or l j false) (λ t. omega (arith, counts l j (suc x) t (omega arith)))
  as_pred nothing (inr e) = absurd (omega (arith, opens_take (suc x) l))
  as_pred (refused e) s = absurd s

  -- of one more than the ones before x: the first one at or after x
  pub as_succ : (a : Answer ℕ) → IsSelect l (suc (opens (take x l))) a → IsSucc l x a
  unfolding IsSelect IsSucc
  as_succ (is i) s = (s.0, low (dec_lt i x), λ j p q. not_one (get_or l j false) (λ t. omega (arith, counts l j i t q, ones_le l x j p, s.1)))
    where
      low : Dec (i < x) → x ≤ i
      low (yes h) = absurd (omega (arith, counts l i x s.0 h, s.1))
      low (no h) = omega arith
  as_succ nothing (inl e) = absurd (omega arith)
  as_succ nothing (inr e) = λ j p. not_one (get_or l j false) (λ t. omega (arith, counts l j (suc j) t (omega arith), ones_le l x j p, opens_take (suc j) l))
  as_succ (refused e) s = absurd s

  pub pred_select : plain_select l (plain_rank l x) ≡ plain_pred l x
  unfolding plain_rank
  pred_select = pred_only l x _ (as_pred _ (select_has l (opens (take (suc x) l))))

  pub succ_select : plain_select l (suc (opens (take x l))) ≡ plain_succ l x
  succ_select = succ_only l x _ (as_succ _ (select_has l (suc (opens (take x l)))))

  pub pred_has : IsPred l x (plain_pred l x)
  unfolding plain_rank
  pred_has = subst (IsPred l x) pred_select (as_pred _ (select_has l (opens (take (suc x) l))))

  pub succ_has : IsSucc l x (plain_succ l x)
  succ_has = subst (IsSucc l x) succ_select (as_succ _ (select_has l (suc (opens (take x l)))))

  -- ---- succ, place by place

  pub succ_here : get_or l x false ≡ true → is x ≡ plain_succ l x
  unfolding IsSucc
  succ_here e = succ_only l x (is x) (e, omega arith, λ j p q. absurd (omega arith))

  pub succ_past : length l ≤ x → nothing ≡ plain_succ l x
  unfolding IsSucc
  succ_past h = succ_only l x nothing (λ j p. get_or-eq_default l false (omega arith))

pub succ_on : (l : List Bool) (x : ℕ) → get_or l x false ≡ false → plain_succ l (suc x) ≡ plain_succ l x
succ_on l x e =
    let u : opens (take (suc x) l) ≡ opens (take x l) = omega (arith, ones_next l x, ap as_bit e) in
    sym (succ_select l (suc x)) ∙ ap (λ k. plain_select l (suc k)) u ∙ succ_select l x
