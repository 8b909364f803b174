-- The plain meaning: an answer that Nearest's words allow is the plain one, so that two such answers agree.
-- Then the same over f : place → 0 or 1 that agrees with the list bit by bit.
use mathlib.Core.Path.{◌≡◌, refl, sym, ap, ◌∙◌}
use mathlib.Core.Bool.{Bool, true, false, not}
use mathlib.Core.Logic.{◌⊎◌, inl, inr}
use mathlib.Core.List.{List, [], ◌∷◌, map}
use Prim.Native.Nat.{ℕ, zero, suc, ◌+◌, ◌-◌, ◌≤◌, ◌<◌}
use native.Mathlib.Decide.{dec_lt}
use native.Mathlib.Nat.{add-zero, le_of_suc-le-suc, zero-lt-suc}
use native.Mathlib.Numerals.{add-one}
use native.Mathlib.Omega.{arith}
use lib.ListN.{length, get_or, take, drop, length-take, get_or-eq_default}
use lib.Seq.{get_or-take, get_or-drop}
use Rattle.meaning.specs.Answers.{Answer, is, nothing, refused}
use Rattle.meaning.specs.Bits.{opens, places, as_bit}
use Rattle.meaning.specs.Count.{count}
use Rattle.meaning.specs.Plain.{side, item, last, plain_rank, plain_select, plain_pred, plain_succ}
use Rattle.meaning.specs.Nearest.{IsSelect, IsPred, IsSucc}
use Rattle.meaning.proofs.If.{clash, bit}
use Rattle.meaning.proofs.Depth.{O}
use Rattle.meaning.proofs.Count.{O-true, O-false, O-all}

-- ---- the places of the ones

-- the one with r ones before it is the r-th
pub place_at : (l : List Bool) (k i : ℕ) → get_or l i false ≡ true → item (opens (take i l)) (places k l) ≡ is (k + i)
unfolding opens item places
place_at [] k i e = absurd (clash e refl)
place_at (true ∷ l) k zero e = ap is (sym (add-zero k))
place_at (true ∷ l) k (suc i) e = let u : suc k + i ≡ k + suc i = omega arith in place_at l (suc k) i e ∙ ap is u
place_at (false ∷ l) k zero e = absurd (clash e refl)
place_at (false ∷ l) k (suc i) e = let u : suc k + i ≡ k + suc i = omega arith in place_at l (suc k) i e ∙ ap is u

pub no_place : (l : List Bool) (r i : ℕ) → opens l ≤ r → item r (places i l) ≡ nothing
unfolding opens item places
no_place [] r i h = refl
no_place (true ∷ l) zero i h = absurd (omega arith)
no_place (true ∷ l) (suc r) i h = no_place l r (suc i) (omega arith)
no_place (false ∷ l) r i h = no_place l r (suc i) h

-- no ones, no places
none_in : (l : List Bool) (k : ℕ) → ((j : ℕ) → get_or l j false ≡ false) → places k l ≡ []
unfolding places
none_in [] k h = refl
none_in (true ∷ l) k h = absurd (clash refl (h 0))
none_in (false ∷ l) k h = none_in l (suc k) (λ j. h (suc j))

first_at : (l : List Bool) (k i : ℕ) → get_or l i false ≡ true → ((j : ℕ) → j < i → get_or l j false ≡ false) → item 0 (places k l) ≡ is (k + i)
unfolding item places
first_at [] k i e h = absurd (clash e refl)
first_at (true ∷ l) k zero e h = ap is (sym (add-zero k))
first_at (true ∷ l) k (suc i) e h = absurd (clash refl (h 0 (zero-lt-suc i)))
first_at (false ∷ l) k zero e h = absurd (clash e refl)
first_at (false ∷ l) k (suc i) e h =
    let u : suc k + i ≡ k + suc i = omega arith in first_at l (suc k) i e (λ j g. h (suc j) (omega arith)) ∙ ap is u

last_more : (k : ℕ) (xs : List ℕ) (a : ℕ) → last xs ≡ is a → last (k ∷ xs) ≡ is a
unfolding last
last_more k [] a e = absurd (let z : ◌≡◌ {A = ℕ} 0 1 = cc in omega arith)
last_more k (x ∷ xs) a e = e

last_at : (l : List Bool) (k i : ℕ) → get_or l i false ≡ true → ((j : ℕ) → i < j → get_or l j false ≡ false) → last (places k l) ≡ is (k + i)
unfolding last places
last_at [] k i e h = absurd (clash e refl)
last_at (true ∷ l) k zero e h = ap (λ r. last (k ∷ r)) (none_in l (suc k) (λ j. h (suc j) (zero-lt-suc j))) ∙ ap is (sym (add-zero k))
last_at (true ∷ l) k (suc i) e h =
    let u : suc k + i ≡ k + suc i = omega arith in
    last_more k (places (suc k) l) (k + suc i) (last_at l (suc k) i e (λ j g. h (suc j) (omega arith)) ∙ ap is u)
last_at (false ∷ l) k zero e h = absurd (clash e refl)
last_at (false ∷ l) k (suc i) e h =
    let u : suc k + i ≡ k + suc i = omega arith in last_at l (suc k) i e (λ j g. h (suc j) (omega arith)) ∙ ap is u

-- ---- an allowed answer is the plain one

pub select_only : (l : List Bool) (r : ℕ) (a : Answer ℕ) → IsSelect l r a → a ≡ plain_select l r
unfolding IsSelect plain_select
select_only l zero (is i) s = absurd (omega (arith, s.1))
select_only l (suc r) (is i) s =
    let u : 0 + i ≡ i = omega arith in
    let v : opens (take i l) ≡ r = omega (arith, s.1) in
    sym (ap (λ k. item k (places 0 l)) (sym v) ∙ place_at l 0 i s.0 ∙ ap is u)
select_only l zero nothing s = refl
select_only l (suc r) nothing (inl z) = absurd (omega arith)
select_only l (suc r) nothing (inr h) = sym (no_place l r 0 (omega arith))
select_only l r (refused e) s = absurd s

-- the bits up to place x
front : (l : List Bool) (x j : ℕ) → j ≤ x → get_or (take (suc x) l) j false ≡ get_or l j false
front l x j h = get_or-take (suc x) l j false (omega arith)

behind : (l : List Bool) (x j : ℕ) → x < j → get_or (take (suc x) l) j false ≡ false
behind l x j h = get_or-eq_default (take (suc x) l) false (omega (arith, length-take (suc x) l))

pub pred_only : (l : List Bool) (x : ℕ) (a : Answer ℕ) → IsPred l x a → a ≡ plain_pred l x
unfolding IsPred plain_pred last
pred_only l x (is i) s =
    let u : 0 + i ≡ i = omega arith in
    sym (last_at (take (suc x) l) 0 i (front l x i s.1 ∙ s.0) (λ j h. after j h (dec_lt x j)) ∙ ap is u)
  where
    after : (j : ℕ) → i < j → Dec (x < j) → get_or (take (suc x) l) j false ≡ false
    after j h (yes g) = behind l x j g
    after j h (no g) = front l x j (omega arith) ∙ s.2 j h (omega arith)
pred_only l x nothing s = sym (ap last (none_in (take (suc x) l) 0 (λ j. at j (dec_lt x j))))
  where
    at : (j : ℕ) → Dec (x < j) → get_or (take (suc x) l) j false ≡ false
    at j (yes g) = behind l x j g
    at j (no g) = front l x j (omega arith) ∙ s j (omega arith)
pred_only l x (refused e) s = absurd s

pub succ_only : (l : List Bool) (x : ℕ) (a : Answer ℕ) → IsSucc l x a → a ≡ plain_succ l x
unfolding IsSucc plain_succ item
succ_only l x (is i) s =
    let u : x + (i - x) ≡ i = omega (arith, s.1) in
    sym (
    first_at (drop x l) x (i - x) (get_or-drop x l (i - x) false ∙ ap (λ k. get_or l k false) u ∙ s.0)
    (λ j h. get_or-drop x l j false ∙ s.2 (x + j) (omega arith) (omega (arith, s.1)))
    ∙ ap is u
    )
succ_only l x nothing s = sym (ap (item 0) (none_in (drop x l) x (λ j. get_or-drop x l j false ∙ s (x + j) (omega arith))))
succ_only l x (refused e) s = absurd s

-- ---- the zeros

pub length_map : (l : List Bool) → length (map not l) ≡ length l
length_map [] = refl
length_map (b ∷ l) = ap suc (length_map l)

pub get_d_map : (l : List Bool) (i : ℕ) → i < length l → get_or (map not l) i false ≡ not (get_or l i false)
get_d_map [] i h = absurd (omega arith)
get_d_map (b ∷ l) zero h = refl
get_d_map (b ∷ l) (suc i) h = get_d_map l i (le_of_suc-le-suc h)

-- "index + 1 minus rank_one"
zeros_to : (l : List Bool) (n : ℕ) → n ≤ length l → opens (take n (map not l)) + opens (take n l) ≡ n
unfolding opens
zeros_to l zero h = refl
zeros_to [] (suc n) h = absurd (omega arith)
zeros_to (true ∷ l) (suc n) h = omega (arith, zeros_to l n (omega arith))
zeros_to (false ∷ l) (suc n) h = omega (arith, zeros_to l n (omega arith))

pub rank_zero : (l : List Bool) (i : ℕ) → i < length l → plain_rank (side false l) i + plain_rank l i ≡ suc i
unfolding plain_rank side
rank_zero l i h = zeros_to l (suc i) h

-- ---- the bits as numbers
module _ (l : List Bool) (f : ℕ → ℕ) (same : (i : ℕ) → i < length l → f i ≡ as_bit (get_or l i false)) where
  from_one : (i : ℕ) → i < length l → f i ≡ 1 → get_or l i false ≡ true
  from_one i h e = go (get_or l i false) (same i h)
    where
      go : (b : Bool) → f i ≡ as_bit b → b ≡ true
      go true q = refl
      go false q = absurd (omega arith)

  from_zero : (i : ℕ) → (i < length l → f i ≡ 0) → get_or l i false ≡ false
  from_zero i e = go (dec_lt i (length l))
    where
      by : (b : Bool) → f i ≡ as_bit b → f i ≡ 0 → b ≡ false
      by true q z = absurd (omega arith)
      by false q z = refl

      go : Dec (i < length l) → get_or l i false ≡ false
      go (yes h) = by (get_or l i false) (same i h) (e h)
      go (no h) = get_or-eq_default l false (omega arith)

  -- the ones before place n
  pub ones_before : (n : ℕ) → n ≤ length l → opens (take n l) ≡ count f n
  unfolding opens count O
  ones_before zero h = refl
  ones_before (suc n) h = go (bit (get_or l n false)) (ones_before n (omega arith)) (same n h)
    where
      go : (get_or l n false ≡ true) ⊎ (get_or l n false ≡ false) → opens (take n l) ≡ count f n → f n ≡ as_bit (get_or l n false) → opens (take (suc n) l) ≡ count f n + f n
      go (inl t) ih e = omega (arith, O-true l n t, ih, e ∙ ap as_bit t)
      go (inr t) ih e = omega (arith, O-false l n h t, ih, e ∙ ap as_bit t)

  pub ones_all : opens l ≡ count f (length l)
  unfolding O
  ones_all = sym (O-all l) ∙ ones_before (length l) (omega arith)

  pub rank_at : (i : ℕ) → i < length l → plain_rank l i ≡ count f (i + 1)
  unfolding plain_rank
  rank_at i h = ones_before (suc i) h ∙ ap (count f) (sym (add-one i))

  pub select_at : (k i : ℕ) → i < length l → f i ≡ 1 → count f i + 1 ≡ k → plain_select l k ≡ is i
  unfolding IsSelect
  select_at k i h e q = sym (select_only l k (is i) (from_one i h e, omega (arith, ones_before i (omega arith))))

  pub select_none : (k : ℕ) → (k ≡ 0) ⊎ (count f (length l) < k) → plain_select l k ≡ nothing
  unfolding IsSelect
  select_none k (inl z) = sym (select_only l k nothing (inl z))
  select_none k (inr h) = sym (select_only l k nothing (inr (omega (arith, ones_all))))

  pub pred_at : (i j : ℕ) → j ≤ i → j < length l → f j ≡ 1 → ((m : ℕ) → j < m → m ≤ i → m < length l → f m ≡ 0) → plain_pred l i ≡ is j
  unfolding IsPred
  pred_at i j a h e z = sym (pred_only l i (is j) (from_one j h e, a, λ m p q. from_zero m (z m p q)))

  pub pred_none : (i : ℕ) → ((m : ℕ) → m ≤ i → m < length l → f m ≡ 0) → plain_pred l i ≡ nothing
  unfolding IsPred
  pred_none i z = sym (pred_only l i nothing (λ m q. from_zero m (z m q)))

  pub succ_at : (i j : ℕ) → i ≤ j → j < length l → f j ≡ 1 → ((m : ℕ) → i ≤ m → m < j → f m ≡ 0) → plain_succ l i ≡ is j
  unfolding IsSucc
  succ_at i j a h e z = sym (succ_only l i (is j) (from_one j h e, a, λ m p q. from_zero m (λ _. z m p q)))

  pub succ_none : (i : ℕ) → ((m : ℕ) → i ≤ m → m < length l → f m ≡ 0) → plain_succ l i ≡ nothing
  unfolding IsSucc
  succ_none i z = sym (succ_only l i nothing (λ m p. from_zero m (z m p)))
