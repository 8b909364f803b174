-- The tests of a question: what is refused there, and that what passes is answered as if there were no test.
use mathlib.Core.Path.{◌≡◌, refl, sym, ap, ◌∙◌}
use mathlib.Core.Bool.{Bool, true, false, not, ◌&&◌}
use mathlib.Core.List.{List}
use Prim.Native.Nat.{ℕ, ◌+◌, ◌*◌, min}
use native.Mathlib.Numerals.{add-one}
use lib.Dec.{leb}
use lib.ListN.{length, take}
use borrow.Author.Tests.{lt-ltb, le-ltb, leb-true, leb-false}
use Rattle.meaning.specs.Answers.{Answer, is, refused, Refusal, place, broken, provided}
use Rattle.meaning.specs.Bits.{opens, bits_of}
use Rattle.meaning.specs.Plain.{side, plain_rank, plain_select, plain_pred, plain_succ}
use Rattle.meaning.specs.BitString.{held, if_held, before_end, string_rank, string_select, string_pred, string_succ}
use Rattle.meaning.proofs.BitString.{marks_upto}
use Rattle.ops.specs.Asked.{checked, admitted}

-- ---- one test, and two: a refusal stands whatever is behind the test, and so does an answer

one_refused : (t : Bool) (p : Refusal) (x : ℕ) {e : Refusal} → refused e ≡ provided t p (is x) → (a : Answer ℕ) → refused e ≡ provided t p a
unfolding provided
one_refused true p x q a = absurd cc
one_refused false p x q a = q

one_passed : (t : Bool) (p : Refusal) (x : ℕ) {m : ℕ} → is m ≡ provided t p (is x) → ((a : Answer ℕ) → a ≡ provided t p a) × (m ≡ x)
unfolding provided
one_passed true p x q = (λ a. refl, cc)
one_passed false p x q = absurd cc

two_refused : (t u : Bool) (p r : Refusal) (x : ℕ) {e : Refusal} → refused e ≡ provided t p (provided u r (is x)) → (a : Answer ℕ) → refused e ≡ provided t p (provided u r a)
unfolding provided
two_refused true u p r x q a = one_refused u r x q a
two_refused false u p r x q a = q

two_passed : (t u : Bool) (p r : Refusal) (x : ℕ) {m : ℕ} → is m ≡ provided t p (provided u r (is x))
    → ((a : Answer ℕ) → a ≡ provided t p (provided u r a)) × (m ≡ x)
unfolding provided
two_passed true u p r x q = one_passed u r x q
two_passed false u p r x q = absurd cc

-- ---- the length

module _ (ws : List ℕ) (n : ℕ) {t : Bool} (e : t ≡ leb n (64 * length ws)) where
  pub length_held : t ≡ true → is n ≡ checked ws n
  unfolding if_held held provided
  length_held h = rw (sym e ∙ h, provided)

  pub length_broken : t ≡ false → refused broken ≡ checked ws n
  unfolding if_held held provided
  length_broken h = rw (sym e ∙ h, provided)

-- what was refused there is refused whatever is asked; what passed has the words for its length
pub checked_refused : (ws : List ℕ) (n : ℕ) (e : Refusal) → refused e ≡ checked ws n → (a : Answer ℕ) → refused e ≡ if_held ws n a
unfolding if_held
checked_refused ws n e q a = one_refused _ _ _ q a

pub checked_passed : (ws : List ℕ) (n m : ℕ) → is m ≡ checked ws n → (true ≡ leb n (64 * length ws)) × (m ≡ n)
unfolding if_held held provided
checked_passed ws n m q = one_held (leb n (64 * length ws)) q
  where
    one_held : (t : Bool) → is m ≡ provided t broken (is n) → (true ≡ t) × (m ≡ n)
    one_held true z = (refl, cc)
    one_held false z = absurd cc

-- ---- the place

module _ (b : Bool) (ws : List ℕ) (n i : ℕ) where
  pub place_broken : (e : Refusal) → refused e ≡ checked ws n → refused e ≡ admitted b ws n i
  unfolding if_held
  place_broken e q = one_refused _ _ _ q (before_end b n i (is n))

  module _ (m : ℕ) (q : is m ≡ checked ws n) (u : Bool) (f : u ≡ (not b && leb m i)) where
    same : m ≡ n
    unfolding if_held
    same = (one_passed _ _ _ q).1

    behind : before_end b n i (is n) ≡ admitted b ws n i
    unfolding if_held
    behind = (one_passed _ _ _ q).0 (before_end b n i (is n))

    out : (c : Bool) → true ≡ (not c && leb n i) → refused (place i) ≡ before_end c n i (is n)
    unfolding before_end provided
    out true z = absurd cc
    out false z = rw (le-ltb i n (leb-true n i (sym z)), provided)

    inside : (c : Bool) → false ≡ (not c && leb n i) → is n ≡ before_end c n i (is n)
    unfolding before_end provided
    inside true z = refl
    inside false z = rw (lt-ltb i n (leb-false n i (sym z)), provided)

    pub place_outside : u ≡ true → refused (place i) ≡ admitted b ws n i
    place_outside h = out b (sym h ∙ f ∙ ap (λ k. not b && leb k i) same) ∙ behind

    pub place_inside : u ≡ false → is m ≡ admitted b ws n i
    place_inside h = ap is same ∙ inside b (sym h ∙ f ∙ ap (λ k. not b && leb k i) same) ∙ behind

  -- ---- a question of a place

  refused_any : (e : Refusal) → refused e ≡ admitted b ws n i → (a : Answer ℕ) → refused e ≡ if_held ws n (before_end b n i a)
  unfolding if_held before_end
  refused_any e q a = go b q
    where
      go : (c : Bool) → refused e ≡ admitted c ws n i → refused e ≡ if_held ws n (before_end c n i a)
      go true p = one_refused _ _ _ p a
      go false p = two_refused _ _ _ _ _ p a

  passed_any : (m : ℕ) → is m ≡ admitted b ws n i → ((a : Answer ℕ) → a ≡ if_held ws n (before_end b n i a)) × (m ≡ n)
  unfolding if_held before_end
  passed_any m q = go b q
    where
      go : (c : Bool) → is m ≡ admitted c ws n i → ((a : Answer ℕ) → a ≡ if_held ws n (before_end c n i a)) × (m ≡ n)
      go true p = one_passed _ _ _ p
      go false p = two_passed _ _ _ _ _ p

  pub rank_refused : (e : Refusal) → refused e ≡ admitted b ws n i → refused e ≡ string_rank b ws n i
  unfolding string_rank
  rank_refused e q = refused_any e q (is (plain_rank (side b (bits_of ws n)) i))

  pub pred_refused : (e : Refusal) → refused e ≡ admitted b ws n i → refused e ≡ string_pred b ws n i
  unfolding string_pred
  pred_refused e q = refused_any e q (plain_pred (side b (bits_of ws n)) i)

  pub succ_refused : (e : Refusal) → refused e ≡ admitted b ws n i → refused e ≡ string_succ b ws n i
  unfolding string_succ
  succ_refused e q = refused_any e q (plain_succ (side b (bits_of ws n)) i)

  module _ (m : ℕ) (q : is m ≡ admitted b ws n i) where
    -- the rank counts no place past the length
    pub rank_passed : (k j : ℕ) → j ≡ min (i + 1) m → k ≡ opens (take j (side b (bits_of ws n))) → is k ≡ string_rank b ws n i
    unfolding string_rank plain_rank
    rank_passed k j p r =
        let l : List Bool = side b (bits_of ws n) in
        let h = passed_any m q in
        let u : j ≡ min (i + 1) n = p ∙ ap (min (i + 1)) h.1 in
        ap is (r ∙ ap (λ x. opens (take x l)) u ∙ marks_upto b ws n (i + 1) ∙ ap (λ x. opens (take x l)) (add-one i)) ∙ h.0 (is (plain_rank l i))

    pub pred_passed : (a : Answer ℕ) → a ≡ plain_pred (side b (bits_of ws n)) i → a ≡ string_pred b ws n i
    unfolding string_pred
    pred_passed a r = r ∙ (passed_any m q).0 (plain_pred (side b (bits_of ws n)) i)

    pub succ_passed : (a : Answer ℕ) → a ≡ plain_succ (side b (bits_of ws n)) i → a ≡ string_succ b ws n i
    unfolding string_succ
    succ_passed a r = r ∙ (passed_any m q).0 (plain_succ (side b (bits_of ws n)) i)

  -- ---- a question of a rank

  pub select_refused : (e : Refusal) → refused e ≡ checked ws n → refused e ≡ string_select b ws n i
  unfolding string_select if_held
  select_refused e q = one_refused _ _ _ q (plain_select (side b (bits_of ws n)) i)

  pub select_passed : (m : ℕ) → is m ≡ checked ws n → (a : Answer ℕ) → a ≡ plain_select (side b (bits_of ws n)) i → a ≡ string_select b ws n i
  unfolding string_select if_held
  select_passed m q a r = r ∙ (one_passed _ _ _ q).0 (plain_select (side b (bits_of ws n)) i)
