-- Going up to the family: the levels that the areas hold from one on, and the ways out of string close and family close.
use mathlib.Core.Path.{◌≡◌, refl, sym, ap, ◌∙◌, subst}
use mathlib.Core.Bool.{Bool, true, false, ◌&&◌}
use mathlib.Core.Option.{Option, none, some}
use mathlib.Core.Logic.{◌⊎◌, inl, inr}
use mathlib.Core.List.{List, [], ◌∷◌}
use Prim.Native.Nat.{ℕ, zero, suc, ◌+◌, ◌*◌, ◌-◌, ◌/◌, ◌^◌, ◌<◌, ◌≤◌}
use native.Mathlib.Nat.{eq-or-lt_of_le}
use native.Mathlib.Numerals.{add-one}
use native.Mathlib.Omega.{arith}
use lib.Dec.{ltb, leb, eqb}
use lib.ListN.{length, get_or, take, drop, length-drop, drop_of_length-le}
use lib.Seq.{take_all, drop-drop}
use borrow.Author.Tests.{le-leb, lt-leb}
use Rattle.meaning.specs.Bits.{bits_of, word_count}
use Rattle.meaning.specs.Dictionary.{Dict, is_empty, rank_of, select_of, pred_of}
use Rattle.meaning.specs.Family.{Level, no_dict}
use Rattle.meaning.specs.Close.{excess, from_close, and_then, found, test, less, family_close, far_close, close_at}
use Rattle.meaning.specs.Size.{sum}
use Rattle.meaning.specs.Areas as areas
use Rattle.meaning.specs.Areas.{Held, own_dict, past, view}
use Rattle.meaning.specs.Direct.{dict_in, dict_past, entries_fit, if_fit, dict_rank, dict_select, dict_pred}
use Rattle.meaning.proofs.If.{bit, if_true, if_false, and_true}
use Rattle.meaning.proofs.Inside.{found_or}
use Rattle.meaning.proofs.Stored.{length_bits}
use Rattle.record.specs.declared.Counts.{Counts}
use Rattle.record.specs.Record.{level_in, last_in, tree_in}
use Rattle.sparse_one_nnd.specs.Said.{entries_in, dict_at}
use Rattle.closes.specs.Parts.{held_at, entries_at, levels_from, past_at, Fits, Counted}
use Rattle.std.specs.Prelude.{Option as Maybe, None, Some, Result, Ok, Err}
use Rattle.std.specs.Result.{result_ok}
use Rattle.refusal.specs.Said.{option_of}
use Rattle.refusal.specs.declared.Refusal.{Refusal}
use Rattle.closes.specs.Steps.{Small, Finds, or_far, SmallIn, NearIs}
use Rattle.closes.specs.declared.family.At.{At}

-- the record's levels from one on
levels_next : (c : Counts) (k : ℕ) → k < 4 → drop k (tree_in c).counts ≡ level_in c k ∷ drop (suc k) (tree_in c).counts
unfolding tree_in
levels_next c zero h = refl
levels_next c (suc zero) h = refl
levels_next c (suc (suc zero)) h = refl
levels_next c (suc (suc (suc zero))) h = refl
levels_next c (suc (suc (suc (suc k)))) h = absurd (omega arith)

levels_last : (c : Counts) → drop 4 (tree_in c).counts ≡ last_in c ∷ []
unfolding tree_in
levels_last c = refl

levels_over : (c : Counts) (k : ℕ) → 5 ≤ k → drop k (tree_in c).counts ≡ []
unfolding tree_in
levels_over c k h = drop_of_length-le (tree_in c).counts h

-- a level, whose string is its own bits
pub record Shape (l : List Bool) (t : List Level) : Type 0 where
  pub dict : Dict
  pub up : List Level
  pub is : t ≡ record { bits = l; dict = dict } ∷ up

pub view_shape : (n : areas.Counts) (cs : List areas.Counts) (a : Held) → Shape (bits_of a.words n.bits) (view (n ∷ cs) a)
unfolding view
view_shape n cs a = go (bit (leb n.bits 64))
  where
    go : (leb n.bits 64 ≡ true) ⊎ (leb n.bits 64 ≡ false) → Shape (bits_of a.words n.bits) (view (n ∷ cs) a)
    go (inl e) = record { dict = _; up = _; is = if_true _ _ e }
    go (inr e) = record { dict = _; up = _; is = if_false _ _ e }

view_lone : (n : areas.Counts) (cs : List areas.Counts) (a : Held) → n.bits ≤ 64
    → view (n ∷ cs) a ≡ record { bits = bits_of a.words n.bits; dict = no_dict } ∷ []
unfolding view
view_lone n cs a h = if_true _ _ (le-leb n.bits 64 h)

view_more : (n : areas.Counts) (cs : List areas.Counts) (a : Held) → 64 < n.bits
    → view (n ∷ cs) a ≡ record { bits = bits_of a.words n.bits; dict = own_dict n a } ∷ view cs (past n a)
unfolding view
view_more n cs a h = if_false _ _ (lt-leb n.bits 64 h)

-- a dictionary without entries has no flagged place
far_none : (l : List Bool) (up : ℕ → Option ℕ) (p : ℕ) → far_close (record { bits = l; dict = no_dict }) up p ≡ none
unfolding far_close and_then found pred_of rank_of select_of is_empty
far_none l up p = refl

module _ (c : Counts) (k : ℕ) (a : Held) where
  levels_shape : k < 5 → Shape (bits_of a.words (get_or c.bits k 0)) (levels_from c k a)
  levels_shape h = go (eq-or-lt_of_le h)
    where
      go : (suc k ≡ 5) ⊎ (suc k < 5) → Shape (bits_of a.words (get_or c.bits k 0)) (levels_from c k a)
      go (inl e) =
          let u : 4 ≡ k = omega arith in
          subst (λ j. Shape (bits_of a.words (get_or c.bits j 0)) (levels_from c j a)) u
          (subst (λ cs. Shape (bits_of a.words (get_or c.bits 4 0)) (view cs a)) (sym (levels_last c)) (view_shape (last_in c) [] a))
      go (inr e) =
          subst (λ cs. Shape (bits_of a.words (get_or c.bits k 0)) (view cs a)) (sym (levels_next c k (omega arith)))
          (view_shape (level_in c k) (drop (suc k) (tree_in c).counts) a)

  -- no level is left
  pub close_over : (p : ℕ) → 5 ≤ k → Finds None (close_at (levels_from c k a) p)
  unfolding view close_at
  close_over p h = record { is = sym (ap (λ cs. close_at (view cs a) p) (levels_over c k h)); small = tt }

  lone : k < 5 → get_or c.bits k 0 ≤ 64 → (up : List Level) × (levels_from c k a ≡ record { bits = bits_of a.words (get_or c.bits k 0); dict = no_dict } ∷ up)
  lone h g = go (eq-or-lt_of_le h)
    where
      Lone : ℕ → Type 0
      Lone j = (up : List Level) × (levels_from c j a ≡ record { bits = bits_of a.words (get_or c.bits j 0); dict = no_dict } ∷ up)

      go : (suc k ≡ 5) ⊎ (suc k < 5) → Lone k
      go (inl e) =
          let u : k ≡ 4 = omega arith in
          subst Lone (sym u)
          ([], ap (λ cs. view cs a) (levels_last c) ∙ view_lone (last_in c) [] a (subst (λ j. get_or c.bits j 0 ≤ 64) u g))
      go (inr e) = ([], ap (λ cs. view cs a) (levels_next c k (omega arith)) ∙ view_lone (level_in c k) _ a g)

  last : k ≡ 4 → (up : List Level) × (levels_from c k a ≡ record { bits = bits_of a.words (get_or c.bits k 0); dict = no_dict } ∷ up)
  unfolding view own_dict
  last e =
      subst (λ j. (up : List Level) × (levels_from c j a ≡ record { bits = bits_of a.words (get_or c.bits j 0); dict = no_dict } ∷ up)) (sym e)
      (go (bit (leb (get_or c.bits 4 0) 64)))
    where
      Top : Type 0
      Top = (up : List Level) × (levels_from c 4 a ≡ record { bits = bits_of a.words (get_or c.bits 4 0); dict = no_dict } ∷ up)

      go : (leb (get_or c.bits 4 0) 64 ≡ true) ⊎ (leb (get_or c.bits 4 0) 64 ≡ false) → Top
      go (inl f) = (_, ap (λ cs. view cs a) (levels_last c) ∙ if_true _ _ f)
      go (inr f) = (_, ap (λ cs. view cs a) (levels_last c) ∙ if_false _ _ f)

-- what a level's own words are, lent from there on
tail_is : (ws : List ℕ) (x : ℕ) → take (length ws - x) (drop x ws) ≡ drop x ws
tail_is ws x = take_all (length ws - x) (drop x ws) (omega (arith, length-drop x ws))

-- the word's answer is a place, or that it has none
ok_is : (r : Result (Maybe ℕ) Refusal) (o : Maybe (Maybe ℕ)) (near : Maybe ℕ) → o ≡ result_ok r → o ≡ Some near → r ≡ Ok near
ok_is (Ok x) o near e f = cc
ok_is (Err x) o near e f = absurd cc

lost_is : (r : Result (Maybe ℕ) Refusal) (o : Maybe (Maybe ℕ)) (far : Option ℕ) → o ≡ result_ok r → o ≡ None → or_far r far ≡ none
lost_is (Ok x) o far e f = absurd cc
lost_is (Err x) o far e f = refl

module _ (c : Counts) (k : ℕ) (at : At) (ws bs ms ls : List ℕ) (p : ℕ) (r : Result (Maybe ℕ) Refusal) (h : k < 5)
    (n : NearIs (bits_of (take (length ws - at.words) (drop at.words ws)) (get_or c.bits k 0)) p r) (o : Maybe (Maybe ℕ)) (g : o ≡ result_ok r) where
  own : NearIs (bits_of (drop at.words ws) (get_or c.bits k 0)) p r
  own = subst (λ l. NearIs (bits_of l (get_or c.bits k 0)) p r) (tail_is ws at.words) n

  far : Option ℕ
  far =
      far_close (record { bits = bits_of (drop at.words ws) (get_or c.bits k 0); dict = (levels_shape c k (held_at at ws bs ms ls) h).dict })
      (λ i. close_at (levels_shape c k (held_at at ws bs ms ls) h).up i) p

  answer : close_at (levels_from c k (held_at at ws bs ms ls)) p ≡ or_far r far
  unfolding far
  answer =
      let s = levels_shape c k (held_at at ws bs ms ls) h in
      ap (λ t. close_at t p) s.is ∙ own.close s.dict s.up

  pub near_broken : (z : Maybe ℕ) → o ≡ None → z ≡ None → Finds z (close_at (levels_from c k (held_at at ws bs ms ls)) p)
  near_broken z e f =
      subst (λ x. Finds x (close_at (levels_from c k (held_at at ws bs ms ls)) p)) (sym f)
      (record { is = sym (answer ∙ lost_is r o far g e); small = tt })

  module _ (near : Maybe ℕ) (j : o ≡ Some near) where
    -- the word holds it, or is BROKEN
    pub near_found : (i : ℕ) → near ≡ Some i → Finds (Some i) (close_at (levels_from c k (held_at at ws bs ms ls)) p)
    near_found i e =
        let q : r ≡ Ok (Some i) = ok_is r o near g j ∙ ap Ok e in
        record { is = sym (answer ∙ ap (λ x. or_far x far) q); small = subst SmallIn q n.small }

    -- the question goes up where there is no family
    module _ (e : near ≡ None) where
      far_is : r ≡ Ok None
      far_is = ok_is r o near g j ∙ ap Ok e

      stays : (up : List Level) × (levels_from c k (held_at at ws bs ms ls) ≡ record { bits = bits_of (drop at.words ws) (get_or c.bits k 0); dict = no_dict } ∷ up)
          → Finds None (close_at (levels_from c k (held_at at ws bs ms ls)) p)
      stays u =
          record {
            is =
                sym (ap (λ t. close_at t p) u.1
                ∙ own.close no_dict u.0
                ∙ ap (λ x. or_far x (far_close (record { bits = bits_of (drop at.words ws) (get_or c.bits k 0); dict = no_dict }) (λ i. close_at u.0 i) p)) far_is
                ∙ far_none (bits_of (drop at.words ws) (get_or c.bits k 0)) (λ i. close_at u.0 i) p);
            small = tt;
          }

      pub far_lone : get_or c.bits k 0 ≤ 64 → Finds None (close_at (levels_from c k (held_at at ws bs ms ls)) p)
      far_lone g = stays (lone c k (held_at at ws bs ms ls) h g)

      pub far_last : k ≡ 4 → Finds None (close_at (levels_from c k (held_at at ws bs ms ls)) p)
      far_last g = stays (last c k (held_at at ws bs ms ls) g)

-- a level that has one above it: its dictionary in its own parts, and the parts of the next
module _ (c : Counts) (at : At) (ws bs ms ls : List ℕ) (h : at.level < 4) (f : Fits (drop at.level (tree_in c).counts) at ws bs ms ls) where
  own_fits : Fits (level_in c at.level ∷ drop (suc at.level) (tree_in c).counts) at ws bs ms ls
  own_fits = subst (λ cs. Fits cs at ws bs ms ls) (levels_next c at.level h) f

  entries_fit_lem : entries_fit (entries_at c at.level) (dict_past (entries_in at.dict) (dict_at bs ms ls)) ≡ true
  unfolding entries_fit dict_past sum
  entries_fit_lem =
      let u : get_or c.bytes at.level 0 ≤ length (drop at.dict.bytes bs) = omega (arith, own_fits.bytes, length-drop at.dict.bytes bs) in
      let v : 2 * get_or c.middles at.level 0 ≤ length (drop (2 * at.dict.middles) ms) = omega (arith, own_fits.middle, length-drop (2 * at.dict.middles) ms) in
      let w : 2 * get_or c.larges at.level 0 ≤ length (drop (2 * at.dict.larges) ls) = omega (arith, own_fits.large, length-drop (2 * at.dict.larges) ls) in
      and_true (and_true (le-leb _ _ u) (le-leb _ _ v)) (le-leb _ _ w)

  dict_is : dict_in (entries_at c at.level) (dict_past (entries_in at.dict) (dict_at bs ms ls)) ≡ own_dict (level_in c at.level) (held_at at ws bs ms ls)
  unfolding dict_in dict_past own_dict
  dict_is = refl

  rank_is : (q : ℕ) → found (dict_rank (entries_at c at.level) (dict_past (entries_in at.dict) (dict_at bs ms ls)) q) ≡ rank_of (own_dict (level_in c at.level) (held_at at ws bs ms ls)) q
  unfolding dict_rank if_fit
  rank_is q = ap found (if_true _ _ entries_fit_lem) ∙ found_or _ ∙ ap (λ d. rank_of d q) dict_is

  select_is : (i : ℕ) → dict_select (entries_at c at.level) (dict_past (entries_in at.dict) (dict_at bs ms ls)) i ≡ select_of (own_dict (level_in c at.level) (held_at at ws bs ms ls)) i
  unfolding dict_select if_fit
  select_is i = if_true _ _ entries_fit_lem ∙ ap (λ d. select_of d i) dict_is

  pred_is : (p : ℕ) → dict_pred (entries_at c at.level) (dict_past (entries_in at.dict) (dict_at bs ms ls)) p ≡ pred_of (own_dict (level_in c at.level) (held_at at ws bs ms ls)) p
  unfolding dict_pred if_fit
  pred_is p = if_true _ _ entries_fit_lem ∙ ap (λ d. pred_of d p) dict_is

  past_is : past (level_in c at.level) (held_at at ws bs ms ls) ≡ held_at (past_at (level_in c at.level) at) ws bs ms ls
  unfolding past
  past_is =
      let u : 2 * at.dict.middles + 2 * get_or c.middles at.level 0 ≡ 2 * (at.dict.middles + get_or c.middles at.level 0) = omega arith in
      let v : 2 * at.dict.larges + 2 * get_or c.larges at.level 0 ≡ 2 * (at.dict.larges + get_or c.larges at.level 0) = omega arith in
      λ i.
      record {
        words = drop-drop (word_count (get_or c.bits at.level 0)) at.words ws i;
        bytes = drop-drop (get_or c.bytes at.level 0) at.dict.bytes bs i;
        middle = (drop-drop (2 * get_or c.middles at.level 0) (2 * at.dict.middles) ms ∙ ap (λ x. drop x ms) u) i;
        large = (drop-drop (2 * get_or c.larges at.level 0) (2 * at.dict.larges) ls ∙ ap (λ x. drop x ls) v) i;
      }

  pub fits_up : (next : At) → next ≡ past_at (level_in c at.level) at → Fits (drop next.level (tree_in c).counts) next ws bs ms ls
  unfolding sum
  fits_up next e =
      subst (λ x. Fits (drop x.level (tree_in c).counts) x ws bs ms ls) (sym e)
      (record {
        words = omega (arith, own_fits.words);
        bytes = omega (arith, own_fits.bytes);
        middle = omega (arith, own_fits.middle);
        large = omega (arith, own_fits.large);
      })

  pub counted : length ws < 2 ^ 64 → length bs < 2 ^ 64 → length ms < 2 ^ 64 → length ls < 2 ^ 64 → Counted (level_in c at.level) at
  unfolding sum
  counted a b d e =
      record {
        words = omega (arith, own_fits.words);
        bytes = omega (arith, own_fits.bytes);
        middle = omega (arith, own_fits.middle);
        large = omega (arith, own_fits.large);
      }

  -- family close
  module _ (q : ℕ) (x : Maybe ℕ) (e : option_of x ≡ found (dict_rank (entries_at c at.level) (dict_past (entries_in at.dict) (dict_at bs ms ls)) q)) where
    ranked : (o : Option ℕ) → option_of x ≡ o → rank_of (own_dict (level_in c at.level) (held_at at ws bs ms ls)) q ≡ o
    ranked o g = sym (rank_is q) ∙ sym e ∙ g

    pub family_none : (z : Maybe ℕ) → x ≡ None → z ≡ None
        → option_of z ≡ family_close (own_dict (level_in c at.level) (held_at at ws bs ms ls)) (λ i. close_at (levels_from c (suc at.level) (past (level_in c at.level) (held_at at ws bs ms ls))) i) q
    unfolding family_close and_then
    family_none z g l = rw (l, ranked none (ap option_of g))

    pub family_zero : (r : ℕ) → x ≡ Some r → r ≡ 0
        → none ≡ family_close (own_dict (level_in c at.level) (held_at at ws bs ms ls)) (λ i. close_at (levels_from c (suc at.level) (past (level_in c at.level) (held_at at ws bs ms ls))) i) q
    unfolding family_close and_then less
    family_zero r g i = rw (ranked (some 0) (ap option_of g ∙ ap some i))

    module _ (r : ℕ) (g : x ≡ Some r) (i : ¬ (r ≡ 0)) (next : At) (j : next ≡ past_at (level_in c at.level) at) (y : Maybe ℕ)
        (l : Finds y (close_at (levels_from c next.level (held_at next ws bs ms ls)) (r - 1))) where
      above_is : (o : Option ℕ) → option_of y ≡ o → close_at (levels_from c (suc at.level) (past (level_in c at.level) (held_at at ws bs ms ls))) (r - 1) ≡ o
      above_is o m =
          ap (λ a. close_at (levels_from c (suc at.level) a) (r - 1)) past_is
          ∙ ap (λ n. close_at (levels_from c n.level (held_at n ws bs ms ls)) (r - 1)) (sym j)
          ∙ sym l.is
          ∙ m

      ranked_next : rank_of (own_dict (level_in c at.level) (held_at at ws bs ms ls)) q ≡ some (suc (r - 1))
      ranked_next = let u : r ≡ suc (r - 1) = omega arith in ranked _ (ap option_of g ∙ ap some u)

      pub family_broken : (z : Maybe ℕ) → y ≡ None → z ≡ None
          → option_of z ≡ family_close (own_dict (level_in c at.level) (held_at at ws bs ms ls)) (λ i. close_at (levels_from c (suc at.level) (past (level_in c at.level) (held_at at ws bs ms ls))) i) q
      unfolding family_close and_then less
      family_broken z m o = rw (o, ranked_next, and_then, less, and_then, above_is none (ap option_of m))

      pub family_found : (n : ℕ) → y ≡ Some n → (z : Maybe ℕ)
          → option_of z ≡ found (dict_select (entries_at c at.level) (dict_past (entries_in at.dict) (dict_at bs ms ls)) (n + 1))
          → option_of z ≡ family_close (own_dict (level_in c at.level) (held_at at ws bs ms ls)) (λ i. close_at (levels_from c (suc at.level) (past (level_in c at.level) (held_at at ws bs ms ls))) i) q
      unfolding family_close and_then less
      family_found n m z o =
          rw (ranked_next, and_then, less, and_then, above_is (some n) (ap option_of m), and_then)
          (o ∙ ap found (select_is (n + 1) ∙ ap (select_of (own_dict (level_in c at.level) (held_at at ws bs ms ls))) (add-one n)))

-- a place that has a next one
pub next_fits : (y : Maybe ℕ) (o : Option ℕ) (n : ℕ) → Finds y o → y ≡ Some n → n + 1 < 2 ^ 64
next_fits y o n f e = subst Small e f.small

-- a pioneer in p's own block
then_none : (t : ℕ → Bool) (f : ℕ → Option ℕ) (o : Option ℕ) → and_then o (λ q. test (t q) (some q)) ≡ none → and_then o (λ q. test (t q) (f q)) ≡ none
unfolding and_then test
then_none t f none e = refl
then_none t f (some i) e = go (t i) e
  where
    go : (b : Bool) → test b (some i) ≡ none → test b (f i) ≡ none
    go true e = let z : ◌≡◌ {A = ℕ} 0 1 = cc in absurd (omega arith)
    go false e = refl

then_is : (t : ℕ → Bool) (f : ℕ → Option ℕ) (o : Option ℕ) (q : ℕ) → and_then o (λ q. test (t q) (some q)) ≡ some q → and_then o (λ q. test (t q) (f q)) ≡ f q
unfolding and_then test
then_is t f none q e = let z : ◌≡◌ {A = ℕ} 0 1 = cc in absurd (omega arith)
then_is t f (some i) q e = go (t i) e
  where
    go : (b : Bool) → test b (some i) ≡ some q → test b (f i) ≡ f q
    go true e = let z : i ≡ q = cc in ap f z
    go false e = let z : ◌≡◌ {A = ℕ} 0 1 = cc in absurd (omega arith)

module _ (c : Counts) (at : At) (ws bs ms ls : List ℕ) (p : ℕ) (r : Result (Maybe ℕ) Refusal) (h : at.level < 5) (h4 : ¬ (at.level ≡ 4))
    (f : Fits (drop at.level (tree_in c).counts) at ws bs ms ls) (m : 64 < get_or c.bits at.level 0)
    (n : NearIs (bits_of (take (length ws - at.words) (drop at.words ws)) (get_or c.bits at.level 0)) p r)
    (u : Maybe (Maybe ℕ)) (v : u ≡ result_ok r) (near : Maybe ℕ) (w : u ≡ Some near) (e : near ≡ None) where
  abbrev bits : List Bool
  bits = bits_of (drop at.words ws) (get_or c.bits at.level 0)

  abbrev dict : Dict
  dict = own_dict (level_in c at.level) (held_at at ws bs ms ls)

  abbrev up : ℕ → Option ℕ
  up i = close_at (levels_from c (suc at.level) (past (level_in c at.level) (held_at at ws bs ms ls))) i

  far_is_close : close_at (levels_from c at.level (held_at at ws bs ms ls)) p ≡ far_close (record { bits = bits; dict = dict }) up p
  far_is_close =
      ap (λ cs. close_at (view cs (held_at at ws bs ms ls)) p) (levels_next c at.level (omega arith))
      ∙ ap (λ t. close_at t p) (view_more (level_in c at.level) (drop (suc at.level) (tree_in c).counts) (held_at at ws bs ms ls) m)
      ∙ (own c at.level at ws bs ms ls p r h n u v).close dict (levels_from c (suc at.level) (past (level_in c at.level) (held_at at ws bs ms ls)))
      ∙ ap (λ x. or_far x (far_close (record { bits = bits; dict = dict }) up p)) (far_is c at.level at ws bs ms ls p r h n u v near w e)

  -- from the pioneer q on, and from its close
  abbrev back : ℕ → ℕ → Option ℕ
  back q c = test (ltb c (length bits)) (and_then (excess bits 0 q (p - q)) (λ d. from_close bits d c))

  abbrev onward : ℕ → Option ℕ
  onward q = and_then (family_close dict up q) (λ c. back q c)

  module _ (x : Maybe ℕ)
      (g : option_of x ≡ and_then (found (dict_pred (entries_at c at.level) (dict_past (entries_in at.dict) (dict_at bs ms ls)) p)) (λ q. test (leb q p && eqb (q / 64) (p / 64)) (some q))) where
    pioneer : (o : Option ℕ) → option_of x ≡ o → and_then (found (pred_of dict p)) (λ q. test (leb q p && eqb (q / 64) (p / 64)) (some q)) ≡ o
    pioneer o i =
        ap (λ z. and_then (found z) (λ q. test (leb q p && eqb (q / 64) (p / 64)) (some q))) (sym (pred_is c at ws bs ms ls (omega arith) f p)) ∙ sym g ∙ i

    pub no_pioneer : (z : Maybe ℕ) → x ≡ None → z ≡ None → Finds z (close_at (levels_from c at.level (held_at at ws bs ms ls)) p)
    unfolding far_close
    no_pioneer z i l =
        subst (λ x. Finds x (close_at (levels_from c at.level (held_at at ws bs ms ls)) p)) (sym l)
        (record {
          is = sym (far_is_close ∙ then_none (λ q. leb q p && eqb (q / 64) (p / 64)) onward (found (pred_of dict p)) (pioneer none (ap option_of i)));
          small = tt;
        })

    module _ (q : ℕ) (i : x ≡ Some q) (y : Maybe ℕ)
        (j : option_of y ≡ family_close (own_dict (level_in c at.level) (held_at at ws bs ms ls)) (λ i. close_at (levels_from c (suc at.level) (past (level_in c at.level) (held_at at ws bs ms ls))) i) q) where
      far_onward : close_at (levels_from c at.level (held_at at ws bs ms ls)) p ≡ onward q
      unfolding far_close
      far_onward = far_is_close ∙ then_is (λ q. leb q p && eqb (q / 64) (p / 64)) onward (found (pred_of dict p)) q (pioneer (some q) (ap option_of i))

      pub no_close : (z : Maybe ℕ) → y ≡ None → z ≡ None → Finds z (close_at (levels_from c at.level (held_at at ws bs ms ls)) p)
      unfolding and_then
      no_close z l m =
          subst (λ x. Finds x (close_at (levels_from c at.level (held_at at ws bs ms ls)) p)) (sym m)
          (record { is = sym (far_onward ∙ ap (λ z. and_then z (λ c. back q c)) (sym j ∙ ap option_of l)); small = tt })

      pub far_found : (d : ℕ) → y ≡ Some d → (z : Maybe ℕ)
          → Finds z (test (ltb d (get_or c.bits at.level 0)) (and_then (excess (bits_of (take (length ws - at.words) (drop at.words ws)) (get_or c.bits at.level 0)) 0 q (p - q)) (λ x. from_close (bits_of (take (length ws - at.words) (drop at.words ws)) (get_or c.bits at.level 0)) x d)))
          → Finds z (close_at (levels_from c at.level (held_at at ws bs ms ls)) p)
      unfolding and_then
      far_found d l z o =
          record {
            is =
                o.is
                ∙ ap (λ v. test (ltb d (get_or c.bits at.level 0)) (and_then (excess (bits_of v (get_or c.bits at.level 0)) 0 q (p - q)) (λ x. from_close (bits_of v (get_or c.bits at.level 0)) x d))) (tail_is ws at.words)
                ∙ ap (λ v. test (ltb d v) (and_then (excess bits 0 q (p - q)) (λ x. from_close bits x d))) (sym (length_bits (drop at.words ws) (get_or c.bits at.level 0)))
                ∙ sym (far_onward ∙ ap (λ z. and_then z (λ c. back q c)) (sym j ∙ ap option_of l));
            small = o.small;
          }
