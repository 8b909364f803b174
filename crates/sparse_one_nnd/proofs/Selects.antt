-- One step of the walk of select, on each way, where only a place that is found is tested for overflow.
use mathlib.Core.Path.{◌≡◌, refl, sym, ap, ap₂, ◌∙◌}
use mathlib.Core.Bool.{true, false}
use mathlib.Core.Option.{some}
use mathlib.Core.List.{List, [], ◌∷◌}
use Prim.Native.Nat.{ℕ, zero, suc, pred, ◌+◌, ◌*◌, ◌-◌, ◌^◌, ◌≤◌, ◌<◌}
use native.Mathlib.Decide.{dec_lt}
use native.Mathlib.Nat.{not-suc-le-zero, le_of_suc-le-suc}
use native.Mathlib.Omega.{arith}
use lib.Dec.{eqb}
use lib.ListN.{length, get_or, drop, length-drop}
use borrow.Author.Tests.{le-leb, lt-leb, lt-ltb, le-ltb}
use Rattle.std.proofs.lemmas.Bool.{eqb-true}
use Rattle.std.specs.Prelude.{◌⊎◌, None, Some, slice_range}
use Rattle.meaning.specs.Answers.{Answer, is, nothing, refused, broken}
use Rattle.meaning.specs.Dictionary.{limit, nth, plus, placed, select_walk, select_start}
use Rattle.meaning.proofs.If.{if_true, if_false}
use Rattle.refusal.specs.Said.{option_of}
use Rattle.sparse_one_nnd.proofs.Lists.{past_rest, past_length, none_left}
use Rattle.sparse_one_nnd.proofs.Ranks.{limit_is, limit_over}

-- a place
module _ (n : ℕ) where
  pub place_over : option_of None ≡ limit (some n) → refused broken ≡ placed (is n)
  unfolding placed
  place_over e = go (dec_lt n (2 ^ 64))
    where
      go : Dec (n < 2 ^ 64) → refused broken ≡ placed (is n)
      go (yes h) = absurd (let f = e ∙ limit_is n h in cc)
      go (no h) = sym (if_false _ _ (le-ltb n (2 ^ 64) (omega arith)))

  pub place_is : (i : ℕ) → option_of (Some i) ≡ limit (some n) → is i ≡ placed (is n)
  unfolding placed
  place_is i e = go (dec_lt n (2 ^ 64))
    where
      go : Dec (n < 2 ^ 64) → is i ≡ placed (is n)
      go (yes h) = (let f = e ∙ limit_is n h in let q : i ≡ n = cc in ap is q) ∙ sym (if_true _ _ (lt-ltb n (2 ^ 64) h))
      go (no h) = absurd (let f = e ∙ limit_over (some n) (λ k e. let q : n ≡ k = cc in omega arith) in cc)

-- an offset
nth_none : (q : ℕ) (bs : List ℕ) → length bs ≤ q → nth q bs ≡ refused broken
unfolding nth
nth_none q [] h = refl
nth_none zero (o ∷ bs) h = absurd (not-suc-le-zero h)
nth_none (suc q) (o ∷ bs) h = nth_none q bs (le_of_suc-le-suc h)

nth_there : (q : ℕ) (bs : List ℕ) → q < length bs → nth q bs ≡ is (get_or bs q 0)
unfolding nth
nth_there q [] h = absurd (not-suc-le-zero h)
nth_there zero (o ∷ bs) h = refl
nth_there (suc q) (o ∷ bs) h = nth_there q bs (le_of_suc-le-suc h)

module _ (x q : ℕ) (B : List ℕ) where
  pub offset_out : length B ≤ q → refused broken ≡ placed (plus x (nth q B))
  unfolding placed plus
  offset_out h = sym (ap (λ (a : Answer ℕ). placed (plus x a)) (nth_none q B h))

  pub offset_is : (o : ℕ) (a : Answer ℕ) → o ≡ get_or B q 0 → q < length B → a ≡ placed (is (x + o)) → a ≡ placed (plus x (nth q B))
  unfolding plus
  offset_is o a e h f = f ∙ ap (λ (k : ℕ). placed (is (x + k))) e ∙ sym (ap (λ (a : Answer ℕ). placed (plus x a)) (nth_there q B h))

-- "walks the blocks": the loop, of which G is the answer; j blocks from middle entry m on are passed, in so many bytes
skip : (s x r : ℕ) (bs : List ℕ) → s ≤ length bs → select_walk s x r bs ≡ select_walk 0 x r (drop s bs)
unfolding select_walk
skip zero x r bs h = refl
skip (suc s) x r [] h = absurd (not-suc-le-zero h)
skip (suc s) x r (b ∷ bs) h = skip s x r bs (le_of_suc-le-suc h)

skip_out : (s x r : ℕ) (bs : List ℕ) → length bs < s → select_walk s x r bs ≡ refused broken
unfolding select_walk
skip_out zero x r bs h = absurd (not-suc-le-zero h)
skip_out (suc s) x r [] h = refl
skip_out (suc s) x r (b ∷ bs) h = skip_out s x r bs (le_of_suc-le-suc h)

pub record Finding (G : Answer ℕ) (m all : ℕ) (rest : List ℕ) (j left : ℕ) : Type 0 where
  pub few : j + length rest ≤ all
  pub same : placed (select_walk 0 (2048 * m + 256 * j) left rest) ≡ G

pub find_start : (m q : ℕ) (B : List ℕ) → Finding (placed (select_walk 0 (2048 * m) q B)) m (length B) B 0 q
find_start m q B =
    record { few = omega arith; same = let u : 2048 * m + 256 * 0 ≡ 2048 * m = omega arith in ap (λ (x : ℕ). placed (select_walk 0 x q B)) u }

pub find_end : {G : Answer ℕ} {m all j left : ℕ} {rest : List ℕ} → Finding G m all rest j left → length rest ≡ 0 → nothing ≡ G
unfolding placed select_walk
find_end {G} {m} {all} {j} {left} {rest} s h = ap (λ (bs : List ℕ). placed (select_walk 0 (2048 * m + 256 * j) left bs)) (sym (none_left rest h)) ∙ s.same

-- at a block of n ones
module _ {G : Answer ℕ} {m all j left : ℕ} {rest : List ℕ} (s : Finding G m all rest j left) (n a : ℕ) (bs : List ℕ) (f : n ≡ a) (p : rest ≡ a ∷ bs) where
  at : placed (select_walk 0 (2048 * m + 256 * j) left (n ∷ bs)) ≡ G
  at = ap (λ (l : List ℕ). placed (select_walk 0 (2048 * m + 256 * j) left l)) (ap (λ (k : ℕ). k ∷ bs) f ∙ sym p) ∙ s.same

  pub find_in : (k : ℕ) → left ≤ n → k ≡ pred left → placed (plus (2048 * m + 256 * j) (nth k bs)) ≡ G
  unfolding select_walk
  find_in k t e = ap (λ (k : ℕ). placed (plus (2048 * m + 256 * j) (nth k bs))) e ∙ sym (ap placed (if_true _ _ (le-leb left n t))) ∙ at

  pub find_room : j + 1 ≤ all
  find_room = omega (arith, s.few, ap length p)

  module _ (t : n < left) where
    passed : select_walk 0 (2048 * m + 256 * j) left (n ∷ bs) ≡ select_walk n (2048 * m + 256 * j + 256) (left - n) bs
    unfolding select_walk
    passed = if_false _ _ (lt-leb left n t)

    pub find_out : (length bs < n) ⊎ (length bs < length bs) → refused broken ≡ G
    unfolding placed
    find_out o = sym (ap placed (passed ∙ skip_out n (2048 * m + 256 * j + 256) (left - n) bs (past_length n bs o))) ∙ at

    pub find_on : (l : List ℕ) → n ≤ length bs → l ≡ slice_range bs n (length bs) → Finding G m all l (j + 1) (left - n)
    find_on l o e =
        let u : 2048 * m + 256 * (j + 1) ≡ 2048 * m + 256 * j + 256 = omega arith in
        record {
          few = omega (arith, s.few, ap length p, ap length (e ∙ past_rest bs n), length-drop n bs);
          same =
              ap₂ (λ (x : ℕ) (l : List ℕ). placed (select_walk 0 x (left - n) l)) u (e ∙ past_rest bs n)
              ∙ sym (ap placed (passed ∙ skip n (2048 * m + 256 * j + 256) (left - n) bs o))
              ∙ at;
        }

-- a start
module _ (x q o : ℕ) (B : List ℕ) where
  pub begin_end : o < 2 ^ 64 → true ≡ eqb (length B) 0 → nothing ≡ placed (select_start x q o B)
  unfolding placed select_start
  begin_end u h = sym (ap (λ (bs : List ℕ). placed (select_start x q o bs)) (none_left B (eqb-true (length B) 0 (sym h))) ∙ ap placed (if_true _ _ (lt-ltb o (2 ^ 64) u)))

  pub begin_below : false ≡ eqb (length B) 0 → q ≤ o → refused broken ≡ placed (select_start x q o B)
  unfolding placed select_start
  begin_below h t = go B h
    where
      go : (B : List ℕ) → false ≡ eqb (length B) 0 → refused broken ≡ placed (select_start x q o B)
      go [] h = absurd cc
      go (n ∷ bs) h = sym (ap placed (if_false _ _ (le-ltb o q t)))

  pub begin_on : false ≡ eqb (length B) 0 → o < q → placed (select_walk 0 x (q - o) B) ≡ placed (select_start x q o B)
  unfolding select_start
  begin_on h t = go B h
    where
      go : (B : List ℕ) → false ≡ eqb (length B) 0 → placed (select_walk 0 x (q - o) B) ≡ placed (select_start x q o B)
      go [] h = absurd cc
      go (n ∷ bs) h = sym (ap placed (if_true _ _ (lt-ltb o q t)))
