-- One step of the walk of rank, on each way, where a rank past 2^64 - 1 is none.
use mathlib.Core.Path.{◌≡◌, refl, sym, ap, ap₂, ◌∙◌}
use mathlib.Core.Option.{Option, none, some}
use mathlib.Core.List.{List, [], ◌∷◌}
use Prim.Native.Nat.{ℕ, zero, suc, ◌+◌, ◌-◌, ◌^◌, ◌≤◌, ◌<◌}
use native.Mathlib.Decide.{dec_le}
use native.Mathlib.Nat.{not-suc-le-zero}
use native.Mathlib.Numerals.{add-one}
use native.Mathlib.Omega.{arith}
use lib.ListN.{length, get_or, drop, drop_of_length-le}
use borrow.Author.Tests.{le-leb, lt-leb, lt-ltb, le-ltb}
use Rattle.meaning.specs.Dictionary.{leading, rank_walk, limit}
use Rattle.std.specs.Prelude.{◌⊎◌, slice_range}
use Rattle.sparse_one_nnd.proofs.Lists.{head, past_rest, past_length, none_left}

-- a count within the bound, and one past it
pub limit_is : (r : ℕ) → r < 2 ^ 64 → limit (some r) ≡ some r
unfolding limit
limit_is r h = rw (lt-ltb r (2 ^ 64) h, limit)

pub limit_none : (o : Option ℕ) → o ≡ none → limit o ≡ none
unfolding limit
limit_none o e = rw (e, limit)

pub limit_over : (o : Option ℕ) → ((k : ℕ) → o ≡ some k → 2 ^ 64 ≤ k) → limit o ≡ none
unfolding limit
limit_over none h = refl
limit_over (some k) h = rw (le-ltb k (2 ^ 64) (h k refl), limit)

none_some : {o : Option ℕ} (k : ℕ) → o ≡ none → o ≡ some k → ⊥
none_some k e f = let z : ◌≡◌ {A = ℕ} 0 1 = cc in omega arith

-- ranks only grow
pub leading_le : (x r n : ℕ) (bs : List ℕ) (k : ℕ) → leading x r n bs ≡ some k → r ≤ k
unfolding leading
leading_le x r zero bs k e = let z : r ≡ k = cc in omega arith
leading_le x r (suc n) [] k e = absurd (none_some k refl e)
leading_le x r (suc n) (o ∷ bs) k e = go (dec_le o x) (leading_le x (suc r) n bs k)
  where
    go : Dec (o ≤ x) → (leading x (suc r) n bs ≡ some k → suc r ≤ k) → r ≤ k
    go (yes h) ih = omega (arith, ih (rw (le-leb o x h, leading) at e))
    go (no h) ih = let f : some r ≡ some k = rw (lt-leb o x (omega arith), leading) at e in let z : r ≡ k = cc in omega arith

pub walk_le : (x k r : ℕ) (bs : List ℕ) (t : ℕ) → rank_walk x k r bs ≡ some t → r ≤ t
unfolding rank_walk
walk_le x zero r [] t e = let z : r ≡ t = cc in omega arith
walk_le x zero r (n ∷ bs) t e = leading_le x r n bs t e
walk_le x (suc k) r [] t e = let z : r ≡ t = cc in omega arith
walk_le x (suc k) r (n ∷ bs) t e = go (dec_le n (length bs)) (walk_le x k (r + n) (drop n bs) t)
  where
    go : Dec (n ≤ length bs) → (rank_walk x k (r + n) (drop n bs) ≡ some t → r + n ≤ t) → r ≤ t
    go (yes h) ih = omega (arith, ih (rw (le-leb n (length bs) h, rank_walk) at e))
    go (no h) ih = absurd (none_some t (sym (rw (lt-leb n (length bs) (omega arith), rank_walk) at e)) refl)

-- "counts leading offsets up to its place": the loop, of which G is the answer
pub record Counting (G : Option ℕ) (x n : ℕ) (B : List ℕ) (rank i : ℕ) : Type 0 where
  pub few : rank < 2 ^ 64
  pub same : limit (leading x rank (n - i) (drop i B)) ≡ G

pub count_start : (x r n : ℕ) (B : List ℕ) → r < 2 ^ 64 → Counting (limit (leading x r n B)) x n B r 0
count_start x r n B h = let u : n - 0 ≡ n = omega arith in record { few = h; same = ap (λ (k : ℕ). limit (leading x r k B)) u }

module _ {G : Option ℕ} {x n : ℕ} {B : List ℕ} {rank i : ℕ} (s : Counting G x n B rank i) where
  pub count_end : n ≤ i → some rank ≡ G
  unfolding leading
  count_end h = sym (limit_is rank s.few) ∙ ap limit (sym (go (n - i) (omega arith))) ∙ s.same
    where
      go : (k : ℕ) → k ≤ 0 → leading x rank k (drop i B) ≡ some rank
      go zero h = refl
      go (suc k) h = absurd (not-suc-le-zero h)

  pub count_out : i < n → length B ≤ i → none ≡ G
  unfolding leading
  count_out h k = sym (limit_none _ (go (n - i) (omega arith))) ∙ s.same
    where
      go : (t : ℕ) → 0 < t → leading x rank t (drop i B) ≡ none
      go zero h = absurd (not-suc-le-zero h)
      go (suc t) h = rw (drop_of_length-le B k, leading)

  module _ (o : ℕ) (e : o ≡ get_or B i 0) (h : i < n) (k : i < length B) where
    pub count_stop : x < o → some rank ≡ G
    unfolding leading
    count_stop t = sym (limit_is rank s.few) ∙ ap limit (sym (go (n - i) (omega arith))) ∙ s.same
      where
        go : (j : ℕ) → 0 < j → leading x rank j (drop i B) ≡ some rank
        go zero h = absurd (not-suc-le-zero h)
        go (suc j) h = rw (head B i k, leading, lt-leb (get_or B i 0) x (omega arith))

    module _ (t : o ≤ x) where
      more : leading x rank (n - i) (drop i B) ≡ leading x (rank + 1) (n - (i + 1)) (drop (i + 1) B)
      unfolding leading
      more = go (n - i) (n - (i + 1)) (omega arith)
        where
          go : (m j : ℕ) → m ≡ suc j → leading x rank m (drop i B) ≡ leading x (rank + 1) j (drop (i + 1) B)
          go m j u = rw (u, head B i k, leading, le-leb (get_or B i 0) x (omega arith)) (ap (λ (r : ℕ). leading x r j (drop (i + 1) B)) (sym (add-one rank)))

      pub count_over : 2 ^ 64 ≤ rank + 1 → none ≡ G
      count_over u =
          sym (ap limit more ∙ limit_over _ (λ m f. omega (arith, leading_le x (rank + 1) (n - (i + 1)) (drop (i + 1) B) m f))) ∙ s.same

      pub count_on : (r : ℕ) → (rank + 1 < 2 ^ 64) × (r ≡ rank + 1) → Counting G x n B r (i + 1)
      count_on r u =
          record {
            few = omega arith;
            same = ap (λ (r : ℕ). limit (leading x r (n - (i + 1)) (drop (i + 1) B))) u.1 ∙ sym (ap limit more) ∙ s.same;
          }

-- "walks the blocks": the loop
pub record Walking (G : Option ℕ) (x : ℕ) (rest : List ℕ) (left rank : ℕ) : Type 0 where
  pub few : rank < 2 ^ 64
  pub same : limit (rank_walk x left rank rest) ≡ G

pub walk_start : (x k r : ℕ) (B : List ℕ) → r < 2 ^ 64 → Walking (limit (rank_walk x k r B)) x B k r
walk_start x k r B h = record { few = h; same = refl }

pub walk_end : {G : Option ℕ} {x left rank : ℕ} {rest : List ℕ} → Walking G x rest left rank → length rest ≡ 0 → some rank ≡ G
unfolding rank_walk
walk_end {G} {x} {left} {rank} {rest} s h = sym (limit_is rank s.few) ∙ ap limit (sym (go left)) ∙ ap (λ (bs : List ℕ). limit (rank_walk x left rank bs)) (sym (none_left rest h)) ∙ s.same
  where
    go : (k : ℕ) → rank_walk x k rank [] ≡ some rank
    go zero = refl
    go (suc k) = refl

-- at a block of n ones
module _ {G : Option ℕ} {x left rank : ℕ} {rest : List ℕ} (s : Walking G x rest left rank) (n a : ℕ) (bs : List ℕ) (f : n ≡ a) (p : rest ≡ a ∷ bs) where
  at : limit (rank_walk x left rank (n ∷ bs)) ≡ G
  at = ap (λ (l : List ℕ). limit (rank_walk x left rank l)) (ap (λ (k : ℕ). k ∷ bs) f ∙ sym p) ∙ s.same

  pub walk_in : left ≡ 0 → limit (leading x rank n bs) ≡ G
  unfolding rank_walk
  walk_in e = ap (λ (k : ℕ). limit (rank_walk x k rank (n ∷ bs))) (sym e) ∙ at

  module _ (e : left ≡ 0 → ⊥) where
    pub walk_out : (length bs < n) ⊎ (length bs < length bs) → none ≡ G
    unfolding rank_walk
    walk_out t = sym (limit_none _ (go left e)) ∙ at
      where
        go : (k : ℕ) → (k ≡ 0 → ⊥) → rank_walk x k rank (n ∷ bs) ≡ none
        go zero e = absurd (e refl)
        go (suc k) e = rw (rank_walk, lt-leb n (length bs) (past_length n bs t))

    module _ (t : n ≤ length bs) where
      passed : rank_walk x left rank (n ∷ bs) ≡ rank_walk x (left - 1) (rank + n) (drop n bs)
      unfolding rank_walk
      passed = go left e
        where
          go : (k : ℕ) → (k ≡ 0 → ⊥) → rank_walk x k rank (n ∷ bs) ≡ rank_walk x (k - 1) (rank + n) (drop n bs)
          go zero e = absurd (e refl)
          go (suc k) e = let u : k ≡ suc k - 1 = omega arith in rw (rank_walk, le-leb n (length bs) t) (ap (λ (j : ℕ). rank_walk x j (rank + n) (drop n bs)) u)

      pub walk_over : 2 ^ 64 ≤ rank + n → none ≡ G
      walk_over u = sym (ap limit passed ∙ limit_over _ (λ m f. omega (arith, walk_le x (left - 1) (rank + n) (drop n bs) m f))) ∙ at

      pub walk_on : (r : ℕ) (l : List ℕ) → (rank + n < 2 ^ 64) × (r ≡ rank + n) → l ≡ slice_range bs n (length bs) → Walking G x l (left - 1) r
      walk_on r l u v =
          record {
            few = omega arith;
            same = ap₂ (λ (r : ℕ) (l : List ℕ). limit (rank_walk x (left - 1) r l)) u.1 (v ∙ past_rest bs n) ∙ sym (ap limit passed) ∙ at;
          }
