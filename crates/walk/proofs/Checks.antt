-- What is checked before the walk, check by check.
use mathlib.Core.Path.{◌≡◌, refl, sym, ap, ap₂, ◌∙◌}
use mathlib.Core.Bool.{Bool, true, false, ◌&&◌}
use mathlib.Core.Option.{Option, none, some}
use mathlib.Core.List.{List, [], ◌∷◌, map}
use Prim.Native.Nat.{ℕ, ◌+◌, ◌*◌, ◌≤◌, ◌<◌}
use native.Mathlib.Omega.{arith}
use lib.Dec.{leb}
use lib.ListN.{length}
use borrow.Author.Tests.{le-leb, lt-leb, leb-true}
use Rattle.meaning.specs.Answers as answers
use Rattle.meaning.specs.Answers.{is, refused, broken, provided}
use Rattle.meaning.specs.Bits.{word_count}
use Rattle.meaning.specs.Child.{root}
use Rattle.meaning.specs.Size.{sum}
use Rattle.meaning.specs.Build.{Lent}
use Rattle.meaning.specs.Questions.{counts_fit, nodes_in as nodes_told}
use Rattle.meaning.specs.Refusals.{check as test, first_of}
use Rattle.meaning.specs.Walking as walk
use Rattle.meaning.specs.Walking.{WalkRooms, walk_refusal, walk_by, walked_by, walking}
use Rattle.meaning.proofs.If.{both, if_none, if_some}
use Rattle.meaning.proofs.Accepted.{check_none, first_none}
use Rattle.record.specs.declared.Counts.{Counts}
use Rattle.record.specs.Record.{tree_in}
use Rattle.walk.specs.Said.{rooms_at}
use Rattle.walk.specs.Told.{Zeros, Roomy, ended}

nodes_in : (c : Counts) → (tree_in c).nodes ≡ c.nodes
unfolding tree_in
nodes_in c = refl

-- nodes that are told lie within area 4
module _ (c : Counts) (a : Lent) (n : ℕ) (e : is n ≡ nodes_told (tree_in c) a) where
  told : (counts_fit (tree_in c) a ≡ true) × (n ≡ c.nodes)
  unfolding nodes_told provided tree_in
  told = go (counts_fit (tree_in c) a) e
    where
      go : (b : Bool) → is n ≡ provided b broken (is c.nodes) → (b ≡ true) × (n ≡ c.nodes)
      go true f = let z : n ≡ c.nodes = cc in (refl, z)
      go false f = absurd cc

  pub few : n ≤ length a.labels
  unfolding counts_fit
  few =
      let t = tree_in c in
      let l : t.nodes ≤ length a.labels =
      leb-true _ _
      (both
      (leb (sum (map (λ n. word_count n.bits) t.counts)) (length a.held.words)
      && leb (sum (map (λ n. n.bytes) t.counts)) (length a.held.bytes)
      && leb (2 * sum (map (λ n. n.middle) t.counts)) (length a.held.middle)
      && leb (2 * sum (map (λ n. n.large) t.counts)) (length a.held.large))
      _ told.0).1
      in
      omega (arith, nodes_in c, told.1)

  module _ (w : WalkRooms) where
    pub no_scratch : w.scratch < 2 * n + 2 → some (answers.room 5) ≡ walk_refusal (tree_in c) a w
    unfolding walk_refusal first_of test
    no_scratch g = let h : w.scratch < 2 * c.nodes + 2 = omega (arith, told.1) in rw (told.0, nodes_in c, lt-leb (2 * c.nodes + 2) w.scratch h)

    module _ (g : 2 * n + 2 ≤ w.scratch) where
      room_5 : leb (2 * c.nodes + 2) w.scratch ≡ true
      room_5 = le-leb (2 * c.nodes + 2) w.scratch (omega (arith, told.1))

      pub no_levels : w.levels < n → some (answers.room 10) ≡ walk_refusal (tree_in c) a w
      unfolding walk_refusal first_of test
      no_levels h = let i : w.levels < c.nodes = omega (arith, told.1) in rw (told.0, nodes_in c, room_5, lt-leb c.nodes w.levels i)

      module _ (h : n ≤ w.levels) where
        room_10 : leb c.nodes w.levels ≡ true
        room_10 = le-leb c.nodes w.levels (omega (arith, told.1))

        pub no_labels : w.labels < n → some (answers.room 11) ≡ walk_refusal (tree_in c) a w
        unfolding walk_refusal first_of test
        no_labels i = let j : w.labels < c.nodes = omega (arith, told.1) in rw (told.0, nodes_in c, room_5, room_10, lt-leb c.nodes w.labels j)

        pub no_refusal : n ≤ w.labels → none ≡ walk_refusal (tree_in c) a w
        unfolding walk_refusal first_of test
        no_refusal i = let j : c.nodes ≤ w.labels = omega (arith, told.1) in rw (told.0, nodes_in c, room_5, room_10, le-leb c.nodes w.labels j)

-- where they are not, the walk is refused as they are
pub no_counts : (c : Counts) (a : Lent) (w : WalkRooms) (r : answers.Refusal) → refused r ≡ nodes_told (tree_in c) a → some r ≡ walk_refusal (tree_in c) a w
unfolding nodes_told provided walk_refusal first_of test
no_counts c a w r e = go (counts_fit (tree_in c) a) _ e
  where
    go : (b : Bool) (o : List (Option answers.Refusal)) → refused r ≡ provided b broken (is (tree_in c).nodes) → some r ≡ first_of (test b 9 (0 ∷ []) ∷ o)
    go true o f = absurd cc
    go false o f = let z : r ≡ broken = cc in ap some z

-- what the check says is what the walk comes to
module _ (c : Counts) (a : Lent) (vs bs s : List ℕ) where
  pub roomy : none ≡ walk_refusal (tree_in c) a (rooms_at vs bs s) → Zeros vs bs → Roomy c.nodes vs bs s
  unfolding walk_refusal
  roomy e z =
      let n = sym e in
      let x = first_none _ _ n in
      let y = first_none _ _ x.1 in
      let v = first_none _ _ y.1 in
      let u = first_none _ _ v.1 in
      let i : 2 * (tree_in c).nodes + 2 ≤ length s = leb-true _ _ (check_none _ _ _ y.0) in
      let j : (tree_in c).nodes ≤ length vs = leb-true _ _ (check_none _ _ _ v.0) in
      let k : (tree_in c).nodes ≤ length bs = leb-true _ _ (check_none _ _ _ u.0) in
      let m = nodes_in c in
      record { zeros = z; levels = omega arith; labels = omega arith; scratch = omega arith }

  pub check_refused : (r : answers.Refusal) → some r ≡ walk_refusal (tree_in c) a (rooms_at vs bs s) → ended (refused r) vs bs s ≡ walking (tree_in c) a (rooms_at vs bs s)
  unfolding walking ended
  check_refused r e = sym (if_some _ _ r (sym e))

  pub check_walk : none ≡ walk_refusal (tree_in c) a (rooms_at vs bs s) → (vs' bs' s' : List ℕ) → length vs' ≡ length vs → length bs' ≡ length bs → length s' ≡ length s
      → (x : walk.Walked) → x ≡ walked_by (rooms_at vs' bs' s') (walk_by (tree_in c) a c.nodes (root ∷ [])) → x ≡ walking (tree_in c) a (rooms_at vs bs s)
  unfolding walking
  check_walk e vs' bs' s' i j k x g =
      let w : rooms_at vs' bs' s' ≡ rooms_at vs bs s = cc in
      g ∙ ap₂ (λ w n. walked_by w (walk_by (tree_in c) a n (root ∷ []))) w (sym (nodes_in c)) ∙ sym (if_none _ _ (sym e))
