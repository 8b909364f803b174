-- The walk's loop: after some nodes the lists hold what they are told, and the rest of the walk is the walk from the path in scratch.
use mathlib.Core.Path.{◌≡◌, refl, sym, ap, ap₂, ◌∙◌}
use mathlib.Core.List.{List, [], ◌∷◌, ◌++◌, map, append-nil, append_assoc}
use Prim.Native.Nat.{ℕ, zero, suc, pred, ◌+◌, ◌*◌, ◌-◌, ◌^◌, ◌≤◌, ◌<◌}
use native.Mathlib.Omega.{arith}
use lib.ListN.{length, replicate, set, length-append, length-set}
use Rattle.meaning.specs.Answers.{Answer, is, nothing, refused, broken}
use Rattle.meaning.specs.Child.{Node, root}
use Rattle.meaning.specs.Walk.{Told}
use Rattle.meaning.specs.Areas.{filled}
use Rattle.meaning.specs.Build.{Tree, Lent}
use Rattle.meaning.specs.Walking as walking
use Rattle.meaning.specs.Walking.{WalkRooms, onward_by, told_first, walk_by, unwalked, walked_by}
use Rattle.meaning.proofs.Onward.{onward_length, walk_end, walk_refused, walk_deep, walk_many, walk_on}
use Rattle.std.specs.Prelude.{Option, None, Some, Result, Ok, Err}
use Rattle.refusal.specs.declared.Refusal.{Refusal}
use Rattle.refusal.specs.Said.{refusal_of}
use Rattle.questions.specs.Said.{node_of}
use Rattle.walk.specs.declared.onward.Step.{Step}
use Rattle.walk.specs.Kept.{way_in, put_in, step_in}
use Rattle.walk.specs.Said.{rooms_at}
use Rattle.walk.specs.Told.{Roomy, ended}
use Rattle.walk.proofs.Paths.{way_length, way_put, put_length}

-- what the walk comes to, with the levels vs and the labels bs told before
unfoldable pub after : WalkRooms → List ℕ → List ℕ → Answer (List Told) → walking.Walked
after w vs bs (is ts) =
    record {
      answer = is (length vs + length ts);
      levels = filled w.levels (vs ++ map (λ x. x.level) ts);
      labels = filled w.labels (bs ++ map (λ x. x.label) ts);
      scratch = replicate w.scratch 0;
    }
after w vs bs nothing = unwalked w broken
after w vs bs (refused r) = unwalked w r

same_walked : (w : WalkRooms) (n m : ℕ) (vs us bs cs : List ℕ) → n ≡ m → vs ≡ us → bs ≡ cs
    → ◌≡◌ {A = walking.Walked} (record { answer = is n; levels = vs; labels = bs; scratch = replicate w.scratch 0 })
    (record { answer = is m; levels = us; labels = cs; scratch = replicate w.scratch 0 })
same_walked w n m vs us bs cs e f g = cc

after_start : (w : WalkRooms) (x : Answer (List Told)) → after w [] [] x ≡ walked_by w x
unfolding after walked_by
after_start w (is ts) = same_walked w (0 + length ts) (length ts) _ _ _ _ (omega arith) refl refl
after_start w nothing = refl
after_start w (refused r) = refl

after_told : (w : WalkRooms) (vs bs : List ℕ) (n : Node) (ns : List Node) (b : ℕ) (x : Answer (List Told))
    → after w vs bs (told_first n ns b x) ≡ after w (vs ++ pred (length ns) ∷ []) (bs ++ b ∷ []) x
unfolding after told_first
after_told w vs bs n ns b (is ts) =
    same_walked w (length vs + suc (length ts)) (length (vs ++ pred (length ns) ∷ []) + length ts) _ _ _ _
    (omega (arith, length-append vs (pred (length ns) ∷ [])))
    (ap (filled w.levels) (sym (append_assoc vs (pred (length ns) ∷ []) (map (λ x. x.level) ts))))
    (ap (filled w.labels) (sym (append_assoc bs (b ∷ []) (map (λ x. x.label) ts))))
after_told w vs bs n ns b nothing = refl
after_told w vs bs n ns b (refused r) = refl

-- one element more of a list with zeros behind it
set_front : (vs : List ℕ) (v k : ℕ) → set (vs ++ replicate (suc k) 0) (length vs) v ≡ (vs ++ v ∷ []) ++ replicate k 0
set_front [] v k = refl
set_front (x ∷ vs) v k = ap (λ l. x ∷ l) (set_front vs v k)

set_filled : (n : ℕ) (vs : List ℕ) (v : ℕ) → length vs < n → set (filled n vs) (length vs) v ≡ filled n (vs ++ v ∷ [])
unfolding filled
set_filled n vs v h =
    let k : ℕ = n - length (vs ++ v ∷ []) in
    let e : n - length vs ≡ suc k = omega (arith, length-append vs (v ∷ [])) in
    ap (λ j. set (vs ++ replicate j 0) (length vs) v) e ∙ set_front vs v k

one_less : (k : ℕ) → k - 1 ≡ pred k
one_less zero = omega arith
one_less (suc k) = omega arith

-- where the walk stands: lists L and B, scratch S, a path of `on` nodes, and `told` nodes in the lists
pub record Met (t : Tree) (a : Lent) (n : ℕ) (L₀ B₀ S₀ L B S : List ℕ) (on told : ℕ) : Type 0 where
  pub levels : List ℕ
  pub labels : List ℕ
  pub in_levels : L ≡ filled (length L₀) levels
  pub in_labels : B ≡ filled (length B₀) labels
  pub these_levels : told ≡ length levels
  pub these_labels : told ≡ length labels
  pub few : told ≤ n
  pub path : on ≤ suc told
  pub levels_room : n ≤ length L₀
  pub labels_room : n ≤ length B₀
  pub scratch_room : 2 * n + 2 ≤ length S₀
  pub levels_length : length L ≡ length L₀
  pub labels_length : length B ≡ length B₀
  pub scratch_length : length S ≡ length S₀
  pub rest : after (rooms_at L₀ B₀ S₀) levels labels (walk_by t a (n - told) (way_in S on)) ≡ walked_by (rooms_at L₀ B₀ S₀) (walk_by t a n (root ∷ []))

-- zeros are told nothing
zeros_filled : (vs : List ℕ) → vs ≡ replicate (length vs) 0 → vs ≡ filled (length vs) []
unfolding filled
zeros_filled vs e = let f : length vs ≡ length vs - 0 = omega arith in e ∙ ap (λ k. replicate k 0) f

module _ (t : Tree) (a : Lent) (n : ℕ) where
  -- the walk starts at the root
  pub start : (L B s S : List ℕ) (m : Node) → Roomy n L B s → m ≡ root → S ≡ put_in s 0 m → Met t a n L B S L B S 1 0
  unfolding way_in
  start L B s S m r e f =
      record {
        levels = [];
        labels = [];
        in_levels = zeros_filled L r.zeros.levels;
        in_labels = zeros_filled B r.zeros.labels;
        these_levels = refl;
        these_labels = refl;
        few = omega arith;
        path = omega arith;
        levels_room = r.levels;
        labels_room = r.labels;
        scratch_room = omega (arith, r.scratch, long);
        levels_length = refl;
        labels_length = refl;
        scratch_length = refl;
        rest =
            ap₂ (λ k p. after (rooms_at L B S) [] [] (walk_by t a k p)) {x = n - 0} {y = n} (omega arith)
            (ap (λ x. way_in x 1) f ∙ way_put s 0 m (omega (arith, r.scratch)) ∙ ap (λ x. x ∷ []) e)
            ∙ after_start (rooms_at L B S) (walk_by t a n (root ∷ []));
      }
    where
      long : length S ≡ length s
      long = ap length f ∙ put_length s 0 m

  module _ (L₀ B₀ S₀ L B S : List ℕ) (on told : ℕ) (i : Met t a n L₀ B₀ S₀ L B S on told) (r : Result (Option Step) Refusal) (q : step_in S r ≡ onward_by t a (way_in S on)) where
    abbrev All : walking.Walked
    All = walked_by (rooms_at L B S) (walk_by t a n (root ∷ []))

    rooms_same : rooms_at L B S ≡ rooms_at L₀ B₀ S₀
    rooms_same = cc (i.levels_length, i.labels_length, i.scratch_length)

    -- what is left of the walk decides what it comes to
    ends : (x : Answer (List Told)) → walk_by t a (n - told) (way_in S on) ≡ x → after (rooms_at L B S) i.levels i.labels x ≡ All
    ends x e =
        ap (after (rooms_at L B S) i.levels i.labels) (sym e)
        ∙ ap (λ w. after w i.levels i.labels (walk_by t a (n - told) (way_in S on))) rooms_same
        ∙ i.rest
        ∙ ap (λ w. walked_by w (walk_by t a n (root ∷ []))) (sym rooms_same)

    pub end_none : (y : Option Step) → r ≡ Ok y → y ≡ None → ended (is told) L B S ≡ All
    unfolding ended after
    end_none y f g =
        let e : r ≡ Ok None = f ∙ ap Ok g in
        same_walked (rooms_at L B S) told (length i.levels + 0) L (filled (length L) (i.levels ++ [])) B (filled (length B) (i.labels ++ []))
        (omega (arith, i.these_levels))
        (i.in_levels ∙ ap₂ filled (sym i.levels_length) (sym (append-nil i.levels)))
        (i.in_labels ∙ ap₂ filled (sym i.labels_length) (sym (append-nil i.labels)))
        ∙ ends (is []) (walk_end t a (n - told) (way_in S on) (sym q ∙ ap (step_in S) e))

    pub end_refused : (x : Refusal) → r ≡ Err x → ended (refused (refusal_of x)) L B S ≡ All
    unfolding ended after
    end_refused x e =
        ends (refused (refusal_of x)) (walk_refused t a (n - told) (way_in S on) (refusal_of x) (sym q ∙ ap (step_in S) e))

    module _ (y : Option Step) (u : r ≡ Ok y) (o : Step) (v : y ≡ Some o) where
      abbrev k : ℕ
      k = o.under

      abbrev m : Node
      m = node_of o.edge.node

      abbrev b : ℕ
      b = o.edge.label

      to : onward_by t a (way_in S on) ≡ is (record { path = m ∷ way_in S k; label = b })
      to = sym q ∙ ap (step_in S) (u ∙ ap Ok v)

      short : k ≤ on
      short = omega (arith, onward_length t a (way_in S on) (record { path = m ∷ way_in S k; label = b }) to, way_length S on, way_length S k)

      pub end_many : told ≡ n → ended (refused broken) L B S ≡ All
      unfolding ended after
      end_many f =
          ends (refused broken)
          (ap (λ j. walk_by t a j (way_in S on)) {x = n - told} {y = 0} (omega arith) ∙ walk_many t a m (way_in S k) b (way_in S on) to)

      pub end_deep : ¬ (k - 1 < 2 ^ 32) → ended (refused broken) L B S ≡ All
      unfolding ended after
      end_deep f =
          let g : 2 ^ 32 < k = omega arith in
          ends (refused broken) (walk_deep t a m (way_in S k) b (n - told) (way_in S on) to (omega (arith, way_length S k)))

      module _ (f : ¬ (told ≡ n)) where
        pub room_left : 2 * k + 1 < length S
        room_left = omega (arith, i.few, i.path, i.scratch_room, i.scratch_length, short)

        -- one node more
        pub more : (v : ℕ) → k - 1 < 2 ^ 32 → v ≡ k - 1 → (S' : List ℕ) → S' ≡ put_in S k m → Met t a n L₀ B₀ S₀ (set L told v) (set B told b) S' (k + 1) (told + 1)
        more v d e S' w =
            record {
              levels = i.levels ++ pred k ∷ [];
              labels = i.labels ++ b ∷ [];
              in_levels = ap (set L told) level ∙ put L (length L₀) i.levels (pred k) i.in_levels i.these_levels (omega (arith, i.few, i.levels_room));
              in_labels = put B (length B₀) i.labels b i.in_labels i.these_labels (omega (arith, i.few, i.labels_room));
              these_levels = omega (arith, i.these_levels, length-append i.levels (pred k ∷ []));
              these_labels = omega (arith, i.these_labels, length-append i.labels (b ∷ []));
              few = omega (arith, i.few);
              path = omega (arith, i.path, short);
              levels_room = i.levels_room;
              labels_room = i.labels_room;
              scratch_room = i.scratch_room;
              levels_length = length-set L told v ∙ i.levels_length;
              labels_length = length-set B told b ∙ i.labels_length;
              scratch_length = ap length w ∙ put_length S k m ∙ i.scratch_length;
              rest =
                  sym
                  (after_told (rooms_at L₀ B₀ S₀) i.levels i.labels m (way_in S k) b (walk_by t a (n - (told + 1)) (way_in S' (k + 1)))
                  ∙ ap (λ v. after (rooms_at L₀ B₀ S₀) (i.levels ++ pred v ∷ []) (i.labels ++ b ∷ []) (walk_by t a (n - (told + 1)) (way_in S' (k + 1)))) (way_length S k))
                  ∙ ap (after (rooms_at L₀ B₀ S₀) i.levels i.labels) (sym on_by)
                  ∙ i.rest;
            }
          where
            level : v ≡ pred k
            level = e ∙ one_less k

            put : (xs : List ℕ) (j : ℕ) (vs : List ℕ) (v : ℕ) → xs ≡ filled j vs → told ≡ length vs → told < j → set xs told v ≡ filled j (vs ++ v ∷ [])
            put xs j vs v g h u = ap₂ (λ x y. set x y v) g h ∙ set_filled j vs v (omega arith)

            on_by : walk_by t a (n - told) (way_in S on) ≡ told_first m (way_in S k) b (walk_by t a (n - (told + 1)) (way_in S' (k + 1)))
            on_by =
                let one : n - told ≡ suc (n - (told + 1)) = omega (arith, i.few) in
                let way : m ∷ way_in S k ≡ way_in S' (k + 1) =
                sym (ap₂ way_in {x = S'} {y = put_in S k m} {u = k + 1} {v = suc k} w (omega arith) ∙ way_put S k m room_left)
                in
                ap (λ j. walk_by t a j (way_in S on)) one
                ∙ walk_on t a m (way_in S k) b (n - (told + 1)) (way_in S on) to (omega (arith, way_length S k))
                ∙ ap (λ p. told_first m (way_in S k) b (walk_by t a (n - (told + 1)) p)) way
