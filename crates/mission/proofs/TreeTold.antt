-- What the tree's questions and the walk may refuse, whatever the areas hold.
use mathlib.Core.Path.{◌≡◌, refl}
use mathlib.Core.Bool.{false}
use mathlib.Core.Option.{Option, none, some}
use mathlib.Core.Logic.{inl, inr}
use mathlib.Core.List.{List, [], ◌∷◌}
use Prim.Native.Nat.{ℕ, zero, suc, pred, ◌^◌}
use lib.Dec.{ltb, eqb}
use lib.ListN.{length, get_or, replicate}
use Rattle.meaning.specs.Answers.{Refusal, Answer, is, refused, place, close, room, broken}
use Rattle.meaning.specs.Child.{Node, child, root}
use Rattle.meaning.specs.Sibling.{sibling}
use Rattle.meaning.specs.Walk as walk
use Rattle.meaning.specs.Walk.{lowest}
use Rattle.meaning.specs.Build.{Lent, Tree, levels_in}
use Rattle.meaning.specs.Growth.{bits_in}
use Rattle.meaning.specs.Close.{close_at}
use Rattle.meaning.specs.Questions.{Edge, counts_fit, at_bit, bit_in, close_in, node_refusal, labelled, first_child, sibling_by, next_sibling, leaves_by, leaves_below}
use Rattle.meaning.specs.Questions.{size_in, sized, bytes_held, nodes_in, is_empty_in, label_of, label_in}
use Rattle.meaning.specs.Walking.{Step, step_to, or_else, back_by, onward_by, told_first, telling, walk_by, WalkRooms, Walked, walk_refusal, unwalked, walked_by, walking}
use Rattle.mission.specs.Numbered as numbered
use Rattle.mission.specs.FirstDemand.{Told, value, none_found, refusal_of, OneOf, AtPlace, Broken, OnWalk}
use Rattle.mission.proofs.Told.{Given, given, refused_told, if_told, provided_told, or_broken_told, widen, option_told, only_broken}
use Rattle.mission.proofs.Told.{Refuses, passes, refuses, no_more, then, first_refuses, check_refuses, Sound, answered, unmade_sound}

-- ---- the tree's questions
module _ (t : Tree) (a : Lent) where
  -- of no place
  pub nodes_told : Told Broken (nodes_in t a)
  unfolding nodes_in
  nodes_told = provided_told (counts_fit t a) only_broken (value t.nodes)

  pub is_empty_told : Told Broken (is_empty_in t a)
  unfolding is_empty_in
  is_empty_told = provided_told (counts_fit t a) only_broken (value (eqb t.nodes 0))

  pub byte_size_told : Told Broken (bytes_held t a)
  unfolding bytes_held sized
  byte_size_told =
      if_told (counts_fit t a) (if_told (ltb (size_in t) (2 ^ 64)) (value (size_in t)) (refused_told only_broken)) (refused_told only_broken)

  -- of a place
  pub bit_told : (p : ℕ) → Told (OneOf (place p ∷ broken ∷ [])) (bit_in t a p)
  unfolding bit_in at_bit
  bit_told p =
      provided_told (counts_fit t a) (given numbered.broken (inr (inl refl)))
      (provided_told (ltb p (bits_in t)) (given (numbered.place p) (inl refl)) (value _))

  module _ (p : ℕ) where
    at_place : Given (AtPlace p) (place p)
    at_place = given (numbered.place p) (inl refl)

    at_close : Given (AtPlace p) (close p)
    at_close = given (numbered.close p) (inr (inl refl))

    at_broken : Given (AtPlace p) broken
    at_broken = given numbered.broken (inr (inr (inl refl)))

  pub close_told : (p : ℕ) → Told (AtPlace p) (close_in t a p)
  unfolding close_in at_bit
  close_told p =
      provided_told (counts_fit t a) (at_broken p)
      (provided_told (ltb p (bits_in t)) (at_place p)
      (provided_told (get_or (lowest (levels_in t a)) p false) (at_close p) (or_broken_told (at_broken p) (close_at (levels_in t a) p))))

  -- of a node
  node_refuses : (n : Node) → Refuses (Given (AtPlace n.place)) (node_refusal t a n)
  unfolding node_refusal
  node_refuses n =
      first_refuses
      (then (check_refuses _ 9 _ (at_broken n.place))
      (then (check_refuses _ 7 _ (at_place n.place))
      (then (check_refuses _ 7 _ (at_place n.place)) (then (check_refuses _ 8 _ (at_close n.place)) no_more))))

  labelled_told : (p : ℕ) (o : Option Node) → Told (AtPlace p) (labelled t a o)
  unfolding labelled
  labelled_told p none = none_found
  labelled_told p (some n) = if_told (ltb (pred n.id) t.nodes) (value _) (refused_told (at_broken p))

  pub first_child_told : (n : Node) → Told (AtPlace n.place) (first_child t a n)
  unfolding first_child
  first_child_told n = option_told (node_refuses n) (labelled_told n.place (child (lowest (levels_in t a)) n))

  sibling_by_told : (n : Node) (o : Option ℕ) → Told (AtPlace n.place) (sibling_by t a n o)
  unfolding sibling_by
  sibling_by_told n none = refused_told (at_broken n.place)
  sibling_by_told n (some c) =
      if_told (ltb c n.place) (refused_told (at_broken n.place)) (labelled_told n.place (sibling (lowest (levels_in t a)) c n))

  pub next_sibling_told : (n : Node) → Told (AtPlace n.place) (next_sibling t a n)
  unfolding next_sibling
  next_sibling_told n = option_told (node_refuses n) (sibling_by_told n (close_at (levels_in t a) n.place))

  label_of_told : (p k : ℕ) → Told (AtPlace p) (label_of t a k)
  unfolding label_of
  label_of_told p zero = none_found
  label_of_told p (suc k) = provided_told (ltb k t.nodes) (at_broken p) (value _)

  pub label_told : (n : Node) → Told (AtPlace n.place) (label_in t a n)
  unfolding label_in
  label_told n = option_told (node_refuses n) (label_of_told n.place n.id)

  leaves_by_told : (n : Node) (o : Option ℕ) → Told (AtPlace n.place) (leaves_by t a n o)
  unfolding leaves_by
  leaves_by_told n none = refused_told (at_broken n.place)
  leaves_by_told n (some c) = if_told (ltb c n.place) (refused_told (at_broken n.place)) (value _)

  pub leaf_count_told : (n : Node) → Told (AtPlace n.place) (leaves_below t a n)
  unfolding leaves_below
  leaf_count_told n = option_told (node_refuses n) (leaves_by_told n (close_at (levels_in t a) n.place))

-- ---- the walk
module _ (t : Tree) (a : Lent) where
  on_way : (p : ℕ) (r : Refusal) → AtPlace p r → OnWalk r
  on_way p r (inl e) = inr (p, inl e)
  on_way p r (inr (inl e)) = inr (p, inr (inl e))
  on_way p r (inr (inr (inl e))) = inl (inr (inr (inr (inl e))))
  on_way p r (inr (inr (inr z))) = absurd z

  walk_broken : Given OnWalk broken
  walk_broken = given numbered.broken (inl (inr (inr (inr (inl refl)))))

  else_told : (ns : List Node) {x : Answer Edge} {s : Answer Step} → Told OnWalk x → Told OnWalk s → Told OnWalk (or_else ns x s)
  unfolding or_else
  else_told ns (value e) u = value (step_to ns e)
  else_told ns none_found u = u
  else_told ns (refusal_of n h) u = refusal_of n h

  back_told : (p : List Node) → Told OnWalk (back_by t a p)
  unfolding back_by
  back_told [] = none_found
  back_told (n ∷ ns) = else_told ns (widen (on_way n.place) (next_sibling_told t a n)) (back_told ns)

  onward_told : (p : List Node) → Told OnWalk (onward_by t a p)
  unfolding onward_by
  onward_told [] = none_found
  onward_told (n ∷ ns) = else_told (n ∷ ns) (widen (on_way n.place) (first_child_told t a n)) (back_told (n ∷ ns))

  first_told : (n : Node) (ns : List Node) (b : ℕ) {y : Answer (List walk.Told)} → Told OnWalk y → Told OnWalk (told_first n ns b y)
  unfolding told_first
  first_told n ns b (value ts) = value _
  first_told n ns b none_found = none_found
  first_told n ns b (refusal_of m h) = refusal_of m h

  telling_told : {s : Answer Step} → Told OnWalk s → (rest : List Node → Answer (List walk.Told)) → ((q : List Node) → Told OnWalk (rest q))
      → Told OnWalk (telling s rest)
  unfolding telling
  telling_told none_found rest h = value []
  telling_told (refusal_of n r) rest h = refusal_of n r
  telling_told (value s) rest h = along s.path
    where
      along : (p : List Node) → Told OnWalk (telling (is (record { path = p; label = s.label })) rest)
      along [] = value []
      along (n ∷ ns) = provided_told (ltb (pred (length ns)) (2 ^ 32)) walk_broken (first_told n ns s.label (h (n ∷ ns)))

  walk_by_told : (k : ℕ) (p : List Node) → Told OnWalk (walk_by t a k p)
  unfolding walk_by
  walk_by_told zero p = telling_told (onward_told p) (λ q. refused broken) (λ q. refused_told walk_broken)
  walk_by_told (suc k) p = telling_told (onward_told p) (λ q. walk_by t a k q) (walk_by_told k)

  module _ (rooms : WalkRooms) where
    -- the two lists of zeros
    abbrev pub unlisted : List ℕ × List ℕ
    unlisted = (replicate rooms.levels 0, replicate rooms.labels 0)

    pub record WalkSound (w : Walked) : Type 0 where
      pub lists : Sound OnWalk unlisted w.answer (w.levels, w.labels)
      pub scratch : w.scratch ≡ replicate rooms.scratch 0

    unwalked_sound : {r : Refusal} → Given OnWalk r → WalkSound (unwalked rooms r)
    unfolding unwalked
    unwalked_sound g = record { lists = unmade_sound unlisted g; scratch = refl }

    walked_by_sound : {y : Answer (List walk.Told)} → Told OnWalk y → WalkSound (walked_by rooms y)
    unfolding walked_by
    walked_by_sound (value ts) = record { lists = answered (length ts) _; scratch = refl }
    walked_by_sound none_found = unwalked_sound walk_broken
    walked_by_sound (refusal_of n h) = unwalked_sound (given n h)

    room_given : {k : ℕ} → numbered.Area k → OnWalk (room k) → Given OnWalk (room k)
    room_given k h = given (numbered.room k) h

    walk_refuses : Refuses (Given OnWalk) (walk_refusal t a rooms)
    unfolding walk_refusal
    walk_refuses =
        first_refuses
        (then (check_refuses _ 9 _ walk_broken)
        (then (check_refuses _ 4 _ (room_given numbered.scratch (inl (inl refl))))
        (then (check_refuses _ 4 _ (room_given numbered.walk_levels (inl (inr (inl refl)))))
        (then (check_refuses _ 4 _ (room_given numbered.walk_labels (inl (inr (inr (inl refl)))))) no_more))))

    either_sound : {o : Option Refusal} {y : Answer (List walk.Told)} → Refuses (Given OnWalk) o → Told OnWalk y
        → WalkSound (elim o [ none ↦ walked_by rooms y | some r ↦ unwalked rooms r ])
    either_sound passes u = walked_by_sound u
    either_sound (refuses g) u = unwalked_sound g

    pub walk_sound : WalkSound (walking t a rooms)
    unfolding walking
    walk_sound = either_sound walk_refuses (walk_by_told t.nodes (root ∷ []))
