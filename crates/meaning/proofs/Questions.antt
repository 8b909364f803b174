-- THE END of the questions: over the areas that a build leaves none of a node is refused, and the answers are those of the string.
use mathlib.Core.Path.{◌≡◌, refl, sym, ap, ◌∙◌}
use mathlib.Core.Bool.{Bool, true, false}
use mathlib.Core.Option.{Option, none, some}
use mathlib.Core.Logic.{◌⊎◌, inl, inr}
use mathlib.Core.List.{List, ◌∷◌, []}
use Prim.Native.Nat.{ℕ, zero, suc, pred, ◌+◌, ◌*◌, ◌-◌, ◌/◌, ◌<◌, ◌≤◌}
use native.Mathlib.Omega.{arith}
use lib.ListN.{length, get_or, take, replicate, get_or-append}
use borrow.Author.Tests.{le-ltb, lt-ltb, eq-eqb}
use Rattle.meaning.specs.Answers.{Answer, is, nothing, broken, provided, or_broken}
use Rattle.meaning.specs.Bits.{opens}
use Rattle.meaning.specs.String.{string}
use Rattle.meaning.specs.Match.{close_of, IsClose}
use Rattle.meaning.specs.Family.{tower}
use Rattle.meaning.specs.Child.{Node, IsNode, child, root}
use Rattle.meaning.specs.Sibling.{sibling, next}
use Rattle.meaning.specs.Walk.{lowest, Tells, tell, visits, AnswersAre}
use Rattle.meaning.specs.Size.{level_size, byte_size}
use Rattle.meaning.specs.Leaves.{leaf_count}
use Rattle.meaning.specs.Areas.{Rooms, filled, counts_of, counted}
use Rattle.meaning.specs.Refusals.{Accepted}
use Rattle.meaning.specs.Build.{tree_of, lent_of, levels_in}
use Rattle.meaning.specs.Growth.{bits_in}
use Rattle.meaning.specs.Questions.{edge, at_bit, close_in, node_refusal, labelled, first_child, sibling_by, next_sibling, edge_of, leaves_by, leaves_below, count_size, size_in, sized, bytes_held, heard, asking, label_of, label_in}
use Rattle.meaning.proofs.If.{bit, if_true, if_false, if_none}
use Rattle.meaning.proofs.String.{string_walk, string_length}
use Rattle.meaning.proofs.Loose.{close_is}
use Rattle.meaning.proofs.Count.{in_length}
use Rattle.meaning.proofs.Flag.{matched}
use Rattle.meaning.proofs.Accepted.{check_true, done, and, all_none}
use Rattle.meaning.proofs.Ask.{child_some, child_none, sibling_some, sibling_none}
use Rattle.meaning.proofs.Nodes.{next_node, child_node}
use Rattle.meaning.proofs.Kin.{node_list}
use Rattle.meaning.proofs.WalkBy.{walk_by_tells}
use Rattle.meaning.proofs.Held.{held_close, held_lowest}
use Rattle.meaning.proofs.Sizes.{size_small}
use Rattle.meaning.proofs.Lent.{bits_in_lem, counts_fit_lem, sum_counts}

pub child_id : (l : List Bool) (n m : Node) → child l n ≡ some m → 0 < m.id
child_id l n m e = go (bit (get_or l (suc n.place) false))
  where
    go : (get_or l (suc n.place) false ≡ true) ⊎ (get_or l (suc n.place) false ≡ false) → 0 < m.id
    go (inl b) = let q : record { place = n.place + 1; id = n.id + 1 } ≡ m = cc (child_some l n b) in omega (arith, ap (λ x. x.id) q)
    go (inr b) = let z : ◌≡◌ {A = ℕ} 0 1 = cc (child_none l n b) in absurd (omega arith)

pub sibling_new_id : (l : List Bool) (c : ℕ) (n m : Node) → sibling l c n ≡ some m → 0 < m.id
sibling_new_id l c n m e = go (bit (get_or l (suc c) false))
  where
    go : (get_or l (suc c) false ≡ true) ⊎ (get_or l (suc c) false ≡ false) → 0 < m.id
    go (inl b) =
        let q : record { place = c + 1; id = n.id + (c - n.place) / 2 + 1 } ≡ m = cc (sibling_some l c n b) in omega (arith, ap (λ x. x.id) q)
    go (inr b) = let z : ◌≡◌ {A = ℕ} 0 1 = cc (sibling_none l c n b) in absurd (omega arith)

-- the label of a node with an id, of an accepted list with labels bs; the root has none
abbrev pub label_at : List ℕ → ℕ → Answer ℕ
label_at bs zero = nothing
label_at bs (suc k) = is (get_or bs k 0)

module _ (vs bs : List ℕ) (rooms : Rooms) (a : Accepted vs bs rooms) where
  module _ (n : Node) (i : IsNode (string vs) n) where
    lowest_is : lowest (levels_in (tree_of vs) (lent_of vs bs rooms)) ≡ string vs
    lowest_is = held_lowest vs bs rooms a.rule a.few

    pub asked_none : node_refusal (tree_of vs) (lent_of vs bs rooms) n ≡ none
    unfolding node_refusal
    asked_none =
        all_none
        (and (check_true _ _ (counts_fit_lem vs bs rooms a))
        (and (check_true _ _ (lt-ltb _ _ place))
        (and (check_true _ _ (eq-eqb _ _ (i.counted ∙ ap (λ l. opens (take n.place l)) (sym lowest_is))))
        (and (check_true _ _ (ap (λ l. get_or l n.place false) lowest_is ∙ i.opening))
        done))))
      where
        place : n.place < bits_in (tree_of vs)
        place = omega (arith, bits_in_lem vs bs rooms a, string_length vs a.rule, in_length (string vs) n.place i.opening)

  -- the close of every open is the matching one
  pub close_in_matches : (p : ℕ) → get_or (string vs) p false ≡ true
      → (c : ℕ) × (close_in (tree_of vs) (lent_of vs bs rooms) p ≡ is c) × IsClose (string vs) p c
  unfolding close_in at_bit provided or_broken
  close_in_matches p e = (
    close_of (string vs) p,
    rw (
      counts_fit_lem vs bs rooms a,
      provided,
      lt-ltb p (bits_in (tree_of vs)) (omega (arith, bits_in_lem vs bs rooms a, string_length vs a.rule, in_length (string vs) p e)),
      provided,
      ap (λ l. get_or l p false) (held_lowest vs bs rooms a.rule a.few) ∙ e,
      provided,
      held_close vs bs rooms a.rule a.few p e,
    ),
    close_is (string vs) (string_walk vs a.rule) p (in_length (string vs) p e) e,
  )

  label_is : (m : Node) → IsNode (string vs) m → 0 < m.id → labelled (tree_of vs) (lent_of vs bs rooms) (some m) ≡ edge_of bs (some m)
  unfolding labelled edge_of tree_of lent_of filled
  label_is m i h =
      if_true _ _ (lt-ltb (pred m.id) (length vs) k)
      ∙ ap (edge m) (get_or-append bs (replicate (rooms.labels - length bs) 0) 0 (pred m.id) (omega (arith, k, a.same)))
    where
      k : pred m.id < length vs
      k = (node_list vs a.rule m (pred m.id) i (omega arith)).0

  edge_is : (o : Option Node) → ((m : Node) → o ≡ some m → IsNode (string vs) m × (0 < m.id)) → labelled (tree_of vs) (lent_of vs bs rooms) o ≡ edge_of bs o
  unfolding labelled edge_of
  edge_is none h = refl
  edge_is (some m) h = let j = h m refl in label_is m j.0 j.1

  -- the two questions of a node
  pub first_child_lem : (n : Node) → IsNode (string vs) n → first_child (tree_of vs) (lent_of vs bs rooms) n ≡ edge_of bs (child (string vs) n)
  unfolding first_child
  first_child_lem n i =
      if_none _ _ (asked_none n i)
      ∙ ap (λ l. labelled (tree_of vs) (lent_of vs bs rooms) (child l n)) (lowest_is n i)
      ∙ edge_is (child (string vs) n) (λ m e. (child_node (string vs) n m i e, child_id (string vs) n m e))

  pub next_sibling_lem : (n : Node) → IsNode (string vs) n → next_sibling (tree_of vs) (lent_of vs bs rooms) n ≡ edge_of bs (next (string vs) n)
  unfolding next_sibling sibling_by next
  next_sibling_lem n i =
      if_none _ _ (asked_none n i)
      ∙ ap (sibling_by (tree_of vs) (lent_of vs bs rooms) n) (held_close vs bs rooms a.rule a.few n.place i.opening)
      ∙ if_false _ _ (le-ltb c n.place (omega (arith, (matched (string vs) (string_walk vs a.rule) n.place i.opening).after)))
      ∙ ap (λ l. labelled (tree_of vs) (lent_of vs bs rooms) (sibling l c n)) (lowest_is n i)
      ∙ edge_is (next (string vs) n) (λ m e. (next_node (string vs) (string_walk vs a.rule) n m i e, sibling_new_id (string vs) c n m e))
    where
      c : ℕ
      c = close_of (string vs) n.place

  heard_edge : (o : Option Node) → heard (edge_of bs o) ≡ o
  unfolding heard edge_of
  heard_edge none = refl
  heard_edge (some m) = refl

  -- so a walk by the two questions tells the levels and the labels
  pub asking_are : AnswersAre (string vs) (asking (tree_of vs) (lent_of vs bs rooms))
  asking_are =
      record {
        kid = λ n i. ap heard (first_child_lem n i) ∙ heard_edge (child (string vs) n);
        sib = λ n i. ap heard (next_sibling_lem n i) ∙ heard_edge (next (string vs) n);
      }

  pub asking_tells : (k : ℕ) → length vs ≤ k → Tells vs bs (tell (lent_of vs bs rooms).labels (visits (asking (tree_of vs) (lent_of vs bs rooms)) k (root ∷ [])))
  unfolding lent_of filled
  asking_tells k h =
      walk_by_tells vs a.rule (asking (tree_of vs) (lent_of vs bs rooms)) asking_are bs (replicate (rooms.labels - length bs) 0) a.same k h

  -- the label of a node, by its id
  pub label_in_lem : (n : Node) → IsNode (string vs) n → label_in (tree_of vs) (lent_of vs bs rooms) n ≡ label_at bs n.id
  unfolding label_in label_of lent_of filled provided tree_of
  label_in_lem n i = if_none _ _ (asked_none n i) ∙ by_id n.id refl
    where
      by_id : (j : ℕ) → n.id ≡ j → label_of (tree_of vs) (lent_of vs bs rooms) j ≡ label_at bs j
      by_id zero e = refl
      by_id (suc k) e =
          let h : k < length vs = (node_list vs a.rule n k i e).0 in
          ap (λ t. provided t broken (is (get_or (filled rooms.labels bs) k 0))) (lt-ltb k (length vs) h)
          ∙ ap is (get_or-append bs (replicate (rooms.labels - length bs) 0) 0 k (omega (arith, a.same)))

  -- the leaves below a node
  pub leaves_below_lem : (n : Node) → IsNode (string vs) n → leaves_below (tree_of vs) (lent_of vs bs rooms) n ≡ is (leaf_count (string vs) n.place (close_of (string vs) n.place))
  unfolding leaves_below leaves_by
  leaves_below_lem n i =
      if_none _ _ (asked_none n i)
      ∙ ap (leaves_by (tree_of vs) (lent_of vs bs rooms) n) (held_close vs bs rooms a.rule a.few n.place i.opening)
      ∙ if_false _ _ (le-ltb c n.place (omega (arith, (matched (string vs) (string_walk vs a.rule) n.place i.opening).after)))
      ∙ ap (λ l. is (leaf_count l n.place c)) (lowest_is n i)
    where
      c : ℕ
      c = close_of (string vs) n.place

  -- the byte size
  pub bytes_held_lem : bytes_held (tree_of vs) (lent_of vs bs rooms) ≡ is (byte_size (tower 4 (string vs)) (length vs))
  unfolding bytes_held sized size_in byte_size count_size level_size tree_of counted counts_of
  bytes_held_lem =
      if_true _ _ (counts_fit_lem vs bs rooms a)
      ∙ ap (λ s. sized (s + 8 + 4 * length vs)) (sum_counts count_size refl (tower 4 (string vs)) (5 - length (tower 4 (string vs))))
      ∙ if_true _ _ (lt-ltb _ _ (size_small vs a.rule a.few))
