-- The ways out of the questions of a node: its child, its sibling, its label and the leaves below it; and of the questions of the whole tree.
use mathlib.Core.Path.{◌≡◌, refl, sym, ap, ◌∙◌}
use mathlib.Core.Bool.{Bool, true, false, not}
use mathlib.Core.Option.{Option, none, some}
use mathlib.Core.List.{List}
use Prim.Native.Nat.{ℕ, suc, ◌+◌, ◌-◌, ◌/◌, ◌^◌, ◌<◌, ◌≤◌}
use native.Mathlib.Numerals.{add-one}
use native.Mathlib.Omega.{arith}
use lib.Dec.{ltb, eqb}
use lib.ListN.{length, get_or}
use borrow.Author.Tests.{ltb-false, not-true, not-false}
use Rattle.std.specs.Prelude.{Option as Maybe, None, Some, Result}
use Rattle.meaning.specs.Answers as answers
use Rattle.meaning.specs.Answers.{Answer, is, nothing, refused, broken, provided}
use Rattle.meaning.specs.Bits.{bits_of}
use Rattle.meaning.specs.Close.{test, close_at}
use Rattle.meaning.specs.Child.{child}
use Rattle.meaning.specs.Sibling.{sibling}
use Rattle.meaning.specs.Walk.{lowest}
use Rattle.meaning.specs.Leaves.{leaf_count}
use Rattle.meaning.specs.Build.{Lent, Tree, levels_in}
use Rattle.meaning.specs.Questions.{counts_fit, lent_at, node_refusal, labelled, first_child, sibling_by, next_sibling, leaves_by, leaves_below, nodes_in, is_empty_in, label_of, label_in}
use Rattle.meaning.proofs.If.{if_true, if_false, if_none, if_some}
use Rattle.meaning.proofs.Stored.{length_bits}
use Rattle.meaning.proofs.Inside.{test_some, test_none, close_inside}
use Rattle.record.specs.declared.Counts.{Counts}
use Rattle.record.specs.Record.{tree_in}
use Rattle.refusal.specs.declared.Refusal.{Refusal}
use Rattle.refusal.specs.Said.{option_of}
use Rattle.closes.proofs.Asked.{lowest_is}
use Rattle.questions.specs.Closed.{not_before, closed}
use Rattle.questions.specs.Said.{node_of, said_edge}
use Rattle.questions.specs.declared.Edge.{Edge}
use Rattle.questions.specs.declared.Node.{Node}
use Rattle.questions.proofs.Passing.{id_room, told}

-- what a close that is refused makes of what is asked by it
by_close : {A : Type 0} (m : Option answers.Refusal) (o : Option ℕ) (p : ℕ) (r : answers.Refusal) (f : Option ℕ → Answer A) → ◌≡◌ {A = Answer A} (f none) (refused broken)
    → ((d : ℕ) → ltb d p ≡ true → ◌≡◌ {A = Answer A} (f (some d)) (refused broken))
    → ◌≡◌ {A = Answer ℕ} (refused r) (elim m [ none ↦ not_before p o | some r ↦ refused r ])
    → ◌≡◌ {A = Answer A} (refused r) (elim m [ none ↦ f o | some r ↦ refused r ])
unfolding not_before
by_close (some q) o p r f g h e = let z : r ≡ q = cc in ap refused z
by_close none none p r f g h e = let z : r ≡ broken = cc in ap refused z ∙ sym g
by_close {A} none (some d) p r f g h e = go (ltb d p) refl e
  where
    go : (b : Bool) → ltb d p ≡ b → ◌≡◌ {A = Answer ℕ} (refused r) (elim b [ true ↦ refused broken | false ↦ is d ]) → ◌≡◌ {A = Answer A} (refused r) (f (some d))
    go true i e = let z : r ≡ broken = cc in ap refused z ∙ sym (h d i)
    go false i e = absurd cc

module _ (c : Counts) (ws bs ms ls us : List ℕ) where
  abbrev t : Tree
  t = tree_in c

  abbrev a : Lent
  a = lent_at ws bs ms ls us

  abbrev bits : List Bool
  bits = lowest (levels_in t a)

  -- the number of nodes
  module _ (b : Bool) (e : b ≡ counts_fit t a) where
    pub nodes_unfit : not b ≡ true → refused broken ≡ nodes_in t a
    unfolding nodes_in provided
    nodes_unfit h = rw (sym e ∙ not-true b h, provided)

    pub nodes_are : not b ≡ false → is c.nodes ≡ nodes_in t a
    unfolding nodes_in provided tree_in
    nodes_are h = rw (sym e ∙ not-false b h, provided)

  pub empty_lost : (r : answers.Refusal) → refused r ≡ nodes_in t a → refused r ≡ is_empty_in t a
  unfolding nodes_in is_empty_in provided
  empty_lost r e = go (counts_fit t a) e
    where
      go : (b : Bool) → refused r ≡ provided b broken (is t.nodes) → refused r ≡ provided b broken (is (eqb t.nodes 0))
      go true e = absurd cc
      go false e = let z : r ≡ broken = cc in ap refused z

  pub empty_is : (n : ℕ) → is n ≡ nodes_in t a → is (eqb n 0) ≡ is_empty_in t a
  unfolding nodes_in is_empty_in provided
  empty_is n e = go (counts_fit t a) e
    where
      go : (b : Bool) → is n ≡ provided b broken (is t.nodes) → is (eqb n 0) ≡ provided b broken (is (eqb t.nodes 0))
      go true e = let z : n ≡ t.nodes = cc in ap (λ x. is (eqb x 0)) z
      go false e = absurd cc

  -- the open after a place i, by the step s
  module _ (i : ℕ) (s : Maybe ℕ) (g : option_of s ≡ test (get_or (bits_of ws (get_or c.bits 0 0)) (i + 1) false) (some (i + 1))) where
    after_none : s ≡ None → get_or bits (i + 1) false ≡ false
    after_none h = ap (λ l. get_or l (i + 1) false) (lowest_is c ws bs ms ls us) ∙ test_none _ (i + 1) (sym g ∙ ap option_of h)

    after_some : (q : ℕ) → s ≡ Some q → (get_or bits (i + 1) false ≡ true) × (q ≡ i + 1)
    after_some q h =
        let w = test_some _ (some (i + 1)) q (sym g ∙ ap option_of h) in
        let z : i + 1 ≡ q = cc w.1 in
        (ap (λ l. get_or l (i + 1) false) (lowest_is c ws bs ms ls us) ∙ w.0, sym z)

  module _ (n : Node) where
    -- a node that is refused
    module _ (r : answers.Refusal) (e : some r ≡ node_refusal t a (node_of n)) where
      pub child_lost : refused r ≡ first_child t a (node_of n)
      unfolding first_child
      child_lost = sym (if_some _ _ r (sym e))

      pub label_lost : refused r ≡ label_in t a (node_of n)
      unfolding label_in
      label_lost = sym (if_some _ _ r (sym e))

    -- one that passes: its first child
    module _ (e : none ≡ node_refusal t a (node_of n)) where
      module _ (s : Maybe ℕ) (g : option_of s ≡ test (get_or (bits_of ws (get_or c.bits 0 0)) (n.place + 1) false) (some (n.place + 1))) where
        pub child_none : s ≡ None → nothing ≡ first_child t a (node_of n)
        unfolding first_child child labelled
        child_none h = sym (if_none _ _ (sym e) ∙ ap (labelled t a) (if_false _ _ (after_none n.place s g h)))

        pub child_found : (q : ℕ) → s ≡ Some q → (r : Result (Maybe Edge) Refusal)
            → said_edge r ≡ labelled t a (some (record { place = q; id = suc n.id })) → said_edge r ≡ first_child t a (node_of n)
        unfolding first_child child
        child_found q h r i =
            let w = after_some n.place s g q h in
            i
            ∙ ap (λ z. labelled t a (some (record { place = z; id = suc n.id }))) w.1
            ∙ ap (λ z. labelled t a (some (record { place = n.place + 1; id = z }))) (sym (add-one n.id))
            ∙ sym (if_none _ _ (sym e) ∙ ap (labelled t a) (if_true _ _ w.0))

      -- its label
      label_by : label_in t a (node_of n) ≡ label_of t a n.id
      unfolding label_in
      label_by = if_none _ _ (sym e)

      pub label_none : n.id ≡ 0 → nothing ≡ label_in t a (node_of n)
      unfolding label_of
      label_none h = sym (label_by ∙ ap (label_of t a) h)

      module _ (h : ¬ (n.id ≡ 0)) where
        label_next : label_in t a (node_of n) ≡ provided (ltb (n.id - 1) c.nodes) broken (is (get_or us (n.id - 1) 0))
        unfolding label_of tree_in
        label_next = let u : n.id ≡ suc (n.id - 1) = omega arith in label_by ∙ ap (label_of t a) u

        pub label_broken : (r : answers.Refusal) → refused r ≡ provided (ltb (n.id - 1) c.nodes) broken (is (get_or us (n.id - 1) 0)) → refused r ≡ label_in t a (node_of n)
        label_broken r i = i ∙ sym label_next

        pub label_is : (b : ℕ) → is b ≡ provided (ltb (n.id - 1) c.nodes) broken (is (get_or us (n.id - 1) 0)) → is b ≡ label_in t a (node_of n)
        label_is b i = i ∙ sym label_next

    -- no close
    module _ (r : answers.Refusal) (e : refused r ≡ closed t a (node_of n)) where
      pub sibling_lost : refused r ≡ next_sibling t a (node_of n)
      unfolding closed next_sibling sibling_by
      sibling_lost =
          by_close (node_refusal t a (node_of n)) (close_at (levels_in t a) n.place) n.place r (sibling_by t a (node_of n)) refl (λ d i. if_true _ _ i) e

      pub leaves_lost : refused r ≡ leaves_below t a (node_of n)
      unfolding closed leaves_below leaves_by
      leaves_lost =
          by_close (node_refusal t a (node_of n)) (close_at (levels_in t a) n.place) n.place r (leaves_by t a (node_of n)) refl (λ d i. if_true _ _ i) e

    -- the close d
    module _ (d : ℕ) (e : is d ≡ closed t a (node_of n)) where
      tells : (none ≡ node_refusal t a (node_of n)) × (close_at (levels_in t a) n.place ≡ some d) × (ltb d n.place ≡ false)
      tells = told c ws bs ms ls us n d e

      pub close_high : n.place ≤ d
      close_high = ltb-false d n.place tells.2

      pub close_low : d ≤ get_or c.bits 0 0
      close_low =
          omega (arith, close_inside (levels_in t a) n.place d tells.1, ap length (lowest_is c ws bs ms ls us), length_bits ws (get_or c.bits 0 0))

      pub id_fits : d < 2 ^ 64 → n.id + (d - n.place) / 2 < 2 ^ 64
      id_fits = id_room c ws bs ms ls us n tells.0 d close_high

      pub leaves_are : (m : ℕ) → m ≡ leaf_count (bits_of ws (get_or c.bits 0 0)) n.place d → is m ≡ leaves_below t a (node_of n)
      unfolding leaves_below leaves_by
      leaves_are m i =
          ap is (i ∙ ap (λ l. leaf_count l n.place d) (sym (lowest_is c ws bs ms ls us)))
          ∙ sym (if_none _ _ (sym tells.0) ∙ ap (leaves_by t a (node_of n)) tells.1 ∙ if_false _ _ tells.2)

      -- the next sibling
      module _ (s : Maybe ℕ) (g : option_of s ≡ test (get_or (bits_of ws (get_or c.bits 0 0)) (d + 1) false) (some (d + 1))) where
        sibling_is : next_sibling t a (node_of n) ≡ labelled t a (sibling bits d (node_of n))
        unfolding next_sibling sibling_by
        sibling_is = if_none _ _ (sym tells.0) ∙ ap (sibling_by t a (node_of n)) tells.1 ∙ if_false _ _ tells.2

        pub sibling_none : s ≡ None → nothing ≡ next_sibling t a (node_of n)
        unfolding sibling labelled
        sibling_none h = sym (sibling_is ∙ ap (labelled t a) (if_false _ _ (after_none d s g h)))

        pub sibling_found : (q : ℕ) → s ≡ Some q → (r : Result (Maybe Edge) Refusal)
            → said_edge r ≡ labelled t a (some (record { place = q; id = suc (n.id + (d - n.place) / 2) })) → said_edge r ≡ next_sibling t a (node_of n)
        unfolding sibling
        sibling_found q h r i =
            let w = after_some d s g q h in
            i
            ∙ ap (λ z. labelled t a (some (record { place = z; id = suc (n.id + (d - n.place) / 2) }))) w.1
            ∙ ap (λ z. labelled t a (some (record { place = d + 1; id = z }))) (sym (add-one (n.id + (d - n.place) / 2)))
            ∙ sym (sibling_is ∙ ap (labelled t a) (if_true _ _ w.0))
