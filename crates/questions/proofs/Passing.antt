-- The checks of a node, in their order, and its close.
use mathlib.Core.Path.{◌≡◌, refl, sym, ap, ◌∙◌}
use mathlib.Core.Bool.{Bool, true, false, not}
use mathlib.Core.Option.{Option, none, some}
use mathlib.Core.List.{List, [], ◌∷◌, map}
use Prim.Native.Nat.{ℕ, suc, ◌+◌, ◌-◌, ◌*◌, ◌/◌, ◌^◌, ◌<◌, ◌≤◌}
use native.Mathlib.Omega.{arith}
use lib.Dec.{ltb}
use lib.ListN.{length, get_or, take, length-take}
use lib.Seq.{take_all}
use borrow.Author.Tests.{le-leb, leb-true, le-ltb, lt-ltb, ltb-true, eq-eqb, ne_eqb, eqb-true, not-true, not-false}
use Rattle.std.specs.Prelude.{Result, Ok}
use Rattle.meaning.specs.Answers as answers
use Rattle.meaning.specs.Answers.{Answer, is, refused, place, close, broken, provided, or_broken}
use Rattle.meaning.specs.Bits.{opens, bits_of, word_count}
use Rattle.meaning.specs.Plain.{side, plain_rank}
use Rattle.meaning.specs.BitString.{held, if_held, before_end, string_rank}
use Rattle.meaning.specs.Close.{close_at}
use Rattle.meaning.specs.Walk.{lowest}
use Rattle.meaning.specs.Size.{sum}
use Rattle.meaning.specs.Refusals.{check, first_of}
use Rattle.meaning.specs.Build.{Lent, Tree, levels_in}
use Rattle.meaning.specs.Growth.{first_bits, bits_in}
use Rattle.meaning.specs.Questions.{counts_fit, lent_at, at_bit, bit_in, close_in, node_refusal}
use Rattle.meaning.proofs.If.{both, if_none, if_some, if_true, if_false}
use Rattle.meaning.proofs.Tab.{opens_closes}
use Rattle.meaning.proofs.Stored.{length_bits, bits_take}
use Rattle.meaning.proofs.Accepted.{check_none, first_none}
use Rattle.record.specs.declared.Counts.{Counts}
use Rattle.record.specs.Record.{tree_in}
use Rattle.refusal.specs.declared.Refusal.{Refusal}
use Rattle.refusal.specs.Said.{said_number, said_bit}
use Rattle.closes.proofs.Asked.{lowest_is, tests}
use Rattle.questions.specs.Closed.{not_before, closed}
use Rattle.questions.specs.Said.{node_of}
use Rattle.questions.specs.declared.Node.{Node}

-- the opens before a place, as the rank past the end
total : (ws : List ℕ) (n : ℕ) → n ≤ 64 * length ws → string_rank true ws n n ≡ is (opens (bits_of ws n))
unfolding string_rank if_held provided held before_end side plain_rank
total ws n h =
    ap (λ b. provided b broken (is (opens (take (suc n) (bits_of ws n))))) (le-leb n (64 * length ws) h)
    ∙ ap (λ l. is (opens l)) (take_all (suc n) (bits_of ws n) (omega (arith, length_bits ws n)))

-- where the bit is refused, so is the node
bit_lost : (b d : Bool) (r : answers.Refusal) (p n : ℕ) (o : List (Option answers.Refusal)) → refused r ≡ provided b broken (provided d (place p) (is n))
    → some r ≡ first_of (check b 9 (0 ∷ []) ∷ check d 7 (p ∷ []) ∷ o)
unfolding provided first_of check
bit_lost true true r p n o e = absurd cc
bit_lost true false r p n o e = let z : r ≡ place p = cc in ap some z
bit_lost false d r p n o e = let z : r ≡ broken = cc in ap some z

module _ (c : Counts) (ws bs ms ls us : List ℕ) (n : Node) where
  abbrev t : Tree
  t = tree_in c

  abbrev a : Lent
  a = lent_at ws bs ms ls us

  abbrev bits : List Bool
  bits = lowest (levels_in t a)

  module _ (g : Result Bool Refusal) (e : said_bit g ≡ bit_in t a n.place) where
    pub check_lost : (r : answers.Refusal) → refused r ≡ bit_in t a n.place → some r ≡ node_refusal t a (node_of n)
    unfolding bit_in at_bit node_refusal
    check_lost r h = bit_lost (counts_fit t a) (ltb n.place (bits_in t)) r n.place _ _ h

    module _ (d : Bool) (f : g ≡ Ok d) where
      abbrev held_tests : (counts_fit t a ≡ true) × (ltb n.place (bits_in t) ≡ true) × (d ≡ get_or bits n.place false)
      held_tests = tests c ws bs ms ls us n.place g e d f

      inside : n.place < get_or c.bits 0 0
      unfolding tree_in first_bits
      inside = ltb-true n.place (get_or c.bits 0 0) held_tests.1

      place_held : n.place ≤ 64 * length ws
      unfolding counts_fit tree_in sum
      place_held =
          let a1 = both _ _ held_tests.0 in
          let a2 = both _ _ a1.0 in
          let a3 = both _ _ a2.0 in
          let a4 = both _ _ a3.0 in
          let w : sum (map (λ n. word_count n.bits) (tree_in c).counts) ≤ length ws = leb-true _ _ a4.0 in
          omega (arith, inside)

      pub rank_lost : (r : answers.Refusal) → refused r ≡ string_rank true ws n.place n.place → some r ≡ node_refusal t a (node_of n)
      rank_lost r i = let z = i ∙ total ws n.place place_held in absurd cc

      module _ (o : ℕ) (i : is o ≡ string_rank true ws n.place n.place) where
        opens_are : o ≡ opens (bits_of ws n.place)
        opens_are = let z = i ∙ total ws n.place place_held in cc

        counted : o ≡ opens (take n.place bits)
        counted =
            opens_are
            ∙ sym (ap (λ l. opens (take n.place l)) (lowest_is c ws bs ms ls us) ∙ ap opens (sym (bits_take ws (get_or c.bits 0 0) n.place (omega (arith, inside)))))

        pub check_id : ¬ (n.id ≡ o) → some (place n.place) ≡ node_refusal t a (node_of n)
        unfolding node_refusal first_of check
        check_id h = rw (held_tests.0, held_tests.1, ne_eqb n.id (opens (take n.place bits)) (λ z. h (z ∙ sym counted)))

        module _ (h : n.id ≡ o) where
          pub check_shut : not d ≡ true → some (close n.place) ≡ node_refusal t a (node_of n)
          unfolding node_refusal first_of check
          check_shut k = rw (held_tests.0, held_tests.1, eq-eqb n.id (opens (take n.place bits)) (h ∙ counted), sym held_tests.2 ∙ not-true d k)

          pub check_passed : not d ≡ false → none ≡ node_refusal t a (node_of n)
          unfolding node_refusal first_of check
          check_passed k = rw (held_tests.0, held_tests.1, eq-eqb n.id (opens (take n.place bits)) (h ∙ counted), sym held_tests.2 ∙ not-false d k)

  -- a node that is refused has no close
  pub closed_lost : (r : answers.Refusal) → some r ≡ node_refusal t a (node_of n) → refused r ≡ closed t a (node_of n)
  unfolding closed
  closed_lost r h = sym (if_some _ _ r (sym h))

  -- one that passes
  module _ (h : none ≡ node_refusal t a (node_of n)) where
    pub passes : node_refusal t a (node_of n) ≡ none
    passes = sym h

    fits : counts_fit t a ≡ true
    unfolding node_refusal
    fits = check_none _ _ _ (first_none _ _ passes).0

    within : ltb n.place (bits_in t) ≡ true
    unfolding node_refusal
    within = check_none _ _ _ (first_none _ _ (first_none _ _ passes).1).0

    own_id : n.id ≡ opens (take n.place bits)
    unfolding node_refusal
    own_id = eqb-true _ _ (check_none _ _ _ (first_none _ _ (first_none _ _ (first_none _ _ passes).1).1).0)

    opening : get_or bits n.place false ≡ true
    unfolding node_refusal
    opening = check_none _ _ _ (first_none _ _ (first_none _ _ (first_none _ _ (first_none _ _ passes).1).1).1).0

    pub id_low : n.id ≤ n.place
    id_low = omega (arith, own_id, opens_closes (take n.place bits), length-take n.place bits)

    pub id_room : (d : ℕ) → n.place ≤ d → d < 2 ^ 64 → n.id + (d - n.place) / 2 < 2 ^ 64
    id_room d b h = omega (arith, id_low)

    closed_by : closed t a (node_of n) ≡ not_before n.place (close_at (levels_in t a) n.place)
    unfolding closed
    closed_by = if_none _ _ passes

    module _ (y : Result ℕ Refusal) (l : said_number y ≡ close_in t a n.place) where
      by_steps : said_number y ≡ or_broken (close_at (levels_in t a) n.place)
      unfolding close_in at_bit provided
      by_steps = l ∙ rw (fits, provided, within, provided, opening, provided)

      pub closed_broken : (r : answers.Refusal) → refused r ≡ close_in t a n.place → refused r ≡ closed t a (node_of n)
      unfolding close_in at_bit provided not_before or_broken
      closed_broken r i = go (close_at (levels_in t a) n.place) (i ∙ rw (fits, provided, within, provided, opening, provided)) ∙ sym closed_by
        where
          go : (o : Option ℕ) → refused r ≡ or_broken o → refused r ≡ not_before n.place o
          go none i = i
          go (some d) i = absurd cc

      module _ (d : ℕ) (f : y ≡ Ok d) where
        at : close_at (levels_in t a) n.place ≡ some d
        unfolding or_broken
        at = go (close_at (levels_in t a) n.place) (sym (ap said_number f) ∙ by_steps)
          where
            go : (o : Option ℕ) → is d ≡ or_broken o → o ≡ some d
            go none i = absurd cc
            go (some x) i = let z : x ≡ d = cc in ap some z

        pub closed_back : d < n.place → refused broken ≡ closed t a (node_of n)
        unfolding not_before
        closed_back i = sym (closed_by ∙ ap (not_before n.place) at ∙ if_true _ _ (lt-ltb d n.place i))

        pub closed_is : n.place ≤ d → is d ≡ closed t a (node_of n)
        unfolding not_before
        closed_is i = sym (closed_by ∙ ap (not_before n.place) at ∙ if_false _ _ (le-ltb d n.place i))

  -- what the close tells of the node
  module _ (d : ℕ) (e : is d ≡ closed t a (node_of n)) where
    pub told : (none ≡ node_refusal t a (node_of n)) × (close_at (levels_in t a) n.place ≡ some d) × (ltb d n.place ≡ false)
    unfolding closed not_before
    told = go (node_refusal t a (node_of n)) (close_at (levels_in t a) n.place) e
      where
        Told : Option answers.Refusal → Option ℕ → Type 0
        Told r o = (none ≡ r) × (o ≡ some d) × (ltb d n.place ≡ false)

        go : (r : Option answers.Refusal) (o : Option ℕ) → is d ≡ elim r [ none ↦ not_before n.place o | some r ↦ refused r ] → Told r o
        go (some r) o e = absurd cc
        go none none e = absurd cc
        go none (some x) e = by (ltb x n.place) refl e
          where
            by : (b : Bool) → ltb x n.place ≡ b → is d ≡ elim b [ true ↦ refused broken | false ↦ is x ] → Told none (some x)
            by true f e = absurd cc
            by false f e = let z : x ≡ d = cc in (refl, ap some z, ap (λ y. ltb y n.place) (sym z) ∙ f)
