-- Which nodes are no node of the tree: over the areas that a build leaves, a node is refused exactly if it is none of the string's.
use mathlib.Core.Path.{◌≡◌, sym, ap, ◌∙◌}
use mathlib.Core.Bool.{Bool, false}
use mathlib.Core.Option.{none}
use mathlib.Core.Logic.{◌↔◌}
use mathlib.Core.List.{List}
use Prim.Native.Nat.{ℕ}
use lib.ListN.{get_or, take}
use Rattle.meaning.specs.Bits.{opens}
use Rattle.meaning.specs.String.{string}
use Rattle.meaning.specs.Child.{Node, IsNode}
use Rattle.meaning.specs.Walk.{lowest}
use Rattle.meaning.specs.Areas.{Rooms}
use Rattle.meaning.specs.Refusals.{Accepted}
use Rattle.meaning.specs.Build.{tree_of, lent_of, levels_in}
use Rattle.meaning.specs.Questions.{node_refusal}
use Rattle.meaning.proofs.Accepted.{check_none, first_none}
use Rattle.meaning.proofs.Held.{held_lowest}
use Rattle.meaning.proofs.Questions.{asked_none}
use borrow.Author.Tests.{eqb-true}

module _ (vs bs : List ℕ) (rooms : Rooms) (a : Accepted vs bs rooms) (n : Node) where
  lowest_is : lowest (levels_in (tree_of vs) (lent_of vs bs rooms)) ≡ string vs
  lowest_is = held_lowest vs bs rooms a.rule a.few

  not_refused : node_refusal (tree_of vs) (lent_of vs bs rooms) n ≡ none → IsNode (string vs) n
  unfolding node_refusal
  not_refused e =
      let b = first_none _ _ e in
      let c = first_none _ _ b.1 in
      let d = first_none _ _ c.1 in
      let f = first_none _ _ d.1 in
      record {
        opening = ap (λ (l : List Bool). get_or l n.place false) (sym lowest_is) ∙ check_none _ _ _ f.0;
        counted = eqb-true _ _ (check_none _ _ _ d.0) ∙ ap (λ (l : List Bool). opens (take n.place l)) lowest_is;
      }

  -- "no such bit, or a node whose id is not the number of opens before its place" is PLACE, "the place holds a close" is CLOSE; else it is a node
  pub node_exactly : (node_refusal (tree_of vs) (lent_of vs bs rooms) n ≡ none) ↔ IsNode (string vs) n
  node_exactly = (not_refused, asked_none vs bs rooms a n)
