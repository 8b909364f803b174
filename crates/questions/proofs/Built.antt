-- On the areas and the record that a build of an accepted list left, the first child and the next sibling of a node are those of its string, with the list's labels.
use mathlib.Core.Path.{◌≡◌, refl, ap, ◌∙◌}
use mathlib.Core.Bool.{true, false}
use mathlib.Core.Option.{Option, none, some}
use mathlib.Core.List.{List}
use Prim.Native.Nat.{ℕ}
use lib.Dec.{ltb}
use Rattle.meaning.specs.Answers.{refused, broken}
use Rattle.meaning.specs.String.{string}
use Rattle.meaning.specs.Close.{close_at}
use Rattle.meaning.specs.Child as child
use Rattle.meaning.specs.Child.{IsNode, child}
use Rattle.meaning.specs.Sibling.{sibling, next}
use Rattle.meaning.specs.Walk.{lowest}
use Rattle.meaning.specs.Areas.{Rooms}
use Rattle.meaning.specs.Refusals.{Accepted}
use Rattle.meaning.specs.Build.{Lent, Tree, tree_of, lent_of, levels_in}
use Rattle.meaning.specs.Questions.{counts_fit, lent_at, node_refusal, labelled, first_child, sibling_by, next_sibling, edge_of}
use Rattle.meaning.proofs.Questions as built
use Rattle.record.specs.declared.Counts.{Counts}
use Rattle.record.specs.Record.{tree_in}
use Rattle.questions.specs.Said.{node_of, said_edge}
use Rattle.questions.specs.declared.Node.{Node}
use Rattle.std.specs.Prelude.{Option as Maybe, Result}
use Rattle.refusal.specs.declared.Refusal.{Refusal}
use Rattle.questions.specs.declared.Edge.{Edge}

-- areas 0 to 4, as a question is lent them: it does not look at scratch
abbrev pub five : Lent → Lent
five a = lent_at a.held.words a.held.bytes a.held.middle a.held.large a.labels

labelled_lent : (t : Tree) (a : Lent) (o : Option child.Node) → labelled t (five a) o ≡ labelled t a o
unfolding labelled
labelled_lent t a none = refl
labelled_lent t a (some m) = refl

pub child_lent : (t : Tree) (a : Lent) (n : child.Node) → first_child t (five a) n ≡ first_child t a n
unfolding first_child node_refusal counts_fit
child_lent t a n = ap (λ x. elim (node_refusal t a n) [ none ↦ x | some r ↦ refused r ]) (labelled_lent t a (child (lowest (levels_in t a)) n))

sibling_by_lent : (t : Tree) (a : Lent) (n : child.Node) (o : Option ℕ) → sibling_by t (five a) n o ≡ sibling_by t a n o
unfolding sibling_by
sibling_by_lent t a n none = refl
sibling_by_lent t a n (some c) =
    ap (λ x. elim (ltb c n.place) [ true ↦ refused broken | false ↦ x ]) (labelled_lent t a (sibling (lowest (levels_in t a)) c n))

pub sibling_lent : (t : Tree) (a : Lent) (n : child.Node) → next_sibling t (five a) n ≡ next_sibling t a n
unfolding next_sibling node_refusal counts_fit
sibling_lent t a n = ap (λ x. elim (node_refusal t a n) [ none ↦ x | some r ↦ refused r ]) (sibling_by_lent t a n (close_at (levels_in t a) n.place))

module _ (vs bs : List ℕ) (rooms : Rooms) (a : Accepted vs bs rooms) (c : Counts) (e : tree_in c ≡ tree_of vs) (n : Node) (i : IsNode (string vs) (node_of n)) (r : Result (Maybe Edge) Refusal) where
  pub first_child_matches : said_edge r ≡ first_child (tree_in c) (five (lent_of vs bs rooms)) (node_of n) → said_edge r ≡ edge_of bs (child (string vs) (node_of n))
  first_child_matches f =
      f
      ∙ child_lent (tree_in c) (lent_of vs bs rooms) (node_of n)
      ∙ ap (λ t. first_child t (lent_of vs bs rooms) (node_of n)) e
      ∙ built.first_child_lem vs bs rooms a (node_of n) i

  pub next_sibling_matches : said_edge r ≡ next_sibling (tree_in c) (five (lent_of vs bs rooms)) (node_of n) → said_edge r ≡ edge_of bs (next (string vs) (node_of n))
  next_sibling_matches f =
      f
      ∙ sibling_lent (tree_in c) (lent_of vs bs rooms) (node_of n)
      ∙ ap (λ t. next_sibling t (lent_of vs bs rooms) (node_of n)) e
      ∙ built.next_sibling_lem vs bs rooms a (node_of n) i
