-- Growth by one node, of the answers with their labels: of the two questions of the older nodes one finds the new node, and no label moves.
use mathlib.Core.Path.{◌≡◌, refl, sym, ap, ◌∙◌, subst}
use mathlib.Core.Bool.{Bool}
use mathlib.Core.Option.{Option, none, some}
use mathlib.Core.List.{List, [], ◌∷◌, ◌++◌}
use Prim.Native.Nat.{ℕ, zero, suc, pred, ◌<◌}
use native.Mathlib.Omega.{arith}
use lib.ListN.{length, get_or, get_or-append}
use lib.Seq.{get_or_at}
use Rattle.meaning.specs.Answers.{Answer, is, nothing}
use Rattle.meaning.specs.String.{string}
use Rattle.meaning.specs.List.{Rule}
use Rattle.meaning.specs.Match.{close_of}
use Rattle.meaning.specs.Child.{Node, IsNode, root}
use Rattle.meaning.specs.Sibling.{next}
use Rattle.meaning.specs.Walk.{plain}
use Rattle.meaning.specs.Kin.{node_at}
use Rattle.meaning.specs.Areas.{Rooms}
use Rattle.meaning.specs.Refusals.{Accepted}
use Rattle.meaning.specs.Build.{After, tree_of, lent_of, build}
use Rattle.meaning.specs.Questions.{Edge, edge, edge_of, label_in}
use Rattle.meaning.specs.Change.{Question, child_of, sibling_of, asked, answer, AnswersGrow, EdgesGrow}
use Rattle.meaning.specs.Demands.{Answered, AnsweredLabels, grow_on, edge_in, GrowsLabels}
use Rattle.meaning.proofs.String.{Walk, string_walk}
use Rattle.meaning.proofs.Nodes.{next_node, child_node}
use Rattle.meaning.proofs.Front.{rule_front}
use Rattle.meaning.proofs.Kin.{node_of_lem, node_list, root_kin}
use Rattle.meaning.proofs.Accepted.{accepted_exactly}
use Rattle.meaning.proofs.Change.{answers_grow}
use Rattle.meaning.proofs.Growth.{grow_is}
use Rattle.meaning.proofs.Questions.{child_id, sibling_new_id, first_child_lem, next_sibling_lem, label_at, label_in_lem}
use Rattle.meaning.proofs.Demands.{build_is, answered}

-- the answers of a string to the two questions, with the labels of a list
abbrev pub edges : List Bool → List ℕ → Question → Answer Edge
edges l bs q = edge_of bs (answer (plain l) q)

-- answers that are others' at the nodes grow as those do
pub edges_grow_by : (vs : List ℕ) (v b : ℕ) (l l' : List Bool) (a a' c c' : Question → Answer Edge) → EdgesGrow vs v b l l' a a'
    → ((q : Question) → IsNode l (asked q) → c q ≡ a q) → ((q : Question) → IsNode l' (asked q) → c' q ≡ a' q) → EdgesGrow vs v b l l' c c'
edges_grow_by vs v b l l' a a' c c' g h h' =
    record {
      new = g.new;
      changed = g.changed;
      place = g.place;
      id = g.id;
      kept = g.kept;
      added = g.added;
      only = g.only;
      which = g.which;
      older = g.older;
      before = h g.changed g.older ∙ g.before;
      now = h' g.changed (g.kept (asked g.changed) g.older) ∙ g.now;
      others = λ q i ne. h' q (g.kept (asked q) i) ∙ g.others q i ne ∙ sym (h q i);
    }

-- what a question leads to is a node below the root
leads : (l : List Bool) → Walk 0 l 0 → (q : Question) → IsNode l (asked q) → (m : Node) → answer (plain l) q ≡ some m → IsNode l m × (0 < m.id)
unfolding asked answer next
leads l w (child_of n) i m e = (child_node l n m i e, child_id l n m e)
leads l w (sibling_of n) i m e = (next_node l w n m i e, sibling_new_id l (close_of l n.place) n m e)

module _ (vs bs : List ℕ) (v b : ℕ) (same : length vs ≡ length bs) (r : Rule (vs ++ v ∷ [])) where
  g : AnswersGrow vs v (string vs) (string (vs ++ v ∷ [])) (plain (string vs)) (plain (string (vs ++ v ∷ [])))
  g = answers_grow vs v r

  -- an answer that is an older node keeps its label, and the new node has the new one
  edge_kept : (o : Option Node) → ((m : Node) → o ≡ some m → IsNode (string vs) m × (0 < m.id)) → edge_of (bs ++ b ∷ []) o ≡ edge_of bs o
  unfolding edge_of
  edge_kept none h = refl
  edge_kept (some m) h = ap (edge m) (g.labels bs b (sym same) m (pred m.id) (h m refl).0 (omega (arith, (h m refl).1)))

  new_label : get_or (bs ++ b ∷ []) (pred g.new.id) 0 ≡ b
  new_label =
      let u : pred g.new.id ≡ length bs = omega (arith, g.id, same) in
      get_or_at bs b [] 0 (pred g.new.id) (sym u)

  pub edges_grow : EdgesGrow vs v b (string vs) (string (vs ++ v ∷ [])) (edges (string vs) bs) (edges (string (vs ++ v ∷ [])) (bs ++ b ∷ []))
  unfolding edge_of
  edges_grow =
      record {
        new = g.new;
        changed = g.changed;
        place = g.place;
        id = g.id;
        kept = g.kept;
        added = g.added;
        only = g.only;
        which = g.which;
        older = g.older;
        before = ap (edge_of bs) g.before;
        now = ap (edge_of (bs ++ b ∷ [])) g.now ∙ ap (edge g.new) new_label;
        others = λ q i ne.
            ap (edge_of (bs ++ b ∷ [])) (g.others q i ne)
            ∙ edge_kept (answer (plain (string vs)) q) (leads (string vs) (string_walk vs (rule_front vs v [] r).0) q i);
      }

-- the outcome of a build, with the label of each node
pub answered_labels : (vs bs : List ℕ) (rooms : Rooms) → Accepted vs bs rooms → (o : After) → o ≡ build vs bs rooms → AnsweredLabels vs bs o
unfolding node_at
answered_labels vs bs rooms a o e = subst (AnsweredLabels vs bs) (sym p) (labels (answered vs bs rooms a left (sym (build_is vs bs rooms a))))
  where
    left : After
    left = record { reply = is (tree_of vs); areas = lent_of vs bs rooms }

    p : o ≡ left
    p = e ∙ build_is vs bs rooms a

    labels : Answered vs bs left → AnsweredLabels vs bs left
    labels w =
        record {
          answered = w;
          label = λ k h. subst (λ t. label_in t (lent_of vs bs rooms) (node_at vs k) ≡ is (get_or bs k 0)) same (label_in_lem vs bs rooms a (node_at vs k) (node_of_lem vs a.rule k h));
          root_label = subst (λ t. label_in t (lent_of vs bs rooms) root ≡ nothing) same (label_in_lem vs bs rooms a root (root_kin vs a.rule).is);
        }
      where
        same : tree_of vs ≡ w.tree
        same = cc w.built

-- the edge of a question, by the string
edge_is : (vs bs : List ℕ) (rooms : Rooms) → Accepted vs bs rooms → (q : Question) → IsNode (string vs) (asked q)
    → edge_in (tree_of vs) (lent_of vs bs rooms) q ≡ edges (string vs) bs q
unfolding edge_in asked answer
edge_is vs bs rooms a (child_of n) i = first_child_lem vs bs rooms a n i
edge_is vs bs rooms a (sibling_of n) i = next_sibling_lem vs bs rooms a n i

module _ (vs bs : List ℕ) (v b : ℕ) (rooms : Rooms) (a : Accepted vs bs rooms) (a' : Accepted (vs ++ v ∷ []) (bs ++ b ∷ []) rooms) where
  grown_on : grow_on (build vs bs rooms) v b ≡ build (vs ++ v ∷ []) (bs ++ b ∷ []) rooms
  unfolding grow_on
  grown_on = ap (λ o. grow_on o v b) (build_is vs bs rooms a) ∙ grow_is vs bs rooms a v b ((accepted_exactly (vs ++ v ∷ []) (bs ++ b ∷ []) rooms).1 a')

  e : EdgesGrow vs v b (string vs) (string (vs ++ v ∷ [])) (edges (string vs) bs) (edges (string (vs ++ v ∷ [])) (bs ++ b ∷ []))
  e = edges_grow vs bs v b a.same a'.rule

  -- the label of an older node is what it was
  label_kept : (n : Node) → IsNode (string vs) n → (j : ℕ) → n.id ≡ j → label_at (bs ++ b ∷ []) j ≡ label_at bs j
  label_kept n i zero e = refl
  label_kept n i (suc k) e = ap is (get_or-append bs (b ∷ []) 0 k (omega (arith, (node_list vs a.rule n k i e).0, a.same)))

  -- so of all outcomes
  pub grows_labels : (first grew fresh : After) → first ≡ build vs bs rooms → grew ≡ grow_on first v b → fresh ≡ build (vs ++ v ∷ []) (bs ++ b ∷ []) rooms
      → GrowsLabels vs bs v b first grew fresh
  grows_labels first grew fresh was now anew =
      let p : first ≡ record { reply = is (tree_of vs); areas = lent_of vs bs rooms } = was ∙ build_is vs bs rooms a in
      let s : grew ≡ build (vs ++ v ∷ []) (bs ++ b ∷ []) rooms = now ∙ ap (λ o. grow_on o v b) was ∙ grown_on in
      let q : grew ≡ record { reply = is (tree_of (vs ++ v ∷ [])); areas = lent_of (vs ++ v ∷ []) (bs ++ b ∷ []) rooms } = s ∙ build_is (vs ++ v ∷ []) (bs ++ b ∷ []) rooms a' in
      subst (λ o. GrowsLabels vs bs v b first o fresh) (sym q)
      (subst (λ o. GrowsLabels vs bs v b o (record { reply = is (tree_of (vs ++ v ∷ [])); areas = lent_of (vs ++ v ∷ []) (bs ++ b ∷ []) rooms }) fresh) (sym p)
      (record {
        same = sym q ∙ s ∙ sym anew;
        old = tree_of vs;
        new = tree_of (vs ++ v ∷ []);
        was = refl;
        now = refl;
        answers =
            edges_grow_by vs v b (string vs) (string (vs ++ v ∷ [])) (edges (string vs) bs) (edges (string (vs ++ v ∷ [])) (bs ++ b ∷ []))
            (edge_in (tree_of vs) (lent_of vs bs rooms))
            (edge_in (tree_of (vs ++ v ∷ [])) (lent_of (vs ++ v ∷ []) (bs ++ b ∷ []) rooms))
            e
            (edge_is vs bs rooms a)
            (edge_is (vs ++ v ∷ []) (bs ++ b ∷ []) rooms a');
        labels = λ n i.
            label_in_lem (vs ++ v ∷ []) (bs ++ b ∷ []) rooms a' n (e.kept n i) ∙ label_kept n i n.id refl ∙ sym (label_in_lem vs bs rooms a n i);
      }))
