-- THE END: the demands about outcomes. Demand 2 of an accepted list, demand 3 of an accepted list grown by a node that is accepted too.
use mathlib.Core.Path.{◌≡◌, refl, sym, ap, ap₂, ◌∙◌, subst}
use mathlib.Core.Option.{Option, none, some}
use mathlib.Core.List.{List, [], ◌∷◌, ◌++◌, append_assoc, append-nil}
use Prim.Native.Nat.{ℕ, suc, pred, ◌≤◌, ◌<◌}
use native.Mathlib.Omega.{arith}
use lib.ListN.{length, take}
use Rattle.meaning.specs.Answers.{is, broken, provided}
use Rattle.meaning.specs.String.{string}
use Rattle.meaning.specs.Match.{close_of}
use Rattle.meaning.specs.Child.{Node, IsNode, root}
use Rattle.meaning.specs.Sibling.{next}
use Rattle.meaning.specs.Walk.{plain}
use Rattle.meaning.specs.Kin.{node_at}
use Rattle.meaning.specs.Areas.{Rooms}
use Rattle.meaning.specs.Refusals.{Accepted}
use Rattle.meaning.specs.Build.{After, tree_of, lent_of, build}
use Rattle.meaning.specs.Questions.{edge, nodes_in, asking, edge_of}
use Rattle.meaning.specs.Change.{Question, child_of, sibling_of, asked, answer, AnswersGrow}
use Rattle.meaning.specs.Demands.{Answered, grow_on, growths, edge_in, Grows}
use Rattle.meaning.proofs.If.{if_none}
use Rattle.meaning.proofs.String.{string_walk}
use Rattle.meaning.proofs.Nodes.{next_node, child_node}
use Rattle.meaning.proofs.Kin.{node_of_lem, kin, root_kin}
use Rattle.meaning.proofs.Leaves.{leaf_count_lem, leaf_count_root}
use Rattle.meaning.proofs.Lent.{counts_fit_lem}
use Rattle.meaning.proofs.Walking.{walk_returns}
use Rattle.meaning.proofs.Accepted.{accepted_exactly}
use Rattle.meaning.proofs.Change.{answers_grow}
use Rattle.meaning.proofs.Stepped.{grow_by}
use Rattle.meaning.proofs.Questions.{close_in_matches, child_id, sibling_new_id, first_child_lem, next_sibling_lem, asking_are, leaves_below_lem, bytes_held_lem}
use Rattle.meaning.proofs.Agree.{agree}
use Rattle.meaning.proofs.Growth.{grow_is}

-- the outcome of a build that is accepted
pub build_is : (vs bs : List ℕ) (rooms : Rooms) → Accepted vs bs rooms → build vs bs rooms ≡ record { reply = is (tree_of vs); areas = lent_of vs bs rooms }
unfolding build
build_is vs bs rooms a = if_none _ _ ((accepted_exactly vs bs rooms).1 a)

-- Demand 2
pub answered : (vs bs : List ℕ) (rooms : Rooms) → Accepted vs bs rooms → (o : After) → o ≡ build vs bs rooms → Answered vs bs o
unfolding edge_of node_at nodes_in provided tree_of
answered vs bs rooms a o e =
    subst (Answered vs bs) (sym (e ∙ build_is vs bs rooms a))
    (record {
      tree = tree_of vs;
      built = refl;
      close = close_in_matches vs bs rooms a;
      walk = walk_returns vs bs rooms a;
      child = λ k h i. first_child_lem vs bs rooms a (node_at vs k) (node_of_lem vs a.rule k h) ∙ ap (edge_of bs) ((kin vs a.rule k h).kid i);
      no_child = λ k h i. first_child_lem vs bs rooms a (node_at vs k) (node_of_lem vs a.rule k h) ∙ ap (edge_of bs) ((kin vs a.rule k h).no_kid i);
      sibling = λ k h i. next_sibling_lem vs bs rooms a (node_at vs k) (node_of_lem vs a.rule k h) ∙ ap (edge_of bs) ((kin vs a.rule k h).sib i);
      no_sibling = λ k h i. next_sibling_lem vs bs rooms a (node_at vs k) (node_of_lem vs a.rule k h) ∙ ap (edge_of bs) ((kin vs a.rule k h).no_sib i);
      root_child = λ h. first_child_lem vs bs rooms a root (root_kin vs a.rule).is ∙ ap (edge_of bs) ((root_kin vs a.rule).kid h);
      root_no_child = λ h. first_child_lem vs bs rooms a root (root_kin vs a.rule).is ∙ ap (edge_of bs) ((root_kin vs a.rule).no_kid h);
      root_no_sibling = next_sibling_lem vs bs rooms a root (root_kin vs a.rule).is ∙ ap (edge_of bs) (root_kin vs a.rule).no_sib;
      nodes = ap (λ t. provided t broken (is (length vs))) (counts_fit_lem vs bs rooms a);
      size = bytes_held_lem vs bs rooms a;
      leaves = λ k h. leaves_below_lem vs bs rooms a (node_at vs k) (node_of_lem vs a.rule k h) ∙ ap is (leaf_count_lem vs a.rule k h);
      root_leaves = leaves_below_lem vs bs rooms a root (root_kin vs a.rule).is ∙ ap is (leaf_count_root vs a.rule);
    })

-- the edge of a question, by the string
edge_is : (vs bs : List ℕ) (rooms : Rooms) → Accepted vs bs rooms → (q : Question) → IsNode (string vs) (asked q)
    → edge_in (tree_of vs) (lent_of vs bs rooms) q ≡ edge_of bs (answer (plain (string vs)) q)
unfolding edge_in asked answer
edge_is vs bs rooms a (child_of n) i = first_child_lem vs bs rooms a n i
edge_is vs bs rooms a (sibling_of n) i = next_sibling_lem vs bs rooms a n i

-- what a question leads to is a node below the root
leads : (vs bs : List ℕ) (rooms : Rooms) → Accepted vs bs rooms → (q : Question) → IsNode (string vs) (asked q)
    → (m : Node) → answer (plain (string vs)) q ≡ some m → IsNode (string vs) m × (0 < m.id)
unfolding asked answer next
leads vs bs rooms a (child_of n) i m e = (child_node (string vs) n m i e, child_id (string vs) n m e)
leads vs bs rooms a (sibling_of n) i m e = (next_node (string vs) (string_walk vs a.rule) n m i e, sibling_new_id (string vs) (close_of (string vs) n.place) n m e)

module _ (vs bs : List ℕ) (v b : ℕ) (rooms : Rooms) (a : Accepted vs bs rooms) (a' : Accepted (vs ++ v ∷ []) (bs ++ b ∷ []) rooms) where
  grow_on_lem : grow_on (build vs bs rooms) v b ≡ build (vs ++ v ∷ []) (bs ++ b ∷ []) rooms
  unfolding grow_on
  grow_on_lem = ap (λ o. grow_on o v b) (build_is vs bs rooms a) ∙ grow_is vs bs rooms a v b ((accepted_exactly (vs ++ v ∷ []) (bs ++ b ∷ []) rooms).1 a')

  plain_grow : AnswersGrow vs v (string vs) (string (vs ++ v ∷ [])) (plain (string vs)) (plain (string (vs ++ v ∷ [])))
  plain_grow = answers_grow vs v a'.rule

  pub asking_grow : AnswersGrow vs v (string vs) (string (vs ++ v ∷ [])) (asking (tree_of vs) (lent_of vs bs rooms))
      (asking (tree_of (vs ++ v ∷ [])) (lent_of (vs ++ v ∷ []) (bs ++ b ∷ []) rooms))
  asking_grow =
      grow_by vs v (string vs) (string (vs ++ v ∷ [])) plain_grow (asking (tree_of vs) (lent_of vs bs rooms))
      (asking (tree_of (vs ++ v ∷ [])) (lent_of (vs ++ v ∷ []) (bs ++ b ∷ []) rooms))
      (asking_are vs bs rooms a)
      (asking_are (vs ++ v ∷ []) (bs ++ b ∷ []) rooms a')

  -- an edge to an older node keeps its label
  edge_kept : (o : Option Node) → ((m : Node) → o ≡ some m → IsNode (string vs) m × (0 < m.id)) → edge_of (bs ++ b ∷ []) o ≡ edge_of bs o
  unfolding edge_of
  edge_kept none h = refl
  edge_kept (some m) h = ap (edge m) (plain_grow.labels bs b (sym a.same) m (pred m.id) (h m refl).0 (omega (arith, (h m refl).1)))

  same_changed : plain_grow.changed ≡ asking_grow.changed
  same_changed =
      (agree vs v (string vs) (string (vs ++ v ∷ [])) (plain (string vs)) (plain (string (vs ++ v ∷ []))) (asking (tree_of vs) (lent_of vs bs rooms))
      (asking (tree_of (vs ++ v ∷ [])) (lent_of (vs ++ v ∷ []) (bs ++ b ∷ []) rooms))
      plain_grow
      asking_grow
      ).0

  -- every other question is answered as it was
  pub edges_kept : (q : Question) → IsNode (string vs) (asked q) → ¬ (q ≡ asking_grow.changed)
      → edge_in (tree_of (vs ++ v ∷ [])) (lent_of (vs ++ v ∷ []) (bs ++ b ∷ []) rooms) q ≡ edge_in (tree_of vs) (lent_of vs bs rooms) q
  edges_kept q i ne =
      edge_is (vs ++ v ∷ []) (bs ++ b ∷ []) rooms a' q (plain_grow.kept (asked q) i)
      ∙ ap (edge_of (bs ++ b ∷ [])) (plain_grow.others q i (λ e. ne (e ∙ same_changed)))
      ∙ edge_kept (answer (plain (string vs)) q) (λ m e. leads vs bs rooms a q i m e)
      ∙ sym (edge_is vs bs rooms a q i)

  -- so of all outcomes
  pub grows : (first grew fresh : After) → first ≡ build vs bs rooms → grew ≡ grow_on first v b → fresh ≡ build (vs ++ v ∷ []) (bs ++ b ∷ []) rooms
      → Grows vs bs v b first grew fresh
  grows first grew fresh e f g =
      let p : first ≡ record { reply = is (tree_of vs); areas = lent_of vs bs rooms } = e ∙ build_is vs bs rooms a in
      let s : grew ≡ build (vs ++ v ∷ []) (bs ++ b ∷ []) rooms = f ∙ ap (λ o. grow_on o v b) e ∙ grow_on_lem in
      let q : grew ≡ record { reply = is (tree_of (vs ++ v ∷ [])); areas = lent_of (vs ++ v ∷ []) (bs ++ b ∷ []) rooms } = s ∙ build_is (vs ++ v ∷ []) (bs ++ b ∷ []) rooms a' in
      subst (λ o. Grows vs bs v b first o fresh) (sym q)
      (subst (λ o. Grows vs bs v b o (record { reply = is (tree_of (vs ++ v ∷ [])); areas = lent_of (vs ++ v ∷ []) (bs ++ b ∷ []) rooms }) fresh) (sym p)
      (record {
        same = sym q ∙ s ∙ sym g;
        old = tree_of vs;
        new = tree_of (vs ++ v ∷ []);
        was = refl;
        now = refl;
        answers = asking_grow;
        others = edges_kept;
      }))

-- any number of growths: where each list on the way is accepted in the areas, growing one node after another is one build
pub growths_are : (rooms : Rooms) (us cs vs bs : List ℕ) → length vs ≡ length bs
    → ((k : ℕ) → k ≤ length vs → Accepted (us ++ take k vs) (cs ++ take k bs) rooms)
    → growths (build us cs rooms) vs bs ≡ build (us ++ vs) (cs ++ bs) rooms
unfolding growths
growths_are rooms us cs [] [] e h = sym (ap₂ (λ x y. build x y rooms) (append-nil us) (append-nil cs))
growths_are rooms us cs [] (b ∷ bs) e h = absurd (omega arith)
growths_are rooms us cs (v ∷ vs) [] e h = absurd (omega arith)
growths_are rooms us cs (v ∷ vs) (b ∷ bs) e h =
    let here : Accepted us cs rooms = subst (λ x. Accepted x cs rooms) (append-nil us) (subst (λ y. Accepted (us ++ []) y rooms) (append-nil cs) (h 0 (omega arith))) in
    ap (λ o. growths o vs bs) (grow_on_lem us cs v b rooms here (h 1 (omega arith)))
    ∙ growths_are rooms (us ++ v ∷ []) (cs ++ b ∷ []) vs bs (omega arith)
    (λ k l.
    subst (λ x. Accepted x ((cs ++ b ∷ []) ++ take k bs) rooms) (sym (append_assoc us (v ∷ []) (take k vs)))
    (subst (λ y. Accepted (us ++ v ∷ take k vs) y rooms) (sym (append_assoc cs (b ∷ []) (take k bs))) (h (suc k) (omega arith))))
    ∙ ap₂ (λ x y. build x y rooms) (append_assoc us (v ∷ []) vs) (append_assoc cs (b ∷ []) bs)

-- from the empty tree, n growths equal one build of n nodes
pub growths_from_empty : (rooms : Rooms) (vs bs : List ℕ) → length vs ≡ length bs → ((k : ℕ) → k ≤ length vs → Accepted (take k vs) (take k bs) rooms)
    → growths (build [] [] rooms) vs bs ≡ build vs bs rooms
growths_from_empty rooms vs bs e h = growths_are rooms [] [] vs bs e h
