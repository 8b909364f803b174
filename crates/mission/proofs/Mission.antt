-- THE END: the demands, from the contracts of build, growth and the questions alone.
use mathlib.Core.Path.{◌≡◌, refl, sym, ap, ◌∙◌}
use mathlib.Core.Option.{Option, none, some}
use mathlib.Core.List.{List, [], ◌∷◌, ◌++◌}
use Prim.Native.Nat.{ℕ, suc, pred, ◌+◌, ◌-◌, ◌<◌}
use native.Mathlib.Omega.{arith}
use lib.ListN.{length, get_or, replicate, get_or-append}
use lib.Seq.{get_or-append-add}
use borrow.Author.Tests.{lt-ltb}
use Rattle.meaning.specs.Answers.{Answer, is, broken, provided}
use Rattle.meaning.specs.String.{string}
use Rattle.meaning.specs.Child as child
use Rattle.meaning.specs.Child.{IsNode, root}
use Rattle.meaning.specs.Sibling.{next}
use Rattle.meaning.specs.Walk.{plain}
use Rattle.meaning.specs.Walking as walking
use Rattle.meaning.specs.Kin.{node_at}
use Rattle.meaning.specs.Areas.{filled}
use Rattle.meaning.specs.Refusals.{refusal, Accepted}
use Rattle.meaning.specs.Build.{Lent, Tree, rooms_of, tree_of, lent_of, zeroed, build}
use Rattle.meaning.specs.Change.{Question, child_of, sibling_of, asked, answer, AnswersGrow}
use Rattle.meaning.specs.Questions.{edge, close_in, first_child, next_sibling, heard, asking, edge_of, label_of, label_in, leaves_below, nodes_in, bytes_held}
use Rattle.meaning.specs.Demands.{Answered, edge_in, Grows}
use Rattle.meaning.proofs.Accepted.{accepted_exactly}
use Rattle.meaning.proofs.Kin.{node_of_lem, kin, root_kin}
use Rattle.meaning.proofs.If.{if_none}
use Rattle.meaning.proofs.Questions.{asked_none}
use Rattle.meaning.proofs.Walking.{walk_returns}
use Rattle.record.specs.Record.{tree_in}
use Rattle.closes.proofs.Built.{get_close_matches}
use Rattle.questions.specs.Said.{said_edge}
use Rattle.questions.proofs.Agree.{edges_agree, labels_agree, numbers_agree}
use Rattle.questions.proofs.Built.{child_lent, sibling_lent, first_child_matches, next_sibling_matches}
use Rattle.walk.specs.Said as walk
use Rattle.walk.proofs.Agree.{walks_agree}
use Rattle.balanced_parens.specs.Contract.{Builds, GrowsTo}
use Rattle.balanced_parens.specs.Said.{said}
use Rattle.balanced_parens.specs.Demands.{Made, tree_at}
use Rattle.balanced_parens.proofs.Outcome.{Says, says}
use Rattle.balanced_parens.proofs.Demands.{tree_answers, grow_builds, growth_demand}
use Rattle.mission.specs.Allowed.{counts_in, catalogue, node_in, edge_to, FirstChild, NextSibling, Asks, Label}
use Rattle.mission.specs.Mission.{TreeAsked, GrowthAsked}
use Rattle.mission.proofs.Lent.{walk_lent, label_lent, leaves_lent, nodes_lent, size_lent}
use Rattle.std.specs.Prelude.{Some, None, Result, Ok, Err}
use Rattle.std.specs.Prelude as prelude
use Rattle.refusal.specs.Said.{said_number}
use Rattle.refusal.specs.declared.Refusal.{Refusal}
use Rattle.record.specs.declared.Counts.{Counts}
use Rattle.questions.specs.declared.Edge.{Edge}

-- ---- build, and a question

same_tree : (s t : Tree) → ◌≡◌ {A = Answer Tree} (is s) (is t) → s ≡ t
same_tree s t e = cc

-- the record of a tree that was made says it
counts_tree : (r : Made) (t : Tree) → said r ≡ is t → tree_in (counts_in r) ≡ t
counts_tree (Ok c) t e = same_tree (tree_in c) t e
counts_tree (Err x) t e = absurd cc

module _ (vs bs : List ℕ) (a z : Lent) (r : Made) (b : Builds vs bs a z r) (acc : Accepted vs bs (rooms_of a)) where
  tells : Says (tree_of vs) (lent_of vs bs (rooms_of a)) (zeroed (rooms_of a)) z r (refusal vs bs (rooms_of a))
  unfolding build
  tells = says (tree_of vs) (lent_of vs bs (rooms_of a)) (zeroed (rooms_of a)) z r (refusal vs bs (rooms_of a)) b.outcome

  tree : tree_in (counts_in r) ≡ tree_of vs
  tree = counts_tree r (tree_of vs) (tells.tree ((accepted_exactly vs bs (rooms_of a)).1 acc))

  areas : z ≡ lent_of vs bs (rooms_of a)
  areas = tells.areas ((accepted_exactly vs bs (rooms_of a)).1 acc)

  -- the two questions of a node of the string
  child_is : (n : child.Node) (x : Result (prelude.Option Edge) Refusal) → IsNode (string vs) n → FirstChild r z (node_in n) x → said_edge x ≡ edge_of bs (child.child (string vs) n)
  child_is n x i f =
      first_child_matches vs bs (rooms_of a) acc (counts_in r) tree (node_in n) i x (f ∙ ap (λ y. first_child (tree_in (counts_in r)) (catalogue y) n) areas)

  sibling_is : (n : child.Node) (x : Result (prelude.Option Edge) Refusal) → IsNode (string vs) n → NextSibling r z (node_in n) x → said_edge x ≡ edge_of bs (next (string vs) n)
  sibling_is n x i f =
      next_sibling_matches vs bs (rooms_of a) acc (counts_in r) tree (node_in n) i x (f ∙ ap (λ y. next_sibling (tree_in (counts_in r)) (catalogue y) n) areas)

  pub asked_is : (q : Question) (x : Result (prelude.Option Edge) Refusal) → IsNode (string vs) (asked q) → Asks r z q x → said_edge x ≡ edge_of bs (answer (plain (string vs)) q)
  unfolding asked answer
  asked_is (child_of n) x i f = child_is n x i f
  asked_is (sibling_of n) x i f = sibling_is n x i f

  -- an edge to the node of list place k, and none
  leads : (x : Result (prelude.Option Edge) Refusal) (k : ℕ) (o : Option child.Node) → said_edge x ≡ edge_of bs o → o ≡ some (node_at vs k)
      → x ≡ edge_to (node_in (node_at vs k)) (get_or bs k 0)
  unfolding edge_of node_at
  leads x k o e f = edges_agree x (edge_to (node_in (node_at vs k)) (get_or bs k 0)) (e ∙ ap (edge_of bs) f)

  ends : (x : Result (prelude.Option Edge) Refusal) (o : Option child.Node) → said_edge x ≡ edge_of bs o → o ≡ none → x ≡ (Ok None)
  unfolding edge_of
  ends x o e f = edges_agree x (Ok None) (e ∙ ap (edge_of bs) f)

  -- a number: the areas and the record in the place of what is lent
  numbers : (x : Result ℕ Refusal) (n : ℕ) (f : Tree → Lent → Answer ℕ) → ((t : Tree) (y : Lent) → f t (catalogue y) ≡ f t y) → said_number x ≡ f (tree_in (counts_in r)) (catalogue z)
      → f (tree_in (counts_in r)) z ≡ is n → x ≡ Ok n
  numbers x n f l e h = numbers_agree x (Ok n) (e ∙ l (tree_in (counts_in r)) z ∙ h)

  -- the demand's own answers
  abbrev own : Answered vs bs (tree_at r z)
  own = (tree_answers vs bs a z r b acc).answered

  own_tree : own.tree ≡ tree_in (counts_in r)
  own_tree = sym (counts_tree r own.tree own.built)

  label_is : (k : ℕ) (x : Result (prelude.Option ℕ) Refusal) → k < length vs → Label r z (node_in (node_at vs k)) x → x ≡ Ok (Some (get_or bs k 0))
  unfolding label_in label_of lent_of filled provided tree_of node_at
  label_is k x h f =
      labels_agree x (Ok (Some (get_or bs k 0)))
      (f ∙ label_lent (tree_in (counts_in r)) z (node_at vs k) ∙ ap (λ t. label_in t z (node_at vs k)) tree ∙ ap (λ y. label_in (tree_of vs) y (node_at vs k)) areas
      ∙ if_none _ _ (asked_none vs bs (rooms_of a) acc (node_at vs k) (node_of_lem vs acc.rule k h))
      ∙ ap (λ t. provided t broken (is (get_or (filled (rooms_of a).labels bs) k 0))) (lt-ltb k (length vs) h)
      ∙ ap is (get_or-append bs (replicate ((rooms_of a).labels - length bs) 0) 0 k (omega (arith, acc.same))))

  -- Demand 2
  pub tree_asked : TreeAsked vs bs z r
  tree_asked =
      record {
        close = λ p x o f. get_close_matches vs bs (rooms_of a) acc (counts_in r) tree p o x (f ∙ ap (λ y. close_in (tree_in (counts_in r)) (catalogue y) p) areas);
        walk = λ us cs s us' cs' s' x h i j f.
            walks_agree _ x (Ok (length vs)) us' (filled (length us) vs) cs' (filled (length cs) bs) s' (replicate (length s) 0)
            (f ∙ ap (λ y. walking.walking (tree_in (counts_in r)) (catalogue y) (walk.rooms_at us cs s)) areas
            ∙ walk_lent (tree_in (counts_in r)) (lent_of vs bs (rooms_of a)) (walk.rooms_at us cs s)
            ∙ ap (λ y. walking.walking y (lent_of vs bs (rooms_of a)) (walk.rooms_at us cs s)) tree)
            (sym (walk_returns vs bs (rooms_of a) acc (walk.rooms_at us cs s) h i j));
        child = λ k x h i f. leads x (suc k) _ (child_is (node_at vs k) x (node_of_lem vs acc.rule k h) f) ((kin vs acc.rule k h).kid i);
        no_child = λ k x h i f. ends x _ (child_is (node_at vs k) x (node_of_lem vs acc.rule k h) f) ((kin vs acc.rule k h).no_kid i);
        sibling = λ k x h i f. leads x _ _ (sibling_is (node_at vs k) x (node_of_lem vs acc.rule k h) f) ((kin vs acc.rule k h).sib i);
        no_sibling = λ k x h i f. ends x _ (sibling_is (node_at vs k) x (node_of_lem vs acc.rule k h) f) ((kin vs acc.rule k h).no_sib i);
        root_child = λ x h f. leads x 0 _ (child_is root x (root_kin vs acc.rule).is f) ((root_kin vs acc.rule).kid h);
        root_no_child = λ x h f. ends x _ (child_is root x (root_kin vs acc.rule).is f) ((root_kin vs acc.rule).no_kid h);
        root_no_sibling = λ x f. ends x _ (sibling_is root x (root_kin vs acc.rule).is f) (root_kin vs acc.rule).no_sib;
        label = label_is;
        nodes = λ x f. numbers x _ nodes_in nodes_lent f (ap (λ t. nodes_in t z) (sym own_tree) ∙ own.nodes);
        size = λ x f. numbers x _ bytes_held size_lent f (ap (λ t. bytes_held t z) (sym own_tree) ∙ own.size);
        leaves = λ k x h f.
            numbers x _ (λ t y. leaves_below t y (node_at vs k)) (λ t y. leaves_lent t y (node_at vs k)) f
            (ap (λ t. leaves_below t z (node_at vs k)) (sym own_tree) ∙ own.leaves k h);
        root_leaves = λ x f.
            numbers x _ (λ t y. leaves_below t y root) (λ t y. leaves_lent t y root) f (ap (λ t. leaves_below t z root) (sym own_tree) ∙ own.root_leaves);
      }

-- ---- build, growth, and a question

-- by the questions themselves, which do not look at scratch
asked_of : (r : Made) (z : Lent) (q : Question) (x : Result (prelude.Option Edge) Refusal) → Asks r z q x → said_edge x ≡ edge_in (tree_in (counts_in r)) z q
unfolding edge_in
asked_of r z (child_of n) x f = f ∙ child_lent (tree_in (counts_in r)) z n
asked_of r z (sibling_of n) x f = f ∙ sibling_lent (tree_in (counts_in r)) z n

heard_edge : (bs : List ℕ) (o : Option child.Node) → heard (edge_of bs o) ≡ o
unfolding edge_of heard
heard_edge bs none = refl
heard_edge bs (some m) = refl

heard_of : (t : Tree) (z : Lent) (q : Question) → answer (asking t z) q ≡ heard (edge_in t z q)
unfolding edge_in answer
heard_of t z (child_of n) = refl
heard_of t z (sibling_of n) = refl

module _ (vs bs : List ℕ) (v b : ℕ) (a z₁ : Lent) (c₁ : Counts) (acc : Accepted vs bs (rooms_of a)) (p₁ : Builds vs bs a z₁ (Ok c₁))
    (z₂ : Lent) (r₂ : Made) (p₂ : GrowsTo c₁ v b z₁ z₂ r₂) (acc⁺ : Accepted (vs ++ v ∷ []) (bs ++ b ∷ []) (rooms_of a)) where
  p₃ : Builds (vs ++ v ∷ []) (bs ++ b ∷ []) a z₂ r₂
  p₃ = grow_builds vs bs v b a z₁ c₁ acc p₁ z₂ r₂ p₂ acc⁺

  g : Grows vs bs v b (tree_at (Ok c₁) z₁) (tree_at r₂ z₂) (tree_at r₂ z₂)
  g = (growth_demand vs bs v b a z₁ c₁ acc p₁ z₂ r₂ p₂ a z₂ r₂ refl p₃ acc⁺).answers

  was : (q : Question) (x : Result (prelude.Option Edge) Refusal) → Asks (Ok c₁) z₁ q x → said_edge x ≡ edge_in g.old z₁ q
  was q x f = asked_of (Ok c₁) z₁ q x f ∙ ap (λ t. edge_in t z₁ q) (counts_tree (Ok c₁) g.old g.was)

  is_now : (q : Question) (x : Result (prelude.Option Edge) Refusal) → Asks r₂ z₂ q x → said_edge x ≡ edge_in g.new z₂ q
  is_now q x f = asked_of r₂ z₂ q x f ∙ ap (λ t. edge_in t z₂ q) (counts_tree r₂ g.new g.now)

  abbrev grew : AnswersGrow vs v (string vs) (string (vs ++ v ∷ [])) (asking g.old z₁) (asking g.new z₂)
  grew = g.answers

  new_label : get_or (bs ++ b ∷ []) (pred grew.new.id) 0 ≡ b
  new_label =
      let u : pred grew.new.id ≡ length bs + 0 = omega (arith, grew.id, acc.same) in
      ap (λ i. get_or (bs ++ b ∷ []) i 0) u ∙ get_or-append-add bs (b ∷ []) 0 0

  -- where it was nothing
  none_there : (x : Result (prelude.Option Edge) Refusal) → Asks (Ok c₁) z₁ grew.changed x → x ≡ (Ok None)
  none_there x f =
      let e = asked_is vs bs a z₁ (Ok c₁) p₁ acc grew.changed x grew.older f in
      ends vs bs a z₁ (Ok c₁) p₁ acc x (answer (plain (string vs)) grew.changed) e
      (sym (heard_edge bs (answer (plain (string vs)) grew.changed)) ∙ ap heard (sym e ∙ was grew.changed x f)
      ∙ sym (heard_of g.old z₁ grew.changed) ∙ grew.before)

  -- it is the new node
  new_there : (x : Result (prelude.Option Edge) Refusal) → Asks r₂ z₂ grew.changed x → x ≡ edge_to (node_in grew.new) b
  unfolding edge_of
  new_there x f =
      let o = answer (plain (string (vs ++ v ∷ []))) grew.changed in
      let e = asked_is (vs ++ v ∷ []) (bs ++ b ∷ []) a z₂ r₂ p₃ acc⁺ grew.changed x (grew.kept (asked grew.changed) grew.older) f in
      let h : o ≡ some grew.new =
      sym (heard_edge (bs ++ b ∷ []) o) ∙ ap heard (sym e ∙ is_now grew.changed x f) ∙ sym (heard_of g.new z₂ grew.changed) ∙ grew.now in
      edges_agree x (edge_to (node_in grew.new) b) (e ∙ ap (edge_of (bs ++ b ∷ [])) h ∙ ap (edge grew.new) new_label)

  -- Demand 3
  pub growth_asked : GrowthAsked vs v b z₁ z₂ (Ok c₁) r₂
  growth_asked =
      record {
        changed = grew.changed;
        older = grew.older;
        which = grew.which;
        new = grew.new;
        id = grew.id;
        before = none_there;
        now = new_there;
        others = λ q i n x y f h. edges_agree x y (was q x f ∙ sym (g.others q i n) ∙ sym (is_now q y h));
      }
