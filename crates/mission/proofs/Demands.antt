-- THE END: the demands, from the contracts of build, growth and the questions alone.
use mathlib.Core.Path.{◌≡◌, sym, ap, ◌∙◌}
use mathlib.Core.List.{List, [], ◌∷◌, ◌++◌}
use Prim.Native.Nat.{ℕ, ◌<◌}
use lib.ListN.{length, get_or, replicate}
use Rattle.meaning.specs.Answers.{Answer, is}
use Rattle.meaning.specs.String.{string}
use Rattle.meaning.specs.Child as child
use Rattle.meaning.specs.Child.{IsNode, root}
use Rattle.meaning.specs.Walking.{walking}
use Rattle.meaning.specs.Kin.{node_at}
use Rattle.meaning.specs.Areas.{filled}
use Rattle.meaning.specs.Refusals.{Accepted}
use Rattle.meaning.specs.Build.{Lent, Tree, rooms_of}
use Rattle.meaning.specs.Change.{Question, child_of, sibling_of}
use Rattle.meaning.specs.Questions.{close_in, first_child, next_sibling, label_in, leaves_below, nodes_in, bytes_held}
use Rattle.meaning.specs.Demands.{Answered, AnsweredLabels, edge_in, GrowsLabels}
use Rattle.meaning.proofs.Enclosed.{encloses_exactly}
use Rattle.meaning.proofs.Kin.{node_of_lem}
use Rattle.record.specs.Record.{tree_in}
use Rattle.closes.proofs.Agree.{closes_agree}
use Rattle.questions.specs.Said.{said_edge}
use Rattle.questions.proofs.Agree.{edges_agree, labels_agree, numbers_agree}
use Rattle.questions.proofs.Built.{child_lent, sibling_lent}
use Rattle.walk.specs.Said as walk
use Rattle.walk.proofs.Agree.{walks_agree}
use Rattle.balanced_parens.specs.Contract.{Builds, GrowsTo}
use Rattle.balanced_parens.specs.Said.{said}
use Rattle.balanced_parens.specs.Demands.{Made, tree_at}
use Rattle.balanced_parens.proofs.Demands.{built_made, tree_labels, grow_builds, growth_equal, growth_labels}
use Rattle.mission.specs.Allowed.{counts_in, catalogue, node_in, edge_to, FirstChild, NextSibling, Asks, Label, LeafCount}
use Rattle.mission.specs.Demands.{SecondDemand, ThirdDemand}
use Rattle.mission.proofs.Lent.{close_lent, walk_lent, label_lent, leaves_lent, nodes_lent, size_lent}
use Rattle.std.specs.Prelude.{Some, None, Result, Ok, Err}
use Rattle.std.specs.Prelude as prelude
use Rattle.refusal.specs.Said.{said_number, found_number}
use Rattle.refusal.specs.declared.Refusal.{Refusal}
use Rattle.record.specs.declared.Counts.{Counts}
use Rattle.questions.specs.declared.Edge.{Edge}

-- ---- build, and a question

same_tree : (s t : Tree) → ◌≡◌ {A = Answer Tree} (is s) (is t) → s ≡ t
same_tree s t e = cc

-- the record of a tree that was made says it
counts_tree : (r : Made) (t : Tree) → said r ≡ is t → tree_in (counts_in r) ≡ t
counts_tree (Ok c) t e = same_tree (tree_in c) t e
counts_tree (Err x) t e = absurd cc

module _ (vs bs : List ℕ) (a z : Lent) (r : Made) (b : Builds vs bs a z r) (acc : Accepted vs bs (rooms_of a)) where
  abbrev with_labels : AnsweredLabels vs bs (tree_at r z)
  with_labels = tree_labels vs bs a z r b acc

  abbrev own : Answered vs bs (tree_at r z)
  own = with_labels.answered

  tree : tree_in (counts_in r) ≡ own.tree
  tree = counts_tree r own.tree own.built

  -- an answer s to a question f is that of the tree, and of all six areas: no question looks at scratch
  of_tree : {A : Type 0} (f : Tree → Lent → Answer A) → ((t : Tree) (y : Lent) → f t (catalogue y) ≡ f t y) → (s u : Answer A)
      → s ≡ f (tree_in (counts_in r)) (catalogue z) → f own.tree z ≡ u → s ≡ u
  of_tree f l s u e h = e ∙ l (tree_in (counts_in r)) z ∙ ap (λ t. f t z) tree ∙ h

  -- so of each question, y being what it answers
  child_is : (n : child.Node) (x y : Result (prelude.Option Edge) Refusal) → FirstChild r z (node_in n) x → first_child own.tree z n ≡ said_edge y → x ≡ y
  child_is n x y f e = edges_agree x y (of_tree (λ t c. first_child t c n) (λ t c. child_lent t c n) (said_edge x) (said_edge y) f e)

  sibling_is : (n : child.Node) (x y : Result (prelude.Option Edge) Refusal) → NextSibling r z (node_in n) x → next_sibling own.tree z n ≡ said_edge y → x ≡ y
  sibling_is n x y f e = edges_agree x y (of_tree (λ t c. next_sibling t c n) (λ t c. sibling_lent t c n) (said_edge x) (said_edge y) f e)

  label_is : (n : child.Node) (x y : Result (prelude.Option ℕ) Refusal) → Label r z (node_in n) x → label_in own.tree z n ≡ found_number y → x ≡ y
  label_is n x y f e = labels_agree x y (of_tree (λ t c. label_in t c n) (λ t c. label_lent t c n) (found_number x) (found_number y) f e)

  leaves_are : (n : child.Node) (x y : Result ℕ Refusal) → LeafCount r z (node_in n) x → leaves_below own.tree z n ≡ said_number y → x ≡ y
  leaves_are n x y f e = numbers_agree x y (of_tree (λ t c. leaves_below t c n) (λ t c. leaves_lent t c n) (said_number x) (said_number y) f e)

  -- Demand 2
  pub second_demand : SecondDemand vs bs z r
  second_demand =
      record {
        made = built_made vs bs a z r b acc;
        close = λ p x o f.
            let m = own.close p o in (
              m.0,
              closes_agree x (Ok m.0) (of_tree (λ t c. close_in t c p) (λ t c. close_lent t c p) (said_number x) (is m.0) f m.1),
              m.2,
              (encloses_exactly (string vs) p m.0).0 m.2,
            );
        walk = λ us cs s us' cs' s' x h i j f.
            walks_agree _ x (Ok (length vs)) us' (filled (length us) vs) cs' (filled (length cs) bs) s' (replicate (length s) 0)
            (f ∙ walk_lent (tree_in (counts_in r)) z (walk.rooms_at us cs s) ∙ ap (λ t. walking t z (walk.rooms_at us cs s)) tree)
            (sym (own.walk (walk.rooms_at us cs s) h i j));
        child = λ k x h i f. child_is (node_at vs k) x _ f (own.child k h i);
        no_child = λ k x h i f. child_is (node_at vs k) x (Ok None) f (own.no_child k h i);
        sibling = λ k x h i f. sibling_is (node_at vs k) x _ f (own.sibling k h i);
        no_sibling = λ k x h i f. sibling_is (node_at vs k) x (Ok None) f (own.no_sibling k h i);
        root_child = λ x h f. child_is root x _ f (own.root_child h);
        root_no_child = λ x h f. child_is root x (Ok None) f (own.root_no_child h);
        root_no_sibling = λ x f. sibling_is root x (Ok None) f own.root_no_sibling;
        label = λ k x h f. label_is (node_at vs k) x (Ok (Some (get_or bs k 0))) f (with_labels.label k h);
        root_label = λ x f. label_is root x (Ok None) f with_labels.root_label;
        nodes = λ x f. numbers_agree x (Ok (length vs)) (of_tree nodes_in nodes_lent (said_number x) (is (length vs)) f own.nodes);
        size = λ x f. numbers_agree x _ (of_tree bytes_held size_lent (said_number x) _ f own.size);
        leaves = λ k x h f. leaves_are (node_at vs k) x _ f (own.leaves k h);
        root_leaves = λ x f. leaves_are root x _ f own.root_leaves;
      }

-- ---- build, growth, and a question

-- by the questions themselves, which do not look at scratch
asked_of : (r : Made) (z : Lent) (q : Question) (x : Result (prelude.Option Edge) Refusal) → Asks r z q x → said_edge x ≡ edge_in (tree_in (counts_in r)) z q
unfolding edge_in
asked_of r z (child_of n) x f = f ∙ child_lent (tree_in (counts_in r)) z n
asked_of r z (sibling_of n) x f = f ∙ sibling_lent (tree_in (counts_in r)) z n

module _ (vs bs : List ℕ) (v b : ℕ) (a z₁ : Lent) (c₁ : Counts) (acc : Accepted vs bs (rooms_of a)) (p₁ : Builds vs bs a z₁ (Ok c₁))
    (z₂ : Lent) (r₂ : Made) (p₂ : GrowsTo c₁ v b z₁ z₂ r₂)
    (a' z₃ : Lent) (r₃ : Made) (e : rooms_of a' ≡ rooms_of a) (p₃ : Builds (vs ++ v ∷ []) (bs ++ b ∷ []) a' z₃ r₃)
    (acc⁺ : Accepted (vs ++ v ∷ []) (bs ++ b ∷ []) (rooms_of a)) where
  abbrev same : (r₂ ≡ r₃) × (z₂ ≡ z₃)
  same = growth_equal vs bs v b a z₁ c₁ acc p₁ z₂ r₂ p₂ a' z₃ r₃ e p₃ acc⁺

  abbrev g : GrowsLabels vs bs v b (tree_at (Ok c₁) z₁) (tree_at r₂ z₂) (tree_at r₃ z₃)
  g = growth_labels vs bs v b a z₁ c₁ acc p₁ z₂ r₂ p₂ a' z₃ r₃ e p₃ acc⁺

  old : tree_in c₁ ≡ g.old
  old = counts_tree (Ok c₁) g.old g.was

  new : tree_in (counts_in r₂) ≡ g.new
  new = counts_tree r₂ g.new g.now

  was : (q : Question) (x : Result (prelude.Option Edge) Refusal) → Asks (Ok c₁) z₁ q x → said_edge x ≡ edge_in g.old z₁ q
  was q x f = asked_of (Ok c₁) z₁ q x f ∙ ap (λ t. edge_in t z₁ q) old

  is_now : (q : Question) (x : Result (prelude.Option Edge) Refusal) → Asks r₂ z₂ q x → said_edge x ≡ edge_in g.new z₂ q
  is_now q x f = asked_of r₂ z₂ q x f ∙ ap (λ t. edge_in t z₂ q) new

  label_same : (n : child.Node) → IsNode (string vs) n → label_in (tree_in (counts_in r₂)) z₂ n ≡ label_in (tree_in c₁) z₁ n
  label_same n i = ap (λ t. label_in t z₂ n) new ∙ g.labels n i ∙ sym (ap (λ t. label_in t z₁ n) old)

  own_before : (k : ℕ) → k < length vs → label_in (tree_in c₁) z₁ (node_at vs k) ≡ is (get_or bs k 0)
  own_before k h = ap (λ t. label_in t z₁ (node_at vs k)) (tree vs bs a z₁ (Ok c₁) p₁ acc) ∙ (with_labels vs bs a z₁ (Ok c₁) p₁ acc).label k h

  -- Demand 3
  pub third_demand : ThirdDemand vs bs v b z₁ z₂ z₃ (Ok c₁) r₂ r₃
  third_demand =
      let grew = g.answers in
      record {
        made = built_made (vs ++ v ∷ []) (bs ++ b ∷ []) a z₂ r₂ (grow_builds vs bs v b a z₁ c₁ acc p₁ z₂ r₂ p₂ acc⁺) acc⁺;
        areas = same.1;
        counts = same.0;
        changed = grew.changed;
        older = grew.older;
        others = λ q i n x y f h. edges_agree y x (is_now q y h ∙ grew.others q i n ∙ sym (was q x f));
        which = grew.which;
        new = grew.new;
        place = grew.place;
        id = grew.id;
        now = λ x f. edges_agree x (edge_to (node_in grew.new) b) (is_now grew.changed x f ∙ grew.now);
        before = λ x f. edges_agree x (Ok None) (was grew.changed x f ∙ grew.before);
        kept = grew.kept;
        added = grew.added;
        only = grew.only;
        labels = λ n i x y f h.
            labels_agree y x
            (h ∙ label_lent (tree_in (counts_in r₂)) z₂ n ∙ label_same n i ∙ sym (f ∙ label_lent (tree_in c₁) z₁ n));
        own_label = λ k y h f.
            labels_agree y (Ok (Some (get_or bs k 0)))
            (f ∙ label_lent (tree_in (counts_in r₂)) z₂ (node_at vs k) ∙ label_same (node_at vs k) (node_of_lem vs acc.rule k h) ∙ own_before k h);
      }
