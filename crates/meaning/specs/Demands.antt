-- The demands, about outcomes: what a call answered and left in the areas.
use Rattle.std.specs.Prelude.{◌≡◌, true, false, List, [], ◌∷◌, ◌++◌, ℕ, suc, ◌+◌, ◌*◌, ◌≤◌, ◌<◌, length, get_or, replicate}
use Rattle.meaning.specs.Answers.{Answer, is, nothing, refused}
use Rattle.meaning.specs.Bits.{tab}
use Rattle.meaning.specs.String.{string}
use Rattle.meaning.specs.Match.{IsClose}
use Rattle.meaning.specs.Family.{tower}
use Rattle.meaning.specs.Child.{Node, IsNode, root}
use Rattle.meaning.specs.Kin.{node_at, below, HasLevel}
use Rattle.meaning.specs.Size.{byte_size}
use Rattle.meaning.specs.Leaves.{childless}
use Rattle.meaning.specs.Areas.{filled}
use Rattle.meaning.specs.Build.{Lent, Tree, After}
use Rattle.meaning.specs.Growth.{grow}
use Rattle.meaning.specs.Questions.{Edge, edge, close_in, first_child, next_sibling, label_in, leaves_below, nodes_in, bytes_held, asking}
use Rattle.meaning.specs.Walking.{WalkRooms, walking}
use Rattle.meaning.specs.Change.{Question, child_of, sibling_of, asked, AnswersGrow, EdgesGrow}

-- Demand 2, of the outcome o of building an accepted list: levels vs, labels bs
pub record Answered (vs bs : List ℕ) (o : After) : Type 0 where
  pub tree : Tree
  pub built : o.reply ≡ is tree
  -- "the close found for an open is its matching close as Geary, Rahman, Raman and Raman define it"
  pub close : (p : ℕ) → get_or (string vs) p false ≡ true → (c : ℕ) × (close_in tree o.areas p ≡ is c) × IsClose (string vs) p c
  -- "walking the built tree returns exactly the levels and labels it was built from"
  pub walk : (w : WalkRooms) → 2 * length vs + 2 ≤ w.scratch → length vs ≤ w.levels → length vs ≤ w.labels
      → walking tree o.areas w
      ≡ record {
        answer = is (length vs);
        levels = filled w.levels vs;
        labels = filled w.labels bs;
        scratch = replicate w.scratch 0;
      }
  -- "Node id is k + 1": node k has its first child at the next node if that is one level deeper, and its next sibling at the first node
  -- after those below it if that has the same level, each with its own label
  pub child : (k : ℕ) → k < length vs → HasLevel vs (suc k) (suc (get_or vs k 0))
      → first_child tree o.areas (node_at vs k) ≡ edge (node_at vs (suc k)) (get_or bs (suc k) 0)
  pub no_child : (k : ℕ) → k < length vs → ¬ (HasLevel vs (suc k) (suc (get_or vs k 0))) → first_child tree o.areas (node_at vs k) ≡ nothing
  pub sibling : (k : ℕ) → k < length vs → HasLevel vs (suc k + below vs k) (get_or vs k 0)
      → next_sibling tree o.areas (node_at vs k) ≡ edge (node_at vs (suc k + below vs k)) (get_or bs (suc k + below vs k) 0)
  pub no_sibling : (k : ℕ) → k < length vs → ¬ (HasLevel vs (suc k + below vs k) (get_or vs k 0))
      → next_sibling tree o.areas (node_at vs k) ≡ nothing
  -- "the root is id 0": its first child is node 0, if the list is not empty
  pub root_child : 0 < length vs → first_child tree o.areas root ≡ edge (node_at vs 0) (get_or bs 0 0)
  pub root_no_child : length vs ≡ 0 → first_child tree o.areas root ≡ nothing
  pub root_no_sibling : next_sibling tree o.areas root ≡ nothing
  -- the number of nodes, the byte size of the size rule, and "the nodes without children strictly below a node"
  pub nodes : nodes_in tree o.areas ≡ is (length vs)
  pub size : bytes_held tree o.areas ≡ is (byte_size (tower 4 (string vs)) (length vs))
  pub leaves : (k : ℕ) → k < length vs
      → leaves_below tree o.areas (node_at vs k) ≡ is (childless (string vs) (tab (node_at vs) (suc k) (below vs k)))
  pub root_leaves : leaves_below tree o.areas root ≡ is (childless (string vs) (tab (node_at vs) 0 (length vs)))

-- and the label of each node: "Node id is k + 1 and its label is label k; the root is id 0", which has none
pub record AnsweredLabels (vs bs : List ℕ) (o : After) : Type 0 where
  pub answered : Answered vs bs o
  pub label : (k : ℕ) → k < length vs → label_in answered.tree o.areas (node_at vs k) ≡ is (get_or bs k 0)
  pub root_label : label_in answered.tree o.areas root ≡ nothing

-- growing what an outcome left; a refused one has no tree to grow
unfoldable pub grow_on : After → ℕ → ℕ → After
grow_on o v b = elim o.reply [ is t ↦ grow t o.areas v b | nothing ↦ o | refused r ↦ o ]

-- one node after another
unfoldable pub growths : After → List ℕ → List ℕ → After
growths o [] bs = o
growths o (v ∷ vs) [] = o
growths o (v ∷ vs) (b ∷ bs) = growths (grow_on o v b) vs bs

-- the edge that a question is answered with
unfoldable pub edge_in : Tree → Lent → Question → Answer Edge
edge_in t a (child_of n) = first_child t a n
edge_in t a (sibling_of n) = next_sibling t a n

-- `first` is the outcome of building the list of levels vs and labels bs, `grew` of growing that by level v and label b, and `fresh` of
-- building the longer list in the same areas
pub record Grows (vs bs : List ℕ) (v b : ℕ) (first grew fresh : After) : Type 0 where
  -- "Growing a tree by one node leaves every catalogue area and the record of counts as building the longer list afresh does"
  pub same : grew ≡ fresh
  pub old : Tree
  pub new : Tree
  pub was : first.reply ≡ is old
  pub now : grew.reply ≡ is new
  -- "and of all older nodes' first-child and next-sibling answers exactly one differs: the new node becomes first child of the last one
  -- (the root, if the list was empty), or next sibling of the last node at its level, where there was none"
  pub answers : AnswersGrow vs v (string vs) (string (vs ++ v ∷ [])) (asking old first.areas) (asking new grew.areas)
  -- "No older id or label moves": every other question is answered with the same node and the same label
  pub others : (q : Question) → IsNode (string vs) (asked q) → ¬ (q ≡ answers.changed) → edge_in new grew.areas q ≡ edge_in old first.areas q

-- the same with the answers to the two questions, their labels among them, in one piece, and with the label of each older node as it was
pub record GrowsLabels (vs bs : List ℕ) (v b : ℕ) (first grew fresh : After) : Type 0 where
  -- "Growing the first tree leaves every catalogue area, and the record of counts, as building the second afresh does."
  pub same : grew ≡ fresh
  pub old : Tree
  pub new : Tree
  pub was : first.reply ≡ is old
  pub now : grew.reply ≡ is new
  -- "Of the first-child and next-sibling answers of all older nodes, the root included, one differs: the new node becomes first child of the last
  -- one (the root, if the list was empty), or next sibling of the last node at its level, where there was none. No older id or label moves."
  pub answers : EdgesGrow vs v b (string vs) (string (vs ++ v ∷ [])) (edge_in old first.areas) (edge_in new grew.areas)
  pub labels : (n : Node) → IsNode (string vs) n → label_in new grew.areas n ≡ label_in old first.areas n
