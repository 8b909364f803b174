-- THE DEMANDS, of all that the code may answer: build, growth of what that left, and then a question to what either left. The words in
-- quotation marks are the demands', or 01's where the line says so.
use Rattle.std.specs.Prelude.{◌≡◌, true, false, ◌⊎◌, List, [], ◌∷◌, ◌++◌, ℕ, suc, ◌+◌, ◌*◌, ◌≤◌, ◌<◌, length, get_or, replicate, Option, Some, None, Result, Ok, is_ok}
use Rattle.meaning.specs.String.{string}
use Rattle.meaning.specs.Match.{IsClose}
use Rattle.meaning.specs.Balance.{Encloses}
use Rattle.meaning.specs.Child as child
use Rattle.meaning.specs.Child.{IsNode, root}
use Rattle.meaning.specs.Kin.{node_at, below, HasLevel}
use Rattle.meaning.specs.Bits.{tab}
use Rattle.meaning.specs.Family.{tower}
use Rattle.meaning.specs.Size.{byte_size}
use Rattle.meaning.specs.Leaves.{childless}
use Rattle.meaning.specs.Areas.{filled}
use Rattle.meaning.specs.Build.{Lent}
use Rattle.meaning.specs.Change.{Question, asked, spot, Changes}
use Rattle.balanced_parens.specs.Demands.{Made}
use Rattle.mission.specs.Allowed.{node_in, edge_to, GetClose, FirstChild, NextSibling, Asks, Label, LeafCount, Nodes, ByteSize, Walks}
use Rattle.refusal.specs.declared.Refusal.{Refusal}
use Rattle.questions.specs.declared.Edge.{Edge}

-- ---- Demand 1: `BuildAnswers` and `GrowthAnswers` in balanced_parens/specs/Demands.antt

-- ---- Demand 2

-- "On every list that 01 accepts, the answers equal the Rust's, or the paper's where 01 lets the paper decide, shown by differential
-- runs.": here, that they are those of the list. A build of the levels vs and the labels bs answered r and left z
pub record SecondDemand (vs bs : List ℕ) (z : Lent) (r : Made) : Type 0 where
  pub made : is_ok r ≡ true
  -- "Proved besides: the close found for an open is its matching close as Geary, Rahman, Raman and Raman define it,": the smallest place
  -- after the open with as many opens as closes up to it, and in the paper's own form the close with a balanced string between the two
  pub close : (p : ℕ) (x : Result ℕ Refusal) → get_or (string vs) p false ≡ true → GetClose r z p x
      → (c : ℕ) × (x ≡ Ok c) × IsClose (string vs) p c × Encloses (string vs) p c
  -- "and walking the built tree returns exactly the levels and labels it was built from."
  pub walk : (us cs s us' cs' s' : List ℕ) (x : Result ℕ Refusal) → 2 * length vs + 2 ≤ length s → length vs ≤ length us → length vs ≤ length cs
      → Walks r z us cs s us' cs' s' x
      → (x ≡ Ok (length vs)) × (us' ≡ filled (length us) vs) × (cs' ≡ filled (length cs) bs) × (s' ≡ replicate (length s) 0)
  -- "the answers": node k has its first child at the next node if that is one level deeper,
  pub child : (k : ℕ) (x : Result (Option Edge) Refusal) → k < length vs → HasLevel vs (suc k) (suc (get_or vs k 0)) → FirstChild r z (node_in (node_at vs k)) x
      → x ≡ edge_to (node_in (node_at vs (suc k))) (get_or bs (suc k) 0)
  pub no_child : (k : ℕ) (x : Result (Option Edge) Refusal) → k < length vs → ¬ (HasLevel vs (suc k) (suc (get_or vs k 0))) → FirstChild r z (node_in (node_at vs k)) x
      → x ≡ Ok None
  -- and its next sibling at the first node after those below it if that has the same level
  pub sibling : (k : ℕ) (x : Result (Option Edge) Refusal) → k < length vs → HasLevel vs (suc k + below vs k) (get_or vs k 0) → NextSibling r z (node_in (node_at vs k)) x
      → x ≡ edge_to (node_in (node_at vs (suc k + below vs k))) (get_or bs (suc k + below vs k) 0)
  pub no_sibling : (k : ℕ) (x : Result (Option Edge) Refusal) → k < length vs → ¬ (HasLevel vs (suc k + below vs k) (get_or vs k 0)) → NextSibling r z (node_in (node_at vs k)) x
      → x ≡ Ok None
  -- the root has the first node as its first child, if there is one, and no sibling
  pub root_child : (x : Result (Option Edge) Refusal) → 0 < length vs → FirstChild r z (node_in root) x → x ≡ edge_to (node_in (node_at vs 0)) (get_or bs 0 0)
  pub root_no_child : (x : Result (Option Edge) Refusal) → length vs ≡ 0 → FirstChild r z (node_in root) x → x ≡ Ok None
  pub root_no_sibling : (x : Result (Option Edge) Refusal) → NextSibling r z (node_in root) x → x ≡ Ok None
  -- 01: "Node id is k + 1 and its label is label k; the root is id 0", which has none
  pub label : (k : ℕ) (x : Result (Option ℕ) Refusal) → k < length vs → Label r z (node_in (node_at vs k)) x → x ≡ Ok (Some (get_or bs k 0))
  pub root_label : (x : Result (Option ℕ) Refusal) → Label r z (node_in root) x → x ≡ Ok None
  -- the number of nodes, the byte size of the size rule, and, 01: "the nodes without children strictly below a node"
  pub nodes : (x : Result ℕ Refusal) → Nodes r z x → x ≡ Ok (length vs)
  pub size : (x : Result ℕ Refusal) → ByteSize r z x → x ≡ Ok (byte_size (tower 4 (string vs)) (length vs))
  pub leaves : (k : ℕ) (x : Result ℕ Refusal) → k < length vs → LeafCount r z (node_in (node_at vs k)) x
      → x ≡ Ok (childless (string vs) (tab (node_at vs) (suc k) (below vs k)))
  pub root_leaves : (x : Result ℕ Refusal) → LeafCount r z (node_in root) x → x ≡ Ok (childless (string vs) (tab (node_at vs) 0 (length vs)))

-- ---- Demand 3

-- "Take an accepted list, and the same list with one node more at its end, accepted too in the same areas.": a build of the first, vs and
-- bs, answered r₁ and left z₁; growth of that by level v and label b answered r₂ and left z₂; a build of the second, in areas of the same
-- lengths, answered r₃ and left z₃
pub record ThirdDemand (vs bs : List ℕ) (v b : ℕ) (z₁ z₂ z₃ : Lent) (r₁ r₂ r₃ : Made) : Type 0 where
  -- "Growing the first tree leaves every catalogue area, and the record of counts, as building the second afresh does.": and scratch, and
  -- the answer
  pub made : is_ok r₂ ≡ true
  pub areas : z₂ ≡ z₃
  pub counts : r₂ ≡ r₃
  -- "Of the first-child and next-sibling answers of all older nodes, the root included, one differs:": that to this question, put to an
  -- older node;
  pub changed : Question
  pub older : IsNode (string vs) (asked changed)
  pub others : (q : Question) → IsNode (string vs) (asked q) → ¬ (q ≡ changed) → (x y : Result (Option Edge) Refusal) → Asks r₁ z₁ q x → Asks r₂ z₂ q y → y ≡ x
  -- "the new node becomes first child of the last one (the root, if the list was empty), or next sibling of the last node at its level,"
  pub which : Changes vs v changed
  pub new : child.Node
  pub place : new.place ≡ spot vs v
  pub id : new.id ≡ suc (length vs)
  pub now : (x : Result (Option Edge) Refusal) → Asks r₂ z₂ changed x → x ≡ edge_to (node_in new) b
  -- "where there was none.": nothing was found, and that is no refusal
  pub before : (x : Result (Option Edge) Refusal) → Asks r₁ z₁ changed x → x ≡ Ok None
  -- "No older id or label moves.": the nodes are the older ones, each with its place and its id, and the new one;
  pub kept : (n : child.Node) → IsNode (string vs) n → IsNode (string (vs ++ v ∷ [])) n
  pub added : IsNode (string (vs ++ v ∷ [])) new
  pub only : (n : child.Node) → IsNode (string (vs ++ v ∷ [])) n → IsNode (string vs) n ⊎ (n ≡ new)
  -- an older node's label is asked for and is what it was, of a node of the list its own
  pub labels : (n : child.Node) → IsNode (string vs) n → (x y : Result (Option ℕ) Refusal) → Label r₁ z₁ (node_in n) x → Label r₂ z₂ (node_in n) y → y ≡ x
  pub own_label : (k : ℕ) (y : Result (Option ℕ) Refusal) → k < length vs → Label r₂ z₂ (node_in (node_at vs k)) y → y ≡ Ok (Some (get_or bs k 0))
