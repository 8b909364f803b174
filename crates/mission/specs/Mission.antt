-- The demands of all that the code may answer: build or growth, and then a question.
use Rattle.std.specs.Prelude.{◌≡◌, true, false, List, ℕ, suc, ◌+◌, ◌*◌, ◌≤◌, ◌<◌, length, get_or, replicate, Option, Some, None, Result, Ok}
use Rattle.meaning.specs.String.{string}
use Rattle.meaning.specs.Match.{IsClose}
use Rattle.meaning.specs.Child as child
use Rattle.meaning.specs.Child.{IsNode, root}
use Rattle.meaning.specs.Kin.{node_at, below, HasLevel}
use Rattle.meaning.specs.Bits.{tab}
use Rattle.meaning.specs.Family.{tower}
use Rattle.meaning.specs.Size.{byte_size}
use Rattle.meaning.specs.Leaves.{childless}
use Rattle.meaning.specs.Areas.{filled}
use Rattle.meaning.specs.Build.{Lent}
use Rattle.meaning.specs.Change.{Question, asked, Changes}
use Rattle.balanced_parens.specs.Demands.{Made}
use Rattle.mission.specs.Allowed.{node_in, edge_to, GetClose, FirstChild, NextSibling, Asks, Label, LeafCount, Nodes, ByteSize, Walks}
use Rattle.refusal.specs.declared.Refusal.{Refusal}
use Rattle.questions.specs.declared.Edge.{Edge}

-- Demand 2. A build of the levels vs and the labels bs answered r and left z
pub record TreeAsked (vs bs : List ℕ) (z : Lent) (r : Made) : Type 0 where
  -- "the close found for an open is its matching close"
  pub close : (p : ℕ) (x : Result ℕ Refusal) → get_or (string vs) p false ≡ true → GetClose r z p x → (c : ℕ) × (x ≡ Ok c) × IsClose (string vs) p c
  -- "walking the built tree returns exactly the levels and labels it was built from"
  pub walk : (us cs s us' cs' s' : List ℕ) (x : Result ℕ Refusal) → 2 * length vs + 2 ≤ length s → length vs ≤ length us → length vs ≤ length cs
      → Walks r z us cs s us' cs' s' x
      → (x ≡ Ok (length vs)) × (us' ≡ filled (length us) vs) × (cs' ≡ filled (length cs) bs) × (s' ≡ replicate (length s) 0)
  -- node k has its first child at the next node if that is one level deeper
  pub child : (k : ℕ) (x : Result (Option Edge) Refusal) → k < length vs → HasLevel vs (suc k) (suc (get_or vs k 0)) → FirstChild r z (node_in (node_at vs k)) x
      → x ≡ edge_to (node_in (node_at vs (suc k))) (get_or bs (suc k) 0)
  pub no_child : (k : ℕ) (x : Result (Option Edge) Refusal) → k < length vs → ¬ (HasLevel vs (suc k) (suc (get_or vs k 0))) → FirstChild r z (node_in (node_at vs k)) x
      → x ≡ Ok None
  -- and its next sibling at the first node after those below it if that has the same level
  pub sibling : (k : ℕ) (x : Result (Option Edge) Refusal) → k < length vs → HasLevel vs (suc k + below vs k) (get_or vs k 0) → NextSibling r z (node_in (node_at vs k)) x
      → x ≡ edge_to (node_in (node_at vs (suc k + below vs k))) (get_or bs (suc k + below vs k) 0)
  pub no_sibling : (k : ℕ) (x : Result (Option Edge) Refusal) → k < length vs → ¬ (HasLevel vs (suc k + below vs k) (get_or vs k 0)) → NextSibling r z (node_in (node_at vs k)) x
      → x ≡ Ok None
  -- "the root is id 0"
  pub root_child : (x : Result (Option Edge) Refusal) → 0 < length vs → FirstChild r z (node_in root) x → x ≡ edge_to (node_in (node_at vs 0)) (get_or bs 0 0)
  pub root_no_child : (x : Result (Option Edge) Refusal) → length vs ≡ 0 → FirstChild r z (node_in root) x → x ≡ Ok None
  pub root_no_sibling : (x : Result (Option Edge) Refusal) → NextSibling r z (node_in root) x → x ≡ Ok None
  -- "its label is label k"
  pub label : (k : ℕ) (x : Result (Option ℕ) Refusal) → k < length vs → Label r z (node_in (node_at vs k)) x → x ≡ Ok (Some (get_or bs k 0))
  -- the number of nodes, the byte size of the size rule, and "the nodes without children strictly below a node"
  pub nodes : (x : Result ℕ Refusal) → Nodes r z x → x ≡ Ok (length vs)
  pub size : (x : Result ℕ Refusal) → ByteSize r z x → x ≡ Ok (byte_size (tower 4 (string vs)) (length vs))
  pub leaves : (k : ℕ) (x : Result ℕ Refusal) → k < length vs → LeafCount r z (node_in (node_at vs k)) x
      → x ≡ Ok (childless (string vs) (tab (node_at vs) (suc k) (below vs k)))
  pub root_leaves : (x : Result ℕ Refusal) → LeafCount r z (node_in root) x → x ≡ Ok (childless (string vs) (tab (node_at vs) 0 (length vs)))

-- Demand 3. A build of the list vs answered r₁ and left z₁, and growth of that by level v and label b answered r₂ and left z₂
pub record GrowthAsked (vs : List ℕ) (v b : ℕ) (z₁ z₂ : Lent) (r₁ r₂ : Made) : Type 0 where
  -- "of all older nodes' first-child and next-sibling answers exactly one differs": this one,
  pub changed : Question
  pub older : IsNode (string vs) (asked changed)
  -- "first child of the last one (the root, if the list was empty), or next sibling of the last node at its level"
  pub which : Changes vs v changed
  -- "the new node", with its label, "where there was none"
  pub new : child.Node
  pub id : new.id ≡ suc (length vs)
  pub before : (x : Result (Option Edge) Refusal) → Asks r₁ z₁ changed x → x ≡ Ok None
  pub now : (x : Result (Option Edge) Refusal) → Asks r₂ z₂ changed x → x ≡ edge_to (node_in new) b
  -- "No older id or label moves"
  pub others : (q : Question) → IsNode (string vs) (asked q) → ¬ (q ≡ changed) → (x y : Result (Option Edge) Refusal) → Asks r₁ z₁ q x → Asks r₂ z₂ q y → x ≡ y
