-- Questions. "Questions check: counts that do not fit the areas (9), then 7, then 8"; then BROKEN from the steps.
use Rattle.std.specs.Prelude.{Bool, true, false, ◌&&◌, List, [], ◌∷◌, map, ℕ, zero, suc, pred, ◌+◌, ◌*◌, ◌^◌, ltb, leb, eqb, length, get_or, take}
use Rattle.std.proofs.Math.Option.{Option, none, some}
use Rattle.meaning.specs.Answers.{Refusal, Answer, is, nothing, refused, place, close, broken, provided, or_broken}
use Rattle.meaning.specs.Bits.{opens, as_bit, word_count}
use Rattle.meaning.specs.Close.{close_at}
use Rattle.meaning.specs.Child.{Node, child}
use Rattle.meaning.specs.Sibling.{sibling}
use Rattle.meaning.specs.Walk.{Answers, lowest}
use Rattle.meaning.specs.Size.{sum}
use Rattle.meaning.specs.Leaves.{leaf_count}
use Rattle.meaning.specs.Areas.{Counts}
use Rattle.meaning.specs.Refusals.{check, first_of}
use Rattle.meaning.specs.Build.{Lent, Tree, levels_in}
use Rattle.meaning.specs.Growth.{bits_in}

-- an edge is the new node and its label
pub record Edge : Type 0 where
  pub node : Node
  pub label : ℕ

-- such an answer
abbrev pub edge : Node → ℕ → Answer Edge
edge n b = is (record { node = n; label = b })

-- "counts that do not fit the areas (9)"
unfoldable pub counts_fit : Tree → Lent → Bool
counts_fit t a =
    leb (sum (map (λ c. word_count c.bits) t.counts)) (length a.held.words)
    && leb (sum (map (λ c. c.bytes) t.counts)) (length a.held.bytes)
    && leb (2 * sum (map (λ c. c.middle) t.counts)) (length a.held.middle)
    && leb (2 * sum (map (λ c. c.large) t.counts)) (length a.held.large)
    && leb t.nodes (length a.labels)

-- the five catalogue areas, as a question is lent them
abbrev pub lent_at : List ℕ → List ℕ → List ℕ → List ℕ → List ℕ → Lent
lent_at ws bs ms ls labels = record { held = record { words = ws; bytes = bs; middle = ms; large = ls }; labels = labels; scratch = [] }

-- an answer that stands if the counts fit and there is such a bit
unfoldable pub at_bit : Tree → Lent → ℕ → Answer ℕ → Answer ℕ
at_bit t a p x = provided (counts_fit t a) broken (provided (ltb p (bits_in t)) (place p) x)

-- the question of the bit at a place
unfoldable pub bit_in : Tree → Lent → ℕ → Answer ℕ
bit_in t a p = at_bit t a p (is (as_bit (get_or (lowest (levels_in t a)) p false)))

-- the question of the close of the open at a place
unfoldable pub close_in : Tree → Lent → ℕ → Answer ℕ
close_in t a p = at_bit t a p (provided (get_or (lowest (levels_in t a)) p false) (close p) (or_broken (close_at (levels_in t a) p)))

-- PLACE: "no such bit, or a node whose id is not the number of opens before its place"; CLOSE: "the place holds a close"
unfoldable pub node_refusal : Tree → Lent → Node → Option Refusal
node_refusal t a n =
    let l : List Bool = lowest (levels_in t a) in
    first_of
    (check (counts_fit t a) 9 (0 ∷ [])
    ∷ check (ltb n.place (bits_in t)) 7 (n.place ∷ [])
    ∷ check (eqb n.id (opens (take n.place l))) 7 (n.place ∷ [])
    ∷ check (get_or l n.place false) 8 (n.place ∷ [])
    ∷ [])

-- "its label is label k", of id k + 1; BROKEN where the record has no such node
unfoldable pub labelled : Tree → Lent → Option Node → Answer Edge
labelled t a none = nothing
labelled t a (some n) = elim (ltb (pred n.id) t.nodes) [ true ↦ edge n (get_or a.labels (pred n.id) 0) | false ↦ refused broken ]

-- the question of a node's first child
unfoldable pub first_child : Tree → Lent → Node → Answer Edge
first_child t a n = elim (node_refusal t a n) [ none ↦ labelled t a (child (lowest (levels_in t a)) n) | some r ↦ refused r ]

-- by the steps' close; a close before the node is BROKEN
unfoldable pub sibling_by : Tree → Lent → Node → Option ℕ → Answer Edge
sibling_by t a n none = refused broken
sibling_by t a n (some c) = elim (ltb c n.place) [ true ↦ refused broken | false ↦ labelled t a (sibling (lowest (levels_in t a)) c n) ]

-- the question of its next sibling
unfoldable pub next_sibling : Tree → Lent → Node → Answer Edge
next_sibling t a n = elim (node_refusal t a n) [ none ↦ sibling_by t a n (close_at (levels_in t a) n.place) | some r ↦ refused r ]

-- the node that is answered
unfoldable pub heard : Answer Edge → Option Node
heard (is e) = some e.node
heard nothing = none
heard (refused r) = none

-- the answers that a walk goes by
abbrev pub asking : Tree → Lent → Answers
asking t a = record { kid = λ n. heard (first_child t a n); sib = λ n. heard (next_sibling t a n) }

-- the edge of a node of an accepted list with labels bs (`first_child_lem`, `next_sibling_lem`; of theorems alone)
unfoldable pub edge_of : List ℕ → Option Node → Answer Edge
edge_of bs none = nothing
edge_of bs (some n) = edge n (get_or bs (pred n.id) 0)

-- "Leaf count", by the steps' close; a close before the node is BROKEN
unfoldable pub leaves_by : Tree → Lent → Node → Option ℕ → Answer ℕ
leaves_by t a n none = refused broken
leaves_by t a n (some c) =
    elim (ltb c n.place) [
      | true ↦ refused broken
      | false ↦ is (leaf_count (lowest (levels_in t a)) n.place c)
    ]

-- the question of the leaves below a node
unfoldable pub leaves_below : Tree → Lent → Node → Answer ℕ
leaves_below t a n = elim (node_refusal t a n) [ none ↦ leaves_by t a n (close_at (levels_in t a) n.place) | some r ↦ refused r ]

-- "Byte size", by the record of counts
unfoldable pub count_size : Counts → ℕ
count_size c = 8 * word_count c.bits + c.bytes + 4 * c.middle + 16 * c.large

-- over all strings
unfoldable pub size_in : Tree → ℕ
size_in t = sum (map count_size t.counts) + 8 + 4 * t.nodes

-- a size past 2^64 - 1 overflows
unfoldable pub sized : ℕ → Answer ℕ
sized n = elim (ltb n (2 ^ 64)) [ true ↦ is n | false ↦ refused broken ]

-- the question of the byte size
unfoldable pub bytes_held : Tree → Lent → Answer ℕ
bytes_held t a = elim (counts_fit t a) [ true ↦ sized (size_in t) | false ↦ refused broken ]

-- the question of the number of nodes
unfoldable pub nodes_in : Tree → Lent → Answer ℕ
nodes_in t a = provided (counts_fit t a) broken (is t.nodes)

-- whether there is none
unfoldable pub is_empty_in : Tree → Lent → Answer Bool
is_empty_in t a = provided (counts_fit t a) broken (is (eqb t.nodes 0))

-- "Node id is k + 1 and its label is label k; the root is id 0", which has none
unfoldable pub label_of : Tree → Lent → ℕ → Answer ℕ
label_of t a zero = nothing
label_of t a (suc k) = provided (ltb k t.nodes) broken (is (get_or a.labels k 0))

-- the question of a node's label
unfoldable pub label_in : Tree → Lent → Node → Answer ℕ
label_in t a n = elim (node_refusal t a n) [ none ↦ label_of t a n.id | some r ↦ refused r ]
