-- What the contracts of the questions allow, asked of the record that a build or growth answered with and of the areas that it left.
use Rattle.std.specs.Prelude.{◌≡◌, List, ℕ, Option, Some, Result, Ok, Err}
use Rattle.meaning.specs.Child as child
use Rattle.meaning.specs.Build.{Lent}
use Rattle.meaning.specs.Change.{Question, child_of, sibling_of}
use Rattle.meaning.specs.Questions.{lent_at, close_in, first_child, next_sibling, label_in, leaves_below, nodes_in, bytes_held}
use Rattle.meaning.specs.Walking.{walking}
use Rattle.refusal.specs.Said.{said_number, found_number}
use Rattle.refusal.specs.declared.Refusal.{Refusal}
use Rattle.record.specs.Record.{tree_in, no_counts}
use Rattle.record.specs.declared.Counts.{Counts}
use Rattle.questions.specs.Said.{node_of, said_edge}
use Rattle.questions.specs.declared.Node.{Node}
use Rattle.questions.specs.declared.Edge.{Edge}
use Rattle.walk.specs.Said as walk
use Rattle.balanced_parens.specs.Demands.{Made}

-- the record of counts that came, and counts of nothing where none did
abbrev pub counts_in : Made → Counts
counts_in (Ok c) = c
counts_in (Err e) = no_counts

-- areas 0 to 4, as a question is lent them
abbrev pub catalogue : Lent → Lent
catalogue z = lent_at z.held.words z.held.bytes z.held.middle z.held.large z.labels

-- a node, as the code has it
abbrev pub node_in : child.Node → Node
node_in n = record { place = n.place; id = n.id }

-- the answer that is an edge to a node, with its label
abbrev pub edge_to : Node → ℕ → Result (Option Edge) Refusal
edge_to n b = Ok (Some (record { node = n; label = b }))

-- `closes::get_close` may answer x of the place p
abbrev pub GetClose : Made → Lent → ℕ → Result ℕ Refusal → Type 0
GetClose r z p x = said_number x ≡ close_in (tree_in (counts_in r)) (catalogue z) p

-- `questions::first_child` may answer x of the node n
abbrev pub FirstChild : Made → Lent → Node → Result (Option Edge) Refusal → Type 0
FirstChild r z n x = said_edge x ≡ first_child (tree_in (counts_in r)) (catalogue z) (node_of n)

-- `questions::next_sibling` may answer x of the node n
abbrev pub NextSibling : Made → Lent → Node → Result (Option Edge) Refusal → Type 0
NextSibling r z n x = said_edge x ≡ next_sibling (tree_in (counts_in r)) (catalogue z) (node_of n)

-- one of the two, of a node of the string
abbrev pub Asks : Made → Lent → Question → Result (Option Edge) Refusal → Type 0
Asks r z (child_of n) x = FirstChild r z (node_in n) x
Asks r z (sibling_of n) x = NextSibling r z (node_in n) x

-- `questions::label` may answer x of the node n
abbrev pub Label : Made → Lent → Node → Result (Option ℕ) Refusal → Type 0
Label r z n x = found_number x ≡ label_in (tree_in (counts_in r)) (catalogue z) (node_of n)

-- `questions::leaf_count` may answer x of the node n
abbrev pub LeafCount : Made → Lent → Node → Result ℕ Refusal → Type 0
LeafCount r z n x = said_number x ≡ leaves_below (tree_in (counts_in r)) (catalogue z) (node_of n)

-- `questions::nodes` and `questions::byte_size` may answer x
abbrev pub Nodes : Made → Lent → Result ℕ Refusal → Type 0
Nodes r z x = said_number x ≡ nodes_in (tree_in (counts_in r)) (catalogue z)

abbrev pub ByteSize : Made → Lent → Result ℕ Refusal → Type 0
ByteSize r z x = said_number x ≡ bytes_held (tree_in (counts_in r)) (catalogue z)

-- `walk::walk` may answer x and leave us', cs' and s' in the lists of levels and labels and in scratch, lent as us, cs and s
abbrev pub Walks : Made → Lent → (us cs s us' cs' s' : List ℕ) → Result ℕ Refusal → Type 0
Walks r z us cs s us' cs' s' x = walk.walked (said_number x) us' cs' s' ≡ walking (tree_in (counts_in r)) (catalogue z) (walk.rooms_at us cs s)
