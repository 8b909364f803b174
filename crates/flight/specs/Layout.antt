-- How C sees a tree and an answer: the record of counts as 18 numbers, an answer as the number returned and the first four of `out`.
use Rattle.std.specs.Prelude.{Bool, ◌||◌, List, [], ◌∷◌, ℕ, ◌+◌, ltb, get_or}
use Rattle.std.proofs.lemmas.List.Edits.{sets}
use Rattle.meaning.specs.Answers.{Answer, is, nothing, refused}
use Rattle.meaning.specs.Bits.{as_bit}
use Rattle.meaning.specs.Child.{Node}
use Rattle.meaning.specs.Areas.{Counts, no_counts}
use Rattle.meaning.specs.Build.{Tree}
use Rattle.meaning.specs.Questions.{Edge}
use Rattle.flight.specs.declared.reply.Reply.{Reply}

-- string k and its dictionary, k below 4: the bits stand from 1 on, the bytes from 6, the middle entries from 10, the large entries from 14
abbrev pub level_at : List ℕ → ℕ → Counts
level_at r k = record { bits = get_or r (1 + k) 0; bytes = get_or r (6 + k) 0; middle = get_or r (10 + k) 0; large = get_or r (14 + k) 0 }

-- the fifth string, which has no dictionary
abbrev pub last_at : List ℕ → Counts
last_at r = record { bits = get_or r 5 0; bytes = 0; middle = 0; large = 0 }

-- the tree that a record says; the nodes stand first
unfoldable pub tree_at : List ℕ → Tree
tree_at r = record { nodes = get_or r 0 0; counts = level_at r 0 ∷ level_at r 1 ∷ level_at r 2 ∷ level_at r 3 ∷ last_at r ∷ [] }

-- the counts of string k
abbrev pub counts_at : Tree → ℕ → Counts
counts_at t k = get_or t.counts k no_counts

-- the 18 numbers that say a tree
unfoldable pub numbers_of : Tree → List ℕ
numbers_of t =
    t.nodes
    ∷ (counts_at t 0).bits ∷ (counts_at t 1).bits ∷ (counts_at t 2).bits ∷ (counts_at t 3).bits ∷ (counts_at t 4).bits
    ∷ (counts_at t 0).bytes ∷ (counts_at t 1).bytes ∷ (counts_at t 2).bytes ∷ (counts_at t 3).bytes
    ∷ (counts_at t 0).middle ∷ (counts_at t 1).middle ∷ (counts_at t 2).middle ∷ (counts_at t 3).middle
    ∷ (counts_at t 0).large ∷ (counts_at t 1).large ∷ (counts_at t 2).large ∷ (counts_at t 3).large
    ∷ []

-- the values of an answer, in order
abbrev pub of_number : ℕ → List ℕ
of_number n = n ∷ []

abbrev pub of_truth : Bool → List ℕ
of_truth b = as_bit b ∷ []

abbrev pub of_node : Node → List ℕ
of_node n = n.place ∷ n.id ∷ []

abbrev pub of_edge : Edge → List ℕ
of_edge e = e.node.place ∷ e.node.id ∷ e.label ∷ []

abbrev pub of_tree : Tree → List ℕ
of_tree t = t.nodes ∷ []

-- the number that a call returns: 0, or the refusal's
abbrev pub status {ℓ} : {A : Type ℓ} → Answer A → ℕ
status (is a) = 0
status nothing = 0
status (refused r) = r.number

-- 1 and the values; zeros where nothing is found; 0 and what the refusal carries
abbrev pub told {ℓ} : {A : Type ℓ} → (A → List ℕ) → Answer A → List ℕ
told f (is a) = 1 ∷ f a
told f nothing = []
told f (refused r) = 0 ∷ r.carries

-- four numbers from place i on, zeros past the end
abbrev pub four_at : List ℕ → ℕ → List ℕ
four_at l i = get_or l i 0 ∷ get_or l (i + 1) 0 ∷ get_or l (i + 2) 0 ∷ get_or l (i + 3) 0 ∷ []

-- the first four
abbrev pub four : List ℕ → List ℕ
four l = four_at l 0

-- `out` with an answer at its front
unfoldable pub put {ℓ} : {A : Type ℓ} → (A → List ℕ) → Answer A → List ℕ → List ℕ
put f a out = sets out 0 (four (told f a))

-- the five numbers of an answer: the one returned, then those for `out`
abbrev pub reply {ℓ} : {A : Type ℓ} → (A → List ℕ) → Answer A → List ℕ
reply f a = status a ∷ four (told f a)

-- as the code has them
abbrev pub numbers : Reply → List ℕ
numbers r = r.returned ∷ four r.out

-- SHORT: by the lengths of the record and of `out`
unfoldable pub short : ℕ → ℕ → Bool
short n m = ltb n 18 || ltb m 4
