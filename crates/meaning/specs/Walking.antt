-- The walk as an operation: by the two questions, into lent lists of levels and labels, the way back in scratch.
use Rattle.std.specs.Prelude.{List, [], ◌∷◌, map, ℕ, zero, suc, pred, ◌+◌, ◌*◌, ◌^◌, ltb, leb, length, replicate}
use Rattle.std.proofs.Math.Option.{Option, none, some}
use Rattle.meaning.specs.Answers.{Refusal, Answer, is, nothing, refused, broken, provided}
use Rattle.meaning.specs.Child.{Node, root}
use Rattle.meaning.specs.Walk.{Told}
use Rattle.meaning.specs.Areas.{filled}
use Rattle.meaning.specs.Refusals.{check, first_of}
use Rattle.meaning.specs.Build.{Lent, Tree}
use Rattle.meaning.specs.Questions.{Edge, counts_fit, first_child, next_sibling}

-- where a step comes to: a node with the nodes on the way back to the root, and its label
pub record Step : Type 0 where
  pub path : List Node
  pub label : ℕ

-- to an edge's node, with ns on the way back
unfoldable pub step_to : List Node → Edge → Step
step_to ns e = record { path = e.node ∷ ns; label = e.label }

-- an answer, or what is done where there is none
unfoldable pub or_else : List Node → Answer Edge → Answer Step → Answer Step
or_else ns (is e) s = is (step_to ns e)
or_else ns nothing s = s
or_else ns (refused r) s = refused r

-- "else the next sibling of the nearest node on the way back that has one"
unfoldable pub back_by : Tree → Lent → List Node → Answer Step
back_by t a [] = nothing
back_by t a (n ∷ ns) = or_else ns (next_sibling t a n) (back_by t a ns)

-- "the first child if there is one"
unfoldable pub onward_by : Tree → Lent → List Node → Answer Step
onward_by t a [] = nothing
onward_by t a (n ∷ ns) = or_else (n ∷ ns) (first_child t a n) (back_by t a (n ∷ ns))

-- one node more before the others. "A root's child has level 0"
unfoldable pub told_first : Node → List Node → ℕ → Answer (List Told) → Answer (List Told)
told_first n ns b (is ts) = is (record { id = n.id; level = pred (length ns); label = b } ∷ ts)
told_first n ns b nothing = nothing
told_first n ns b (refused r) = refused r

-- what a step tells, and then the rest; a level past 2^32 - 1 overflows
unfoldable pub telling : Answer Step → (List Node → Answer (List Told)) → Answer (List Told)
telling nothing go = is []
telling (refused r) go = refused r
telling (is s) go =
    elim s.path [
      | [] ↦ is []
      | n ∷ ns ↦ provided (ltb (pred (length ns)) (2 ^ 32)) broken (told_first n ns s.label (go (n ∷ ns)))
    ]

-- the walk from a path on, k nodes at most: the record has no node more than it counts
unfoldable pub walk_by : Tree → Lent → ℕ → List Node → Answer (List Told)
walk_by t a zero p = telling (onward_by t a p) (λ q. refused broken)
walk_by t a (suc k) p = telling (onward_by t a p) (λ q. walk_by t a k q)

-- the lengths of the two lists and of scratch
pub record WalkRooms : Type 0 where
  pub levels : ℕ
  pub labels : ℕ
  pub scratch : ℕ

-- the answer is how many nodes it met; the lists and scratch after the call
pub record Walked : Type 0 where
  pub answer : Answer ℕ
  pub levels : List ℕ
  pub labels : List ℕ
  pub scratch : List ℕ

-- "counts that do not fit the areas (9)", then ROOM: scratch is area 5, the lists of levels and labels are 10 and 11
unfoldable pub walk_refusal : Tree → Lent → WalkRooms → Option Refusal
walk_refusal t a rooms =
    first_of
    (check (counts_fit t a) 9 (0 ∷ [])
    ∷ check (leb (2 * t.nodes + 2) rooms.scratch) 4 (5 ∷ [])
    ∷ check (leb t.nodes rooms.levels) 4 (10 ∷ [])
    ∷ check (leb t.nodes rooms.labels) 4 (11 ∷ [])
    ∷ [])

-- refused, the lists are zeros
unfoldable pub unwalked : WalkRooms → Refusal → Walked
unwalked rooms r =
    record {
      answer = refused r;
      levels = replicate rooms.levels 0;
      labels = replicate rooms.labels 0;
      scratch = replicate rooms.scratch 0;
    }

-- "levels and labels in order", zeros behind them
unfoldable pub walked_by : WalkRooms → Answer (List Told) → Walked
walked_by rooms (is ts) =
    record {
      answer = is (length ts);
      levels = filled rooms.levels (map (λ x. x.level) ts);
      labels = filled rooms.labels (map (λ x. x.label) ts);
      scratch = replicate rooms.scratch 0;
    }
walked_by rooms nothing = unwalked rooms broken
walked_by rooms (refused r) = unwalked rooms r

-- the walk
unfoldable pub walking : Tree → Lent → WalkRooms → Walked
walking t a rooms =
    elim (walk_refusal t a rooms) [ none ↦ walked_by rooms (walk_by t a t.nodes (root ∷ [])) | some r ↦ unwalked rooms r ]
