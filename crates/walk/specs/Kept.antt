-- The way back to the root, as scratch keeps it.
use Rattle.std.specs.Prelude.{List, [], ◌∷◌, ℕ, zero, suc, ◌+◌, ◌*◌, get_or, set, Option, Result}
use Rattle.meaning.specs.Answers.{Answer}
use Rattle.meaning.specs.Child.{Node}
use Rattle.meaning.specs.Walking as walking
use Rattle.questions.specs.Said.{node_of}
use Rattle.refusal.specs.declared.Refusal.{Refusal}
use Rattle.refusal.specs.Said.{found_by}
use Rattle.walk.specs.declared.onward.Step.{Step}

-- "a node is a place and an id": the node at depth d
abbrev pub node_in : List ℕ → ℕ → Node
node_in s d = record { place = get_or s (2 * d) 0; id = get_or s (2 * d + 1) 0 }

-- a path of n nodes, the deepest first
unfoldable pub way_in : List ℕ → ℕ → List Node
way_in s zero = []
way_in s (suc n) = node_in s n ∷ way_in s n

-- with a node put at depth d
unfoldable pub put_in : List ℕ → ℕ → Node → List ℕ
put_in s d n = set (set s (2 * d) n.place) (2 * d + 1) n.id

-- a step, by the path
abbrev pub step_at : List ℕ → Step → walking.Step
step_at s o = record { path = node_of o.edge.node ∷ way_in s o.under; label = o.edge.label }

-- a step, no node that is left, or a refusal
abbrev pub step_in : List ℕ → Result (Option Step) Refusal → Answer walking.Step
step_in s = found_by (step_at s)
