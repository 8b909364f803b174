-- What the tree's questions answer: 01's number and values for each case.
use Rattle.std.specs.Prelude.{Option, Result}
use Rattle.meaning.specs.Answers.{Answer}
use Rattle.meaning.specs.Child as child
use Rattle.meaning.specs.Questions as questions
use Rattle.refusal.specs.declared.Refusal.{Refusal}
use Rattle.refusal.specs.Said.{found_by}
use Rattle.questions.specs.declared.Edge.{Edge}
use Rattle.questions.specs.declared.Node.{Node}

-- a node
abbrev pub node_of : Node → child.Node
node_of n = record { place = n.place; id = n.id }

-- an edge
abbrev pub edge_of : Edge → questions.Edge
edge_of e = record { node = node_of e.node; label = e.label }

-- an edge, nothing, or a refusal
abbrev pub said_edge : Result (Option Edge) Refusal → Answer questions.Edge
said_edge = found_by edge_of
