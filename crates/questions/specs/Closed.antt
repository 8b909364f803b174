-- The close of a node, where its next sibling and its leaves are sought.
use Rattle.std.specs.Prelude.{true, false, ℕ, ltb}
use Rattle.std.proofs.Math.Option.{Option, none, some}
use Rattle.meaning.specs.Answers.{Answer, is, refused, broken}
use Rattle.meaning.specs.Build.{Tree, Lent, levels_in}
use Rattle.meaning.specs.Child.{Node}
use Rattle.meaning.specs.Close.{close_at}
use Rattle.meaning.specs.Questions.{node_refusal}

-- by the steps' close; a close before the node is BROKEN
unfoldable pub not_before : ℕ → Option ℕ → Answer ℕ
not_before p none = refused broken
not_before p (some c) = elim (ltb c p) [ true ↦ refused broken | false ↦ is c ]

unfoldable pub closed : Tree → Lent → Node → Answer ℕ
closed t a n = elim (node_refusal t a n) [ none ↦ not_before n.place (close_at (levels_in t a) n.place) | some r ↦ refused r ]
