-- `is_empty` meets its contract: by the tests on the way.
use mathlib.Core.Path.{sym, ◌∙◌}
use Rattle.sparse_one_nnd.proofs.Parts.{no_bytes, no_middles, last_empty}
use Rattle.sparse_one_nnd.proofs.DictAreas.is_empty.Goals as goal
use Rattle.sparse_one_nnd.proofs.DictAreas.is_empty.Goals.{then-is_empty, else-is_empty}

pub returns-then-is_empty-2 : goal.returns-then-is_empty-2
returns-then-is_empty-2 c =
    elim c.if-is_empty.branch [
      | then-is_empty w ↦ c.is_empty-then-is_empty-2.ensures ∙ last_empty _ _ _ _ _ c.is_empty.ensures w.if-is_empty.true w.is_empty-then-is_empty.ensures (sym w.value-is ∙ c.if-is_empty-2.true)
      | else-is_empty w ↦ absurd cc
    ]

pub returns-else-is_empty-2 : goal.returns-else-is_empty-2
returns-else-is_empty-2 c =
    elim c.if-is_empty.branch [
      | then-is_empty w ↦ c.if-is_empty-2.false ∙ no_middles _ _ _ _ w.is_empty-then-is_empty.ensures (sym w.value-is ∙ c.if-is_empty-2.false)
      | else-is_empty w ↦ c.if-is_empty-2.false ∙ no_bytes _ _ _ _ c.is_empty.ensures w.if-is_empty.false
    ]
