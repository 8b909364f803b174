-- `select` meets its contract: by the tests on the way.
use mathlib.Core.Path.{◌∙◌}
use Rattle.sparse_one_nnd.proofs.Asked.{select_zero, select_empty, select_is}
use Rattle.sparse_one_nnd.proofs.DictAreas.select.Goals as goal
use Rattle.sparse_one_nnd.proofs.DictAreas.select.Goals.{then-r-eq0-via-then-r-eq0, then-r-eq0-via-else-r-eq0+then-is_empty}

pub returns-then-r-eq0 : goal.returns-then-r-eq0
returns-then-r-eq0 c =
    elim c.then-r-eq0.branch [
      | then-r-eq0-via-then-r-eq0 w ↦ select_zero _ _ w.if-r-eq0.true
      | then-r-eq0-via-else-r-eq0+then-is_empty w ↦ select_empty _ _ w.if-is_empty.ensures
    ]

pub returns : goal.returns
returns c = c.select_large.ensures ∙ select_is _ _ _ _ c.if-r-eq0.false c.if-is_empty.ensures c.before-2.ensures.0 c.saturating_sub-g.ensures
