-- `select_start` meets its contract: by the tests on the way.
use mathlib.Core.Path.{◌∙◌}
use native.Mathlib.Omega.{arith}
use Rattle.sparse_one_nnd.proofs.Selects.{begin_end, begin_below, begin_on}
use Rattle.sparse_one_nnd.proofs.select.select_start.Goals as goal

pub returns-then-is_empty : goal.returns-then-is_empty
returns-then-is_empty c = begin_end _ _ _ _ (omega arith) c.if-is_empty.ensures

pub returns-then-q-start : goal.returns-then-q-start
returns-then-q-start c = begin_below _ _ _ _ c.if-is_empty.ensures c.if-q-start.true

pub returns : goal.returns
returns c = c.select_walk.ensures ∙ begin_on _ _ _ _ c.if-is_empty.ensures c.if-q-start.false
