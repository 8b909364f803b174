-- `rank` meets its contract: by the test.
use mathlib.Core.Path.{ap, ◌∙◌}
use native.Mathlib.Omega.{arith}
use Rattle.refusal.specs.Said.{said_number}
use Rattle.sparse_one_nnd.proofs.Asked.{rank_empty, rank_is}
use Rattle.sparse_one_nnd.proofs.DictAreas.rank.Goals as goal

pub returns-then-is_empty : goal.returns-then-is_empty
returns-then-is_empty c = rank_empty _ _ c.if-is_empty.ensures

pub returns : goal.returns
returns c =
    ap said_number c.ok_or.ensures.value
    ∙ rank_is _ _ _ _ _ c.if-is_empty.ensures (omega (arith, c.min-g.ensures, c.saturating_sub.ensures)) (omega (arith, c.min-m.ensures, c.saturating_sub-2.ensures)) c.rank_from.ensures
