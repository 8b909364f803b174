-- `start` meets its contract: by each `?`.
use mathlib.Core.Path.{ap, ◌∙◌}
use native.Mathlib.Omega.{arith}
use Rattle.sparse_one_nnd.specs.Start.{start_in}
use Rattle.sparse_one_nnd.proofs.Starts.{start_large, start_middle, start_past, start_over, start_out, start_is}
use Rattle.sparse_one_nnd.proofs.DictAreas.start.Goals as goal

pub returns-in_err-base : goal.returns-in_err-base
returns-in_err-base c = ap start_in c.from_residual.ensures ∙ start_large _ _ _ _ _ c.in_err-base.ensures

pub returns-in_err-more : goal.returns-in_err-more
returns-in_err-more c = ap start_in c.from_residual-in_err-more.ensures ∙ start_middle _ _ _ _ _ c.in_err-more.ensures

pub returns-in_err-at : goal.returns-in_err-at
returns-in_err-at c =
    ap start_in c.from_residual-in_err-at.ensures
    ∙ start_past _ _ _ _ _ _ _ _ _ c.in_ok-base.ensures c.in_ok-more.ensures (omega (arith, c.in_err-at.ensures, c.ranges.self))

pub returns-in_err-checked_add : goal.returns-in_err-checked_add
returns-in_err-checked_add c =
    ap start_in c.from_residual-in_err-checked_add.ensures
    ∙ start_over _ _ _ _ _ _ _ _ _ c.in_ok-base.ensures c.in_ok-more.ensures (omega (arith, c.in_err-checked_add.ensures))

pub returns-in_err-get : goal.returns-in_err-get
returns-in_err-get c =
    ap start_in c.from_residual-in_err-get.ensures
    ∙ start_out _ _ _ _ _ _ _ _ _ c.in_ok-base.ensures c.in_ok-more.ensures _ c.in_ok-at.ensures.1 c.in_err-get.ensures.lookup.0

pub returns : goal.returns
returns c =
    let l = c.in_ok-get.ensures.lookup.0 in
    start_is _ _ _ _ _ _ _ _ _ c.in_ok-base.ensures c.in_ok-more.ensures _ _ _ c.in_ok-at.ensures.1 c.in_ok-checked_add.ensures l.0 l.2
