-- `select_from` meets its contract: by the start.
use mathlib.Core.Path.{sym, ap, ◌∙◌}
use Rattle.refusal.specs.Said.{found_number}
use Rattle.sparse_one_nnd.specs.Start.{start_in}
use Rattle.sparse_one_nnd.proofs.Replies.{broken_of, value_of}
use Rattle.sparse_one_nnd.proofs.Starts.{select_broken, select_begun}
use Rattle.sparse_one_nnd.proofs.DictAreas.select_from.Goals as goal

pub returns-in_err-start : goal.returns-in_err-start
returns-in_err-start c =
    let p = broken_of _ _ _ c.in_err-start.ensures.value c.from_residual.ensures.1 in
    ap found_number p.1 ∙ select_broken _ _ _ _ c.requires c.ranges.q.fits (ap start_in (sym p.0) ∙ c.start.ensures)

pub returns : goal.returns
returns c =
    c.select_start.ensures
    ∙ select_begun _ _ _ _ c.requires c.in_ok-start.start (ap start_in (sym (value_of _ _ c.in_ok-start.ensures.value)) ∙ c.start.ensures)
