-- `succ` meets its contract: by what rank answers, and what select finds.
use mathlib.Core.Path.{sym, ap, ◌∙◌}
use Rattle.std.specs.Prelude.{Ok}
use Rattle.refusal.specs.Said.{found_number}
use Rattle.sparse_one_nnd.proofs.Replies.{passed_on, broken_of, value_of, over_of, sum_of, is_place, not_place}
use Rattle.sparse_one_nnd.proofs.Asked.{succ_broken, succ_refused, succ_here, succ_on, next_over, next_is}
use Rattle.sparse_one_nnd.proofs.DictAreas.succ.Goals as goal

pub returns-in_err-r : goal.returns-in_err-r
returns-in_err-r c = ap found_number (passed_on _ _ c.from_residual.ensures.1) ∙ succ_broken _ _ _ c.in_err-r.ensures

pub returns-in_err-select : goal.returns-in_err-select
returns-in_err-select c = ap found_number (passed_on _ _ c.from_residual-in_err-select.ensures.1) ∙ succ_refused _ _ _ c.in_ok-r.ensures _ c.in_err-select.ensures

pub returns-then-eq : goal.returns-then-eq
returns-then-eq c =
    succ_here _ _ _ c.in_ok-r.ensures (ap (λ o. found_number (Ok o)) (sym (is_place _ _ c.if-eq.ensures)) ∙ c.in_ok-select.ensures)

pub returns-in_err-ok_or : goal.returns-in_err-ok_or
returns-in_err-ok_or c =
    let p = broken_of _ _ _ c.in_err-ok_or.ensures.value c.from_residual-in_err-ok_or.ensures.1 in
    ap found_number p.1 ∙ next_over _ _ (over_of _ _ _ c.checked_add.ensures p.0) ∙ succ_on _ _ _ c.in_ok-r.ensures _ (not_place _ _ c.if-eq.ensures) c.in_ok-select.ensures

pub returns : goal.returns
returns c =
    c.select-2.ensures
    ∙ next_is _ _ _ (sum_of _ _ _ _ c.checked_add.ensures (value_of _ _ c.in_ok-ok_or.ensures.value))
    ∙ succ_on _ _ _ c.in_ok-r.ensures _ (not_place _ _ c.if-eq.ensures) c.in_ok-select.ensures
