-- `walk_checked` meets its contract. Assumes nothing.
use Rattle.std.proofs.lemmas.Result.{err_from_is_err_and}
use Rattle.walk.proofs.Checks.{roomy, check_refused, check_walk}
use borrow.Author.Rules.{rules}
use Rattle.walk.proofs.walk_checked.Goals as goal

pub returns-in_err-check : goal.returns-in_err-check
returns-in_err-check c =
    let p = err_from_is_err_and c.from_residual.result c.from_residual.ensures.1 in
    rw (p.1, p.2) (search (check_refused, c.in_err-check.ensures, rules))

pub walk_all-requires : goal.walk_all-requires
walk_all-requires c = search (roomy, c.in_ok-check.ensures, rules)

pub returns : goal.returns
returns c =
    let a = c.args in
    let l = c.walk_all.new in
    let s = c.walk_all.auto in
    check_walk _ _ a.out_levels.now a.out_labels.now a.scratch.now c.in_ok-check.ensures l.out_levels l.out_labels l.scratch s.out_levels
    s.out_labels s.scratch _ c.walk_all.ensures
