-- `raise_list`: each way out by its law.
use Rattle.std.proofs.lemmas.Result.{err_from_is_err_and}
use Rattle.balanced_parens.proofs.Lists.{list_made, list_refused}
use Rattle.balanced_parens.proofs.builder.raise_list.Goals as goal

pub returns-in_err-place-clause-staged : goal.returns-in_err-place-clause-staged
returns-in_err-place-clause-staged c =
    let p = err_from_is_err_and c.from_residual.result c.from_residual.ensures.1 in
    rw (p.1, p.2) (list_refused _ _ _ _ _ _ c.in_err-place.ensures)

pub returns-clause-staged : goal.returns-clause-staged
returns-clause-staged c = list_made _ _ _ _ _ c.in_ok-place.ensures _ _ _ c.raise.ensures
