-- `raise_longer`: each way out by its law.
use Rattle.std.proofs.Common.{arith}
use Rattle.std.proofs.lemmas.Result.{err_from_is_err_and}
use Rattle.balanced_parens.proofs.Grows.{longer_few, longer_raised, longer_refused}
use Rattle.balanced_parens.proofs.growth.raise_longer.Goals as goal

pub returns-in_err-place_longer-clause-staged : goal.returns-in_err-place_longer-clause-staged
returns-in_err-place_longer-clause-staged c =
    let p = err_from_is_err_and c.from_residual.result c.from_residual.ensures.1 in
    rw (p.1, p.2) (longer_refused _ _ _ _ _ _ _ _ _ c.in_err-place_longer.ensures)

pub overflow_add-n : goal.overflow_add-n
overflow_add-n c = omega (arith, longer_few _ _ _ _ _ _ c.in_ok-place_longer.ensures)

pub returns-clause-staged : goal.returns-clause-staged
returns-clause-staged c = longer_raised _ _ _ _ _ _ c.in_ok-place_longer.ensures _ _ _ _ _ c.raise.ensures
