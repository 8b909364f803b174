-- `grow`: each way out by its law.
use Rattle.std.proofs.Common.{refl, rules}
use Rattle.std.proofs.lemmas.Result.{err_from_is_err_and}
use Rattle.balanced_parens.proofs.Grows.{refused_at, made_at}
use Rattle.balanced_parens.proofs.growth.grow.Goals as goal

pub returns-in_err-counts : goal.returns-in_err-counts
returns-in_err-counts c =
    let p = err_from_is_err_and c.from_residual.result c.from_residual.ensures.1 in
    rw (p.1, p.2) (refused_at _ _ _ _ _ _ c.args.c _ _ _ _ _ _ _ c.in_err-counts.ensures.staged c.args.label refl _ (search rules))

pub returns : goal.returns
returns c = made_at _ _ _ _ _ _ c.args.c _ _ _ _ _ _ _ c.in_ok-counts.ensures.staged refl _ _ c.write_label.ensures _ (search rules)
