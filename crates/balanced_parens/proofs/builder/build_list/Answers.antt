-- `build_list`: each way out by its law.
use Rattle.std.proofs.Common.{refl}
use Rattle.std.proofs.lemmas.Result.{err_from_is_err_and}
use Rattle.balanced_parens.proofs.Builds.{build_labels, build_made, build_refused}
use Rattle.balanced_parens.proofs.builder.build_list.Goals as goal

pub returns-in_err-counts-clause-built : goal.returns-in_err-counts-clause-built
returns-in_err-counts-clause-built c =
    let p = err_from_is_err_and c.from_residual.result c.from_residual.ensures.1 in
    rw (p.1, p.2) (build_refused c.args.levels.now c.args.labels.now _ _ _ _ _ c.args.scratch.now c.requires _ _ _ _ _ _ c.in_err-counts.ensures.staged refl)

pub copy_labels-requires : goal.copy_labels-requires
copy_labels-requires c = build_labels c.args.levels.now c.args.labels.now _ _ _ _ _ c.args.scratch.now c.requires _ _ _ _ _ _ c.in_ok-counts.ensures.staged refl

pub returns-clause-built : goal.returns-clause-built
returns-clause-built c = build_made c.args.levels.now c.args.labels.now _ _ _ _ _ c.args.scratch.now c.requires _ _ _ _ _ _ c.in_ok-counts.ensures.staged refl _ c.copy_labels.ensures
