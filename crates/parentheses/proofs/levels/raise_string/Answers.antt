-- `raise_string`: each way out by its law.
use Rattle.std.proofs.Common.{rules}
use Rattle.std.proofs.lemmas.Result.{err_from_is_err_and}
use Rattle.parentheses.proofs.Outcomes.{broken_many, broken_room, broken_root, raise_stands, raise_refused, raise_room, raise_fills, raise_made}
use Rattle.parentheses.proofs.Standing.{tidy_holds}
use Rattle.parentheses.proofs.levels.raise_string.Goals as goal
use Rattle.parentheses.proofs.levels.raise_string.Goals.{then-n-gt1048575-via-then-n-gt1048575, then-n-gt1048575-via-else-n-gt1048575+then-scr-n, then-n-gt1048575-via-else-n-gt1048575+else-scr-n+then-not-one_root}

pub returns-then-n-gt1048575-clause-raised : goal.returns-then-n-gt1048575-clause-raised
returns-then-n-gt1048575-clause-raised c =
    elim c.then-n-gt1048575.branch [
      | then-n-gt1048575-via-then-n-gt1048575 w ↦ broken_many _ _ _ _ w.if-n-gt1048575.true _
      | then-n-gt1048575-via-else-n-gt1048575+then-scr-n w ↦ broken_room _ _ _ _ w.if-n-gt1048575.false w.if-scr-n.true _
      | then-n-gt1048575-via-else-n-gt1048575+else-scr-n+then-not-one_root w ↦
          broken_root _ _ _ _ w.if-n-gt1048575.false w.if-scr-n.false _ w.one_root.ensures w.if-not-one_root.true _
    ]

pub tidy-requires : goal.tidy-requires
tidy-requires c = raise_stands _ _ _ c.one_root.ensures c.if-n-gt1048575.false c.if-scr-n.false c.if-not-one_root.false

pub plan_string-requires : goal.plan_string-requires
plan_string-requires c = (tidy_holds _ _ _ (raise_stands _ _ _ c.one_root.ensures c.if-n-gt1048575.false c.if-scr-n.false c.if-not-one_root.false) c.tidy.ensures).0

pub returns-in_err-plan-clause-raised : goal.returns-in_err-plan-clause-raised
returns-in_err-plan-clause-raised c =
    let p = err_from_is_err_and c.from_residual.result c.from_residual.ensures.1 in
    rw (p.1, p.2) (raise_refused _ _ _ _ (raise_stands _ _ _ c.one_root.ensures c.if-n-gt1048575.false c.if-scr-n.false c.if-not-one_root.false) _ c.tidy.ensures _ c.in_err-plan.ensures.0 _)

pub returns-in_err-room-clause-raised : goal.returns-in_err-room-clause-raised
returns-in_err-room-clause-raised c =
    let p = err_from_is_err_and c.from_residual-in_err-room.result c.from_residual-in_err-room.ensures.1 in
    rw (p.1, p.2) (raise_room _ _ _ _ (raise_stands _ _ _ c.one_root.ensures c.if-n-gt1048575.false c.if-scr-n.false c.if-not-one_root.false) _ c.tidy.ensures _ _ c.in_ok-plan.ensures _ c.in_err-room.ensures _)

pub fill-requires : goal.fill-requires
fill-requires c = raise_fills _ _ _ c.args.labels (raise_stands _ _ _ c.one_root.ensures c.if-n-gt1048575.false c.if-scr-n.false c.if-not-one_root.false) _ c.tidy.ensures _ _ c.in_ok-plan.ensures c.in_ok-room.ensures

pub returns-clause-raised : goal.returns-clause-raised
returns-clause-raised c =
    raise_made _ _ _ _ (raise_stands _ _ _ c.one_root.ensures c.if-n-gt1048575.false c.if-scr-n.false c.if-not-one_root.false) _ c.tidy.ensures _ _ c.in_ok-plan.ensures c.in_ok-room.ensures _ _ c.fill.ensures.filled
    (record { bits = search rules; bytes = search rules; middles = search rules; larges = search rules })
