-- `plan_levels`: `left` falls at each call; each way out by its law.
use Rattle.std.proofs.Common.{◌≡◌, ap, ◌∙◌, length, replicate, arith}
use Rattle.std.proofs.lemmas.Result.{err_from_is_err_and}
use Rattle.parentheses.proofs.Planning.{plan_last, plan_deep, plan_refused, plan_next, plan_length, plan_small, plan_above, plan_above_refused}
use Rattle.parentheses.proofs.plans.+plan_levels.Goals as goal

pub returns-then-m-le64 : goal.returns-then-m-le64
returns-then-m-le64 t c = (plan_last _ _ _ _ c.requires c.if-m-le64.true _ c.last.ensures, c.fill.ensures.after (λ y e. e))

pub returns-then-left-eq0 : goal.returns-then-left-eq0
returns-then-left-eq0 t c = (plan_deep _ _ _ _ c.requires c.if-m-le64.false c.if-left-eq0.true, c.fill-then-left-eq0.ensures.after (λ y e. e))

pub plan_family-requires : goal.plan_family-requires
plan_family-requires t c = (c.requires.0, c.if-m-le64.false)

pub plan_levels-requires : goal.plan_levels-requires
plan_levels-requires t c =
    (omega (arith, c.if-left-eq0.false), plan_next _ _ _ _ c.requires c.if-m-le64.false c.if-left-eq0.false _ _ c.in-Ok.ensures)

pub returns-in_err-rest-in-Ok : goal.returns-in_err-rest-in-Ok
returns-in_err-rest-in-Ok t c =
    let p = err_from_is_err_and c.from_residual.result c.from_residual.ensures.1 in
    rw (p.1, p.2) (
      plan_above_refused _ _ _ _ c.requires c.if-m-le64.false c.if-left-eq0.false _ _ c.in-Ok.ensures _ c.in_err-rest-in-Ok.ensures.0,
      c.in_err-rest-in-Ok.ensures.1 ∙ ap (λ n. replicate n 0) (plan_length _ _ _ _ c.requires c.if-m-le64.false c.if-left-eq0.false _ _ c.in-Ok.ensures),
    )

pub above-requires : goal.above-requires
above-requires t c = plan_small _ _ _ _ c.requires c.if-m-le64.false c.if-left-eq0.false _ _ c.in-Ok.ensures _ c.in_ok-rest-in-Ok.ensures.0

pub returns-in_ok-rest-in-Ok : goal.returns-in_ok-rest-in-Ok
returns-in_ok-rest-in-Ok t c = (
  plan_above _ _ _ _ c.requires c.if-m-le64.false c.if-left-eq0.false _ _ c.in-Ok.ensures _ c.in_ok-rest-in-Ok.ensures.0 _ c.above.ensures,
  c.in_ok-rest-in-Ok.ensures.1 ∙ ap (λ n. replicate n 0) (plan_length _ _ _ _ c.requires c.if-m-le64.false c.if-left-eq0.false _ _ c.in-Ok.ensures),
)

pub returns-in-Err : goal.returns-in-Err
returns-in-Err t c =
    let k : length c.plan_family.new.scr ≡ length c.args.scr.now = omega (arith, c.plan_family.auto.scr) in
    (plan_refused _ _ _ _ c.requires c.if-m-le64.false c.if-left-eq0.false _ _ c.in-Err.ensures, c.fill-in-Err.ensures.after (λ y e. e) ∙ ap (λ n. replicate n 0) k)
