-- `plan_string`: a copy of the string waits behind its flags.
use mathlib.Core.Path.{refl}
use native.Mathlib.Omega.{arith}
use Rattle.parentheses.proofs.Outcomes.{plan_short}
use Rattle.parentheses.proofs.Standing.{copy_out, front_standing, front_plan, copy_in, back}
use Rattle.parentheses.proofs.levels.plan_string.Goals as goal

pub returns-then-n-lt32 : goal.returns-then-n-lt32
returns-then-n-lt32 c = (plan_short _ _ c.requires c.if-n-lt32.true _ c.last.ensures, refl)

pub layout-lay-requires : goal.layout-lay-requires
layout-lay-requires c = c.requires.stands.few

pub copy_within-requires-clause-in_bounds : goal.copy_within-requires-clause-in_bounds
copy_within-requires-clause-in_bounds c = (copy_out _ _ c.requires c.if-n-lt32.false _ c.layout-lay.ensures _ c.word_count-w.ensures).0

pub copy_within-requires-clause-dest_in_bounds : goal.copy_within-requires-clause-dest_in_bounds
copy_within-requires-clause-dest_in_bounds c = omega (arith, copy_out c.args.scr.now c.args.n c.requires c.if-n-lt32.false c.layout-lay.result c.layout-lay.ensures c.word_count-w.result c.word_count-w.ensures)

pub plan_levels-plan-requires : goal.plan_levels-plan-requires
plan_levels-plan-requires c = front_standing c.args.scr.now c.args.n c.requires c.if-n-lt32.false c.layout-lay.result c.layout-lay.ensures c.word_count-w.result c.word_count-w.ensures c.copy_within.new.self c.copy_within.ensures.after

pub copy_within-requires-2-clause-in_bounds : goal.copy_within-requires-2-clause-in_bounds
copy_within-requires-2-clause-in_bounds c = (copy_in c.args.scr.now c.args.n c.requires c.if-n-lt32.false c.layout-lay.result c.layout-lay.ensures c.word_count-w.result c.word_count-w.ensures c.copy_within.new.self c.copy_within.ensures.after c.plan_levels-plan.new.scr c.plan_levels-plan.ensures.1).0

pub copy_within-requires-2-clause-dest_in_bounds : goal.copy_within-requires-2-clause-dest_in_bounds
copy_within-requires-2-clause-dest_in_bounds c = omega (arith, copy_in c.args.scr.now c.args.n c.requires c.if-n-lt32.false c.layout-lay.result c.layout-lay.ensures c.word_count-w.result c.word_count-w.ensures c.copy_within.new.self c.copy_within.ensures.after c.plan_levels-plan.new.scr c.plan_levels-plan.ensures.1)

pub returns : goal.returns
returns c =
    (front_plan c.args.scr.now c.args.n c.requires c.if-n-lt32.false c.layout-lay.result c.layout-lay.ensures c.word_count-w.result c.word_count-w.ensures c.copy_within.new.self c.copy_within.ensures.after _ c.plan_levels-plan.ensures.0, back c.args.scr.now c.args.n c.requires c.if-n-lt32.false c.layout-lay.result c.layout-lay.ensures c.word_count-w.result c.word_count-w.ensures c.copy_within.new.self c.copy_within.ensures.after c.plan_levels-plan.new.scr c.plan_levels-plan.ensures.1 c.copy_within-2.new.self c.copy_within-2.ensures.after _ (c.fill.ensures.after (λ y e. e)))
