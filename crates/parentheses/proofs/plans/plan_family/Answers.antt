-- `plan_family`: each way out by its law.
use Rattle.std.proofs.Common.{refl, arith}
use Rattle.parentheses.proofs.Families.{family_unmarked, family_part, family_made, family_refused}
use Rattle.parentheses.proofs.plans.plan_family.Goals as goal

pub returns-then-not-mark : goal.returns-then-not-mark
returns-then-not-mark c = family_unmarked _ _ c.args.level c.requires _ _ c.mark.ensures c.if-not-mark.true

pub offset_bounds-scr-lay : goal.offset_bounds-scr-lay
offset_bounds-scr-lay c = omega (arith, family_part c.args.scr.now c.args.lay c.args.level c.requires c.mark.result c.mark.new.scr c.mark.ensures)

pub slice_bounds-plan-count : goal.slice_bounds-plan-count
slice_bounds-plan-count c = omega (arith, family_part c.args.scr.now c.args.lay c.args.level c.requires c.mark.result c.mark.new.scr c.mark.ensures)

pub slice_bounds-plan-start : goal.slice_bounds-plan-start
slice_bounds-plan-start c = omega (arith, family_part c.args.scr.now c.args.lay c.args.level c.requires c.mark.result c.mark.new.scr c.mark.ensures)

pub returns-in-Ok : goal.returns-in-Ok
returns-in-Ok c =
    family_made _ _ _ c.requires _ _ c.mark.ensures _ c.in-Ok.ensures _ refl _ _ c.compact-bits.ensures

pub returns-in-Err : goal.returns-in-Err
returns-in-Err c = family_refused _ _ _ c.requires _ _ c.mark.ensures _ c.in-Err.ensures _ refl _ c.at_level.ensures
