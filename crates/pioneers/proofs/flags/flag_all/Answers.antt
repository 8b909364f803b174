-- `flag_all`: the invariant is `Inv` of Pass.antt.
use mathlib.Core.Path.{sym}
use native.Mathlib.Omega.{arith}
use lib.Seq.{length-take-le}
use Rattle.pioneers.proofs.Parts.{front_zero}
use Rattle.pioneers.proofs.Marks.{start, turns, step, near, finish, low, inside}
use Rattle.pioneers.proofs.flags.flag_all.Goals as goal

pub loop-i-init : goal.loop-i-init
loop-i-init c = start _ _ c.requires

pub turn-s-requires : goal.turn-s-requires
turn-s-requires c = turns _ _ c.requires _ _ _ c.loop-i.invariant c.loop-i-test.true

pub loop-i-preserved : goal.loop-i-preserved
loop-i-preserved c = step _ _ c.requires _ _ _ c.loop-i.invariant c.loop-i-test.true _ _ c.turn-s.ensures

pub overflow_mul-lay : goal.overflow_mul-lay
overflow_mul-lay c = omega (arith, low _ _ c.requires)

pub settle-requires : goal.settle-requires
settle-requires c = near _ _ c.requires _ _ _ c.loop-i.invariant

pub slice_bounds-fill-end : goal.slice_bounds-fill-end
slice_bounds-fill-end c = omega (arith, inside _ _ c.requires, c.loop-i.invariant.len, c.settle.auto)

pub slice_bounds-fill-end-2 : goal.slice_bounds-fill-end-2
slice_bounds-fill-end-2 c = sym (length-take-le _ _ (omega (arith, inside _ _ c.requires, c.loop-i.invariant.len, c.settle.auto)))

pub returns : goal.returns
returns c =
    finish _ _ c.requires _ _ _ c.loop-i.invariant c.loop-i-test.false _ _ c.settle.ensures
    (front_zero _ _ _ (omega (arith, inside _ _ c.requires, c.loop-i.invariant.len, c.settle.auto)) (c.fill.ensures.after (λ y e. e)))
