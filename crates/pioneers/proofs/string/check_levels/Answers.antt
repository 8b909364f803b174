-- `check_levels`: what is left of the list has the whole list's answer.
use Rattle.std.proofs.Common.{refl, ap}
use Rattle.meaning.specs.List.{offending}
use Rattle.pioneers.specs.Placed.{rule_of}
use Rattle.pioneers.proofs.Ruled.{off_next, off_here, off_none}
use Rattle.pioneers.proofs.string.check_levels.Goals as goal

pub loop-i-init : goal.loop-i-init
unfolding offending
loop-i-init c = refl

pub returns-then-most-v : goal.returns-then-most-v
returns-then-most-v c = ap rule_of (off_here _ _ _ _ c.loop-i.invariant c.loop-i-test.true refl c.if-most-v.true)

pub loop-i-preserved : goal.loop-i-preserved
loop-i-preserved c = off_next _ _ _ _ c.loop-i.invariant c.loop-i-test.true refl c.if-most-v.false

pub returns : goal.returns
returns c = ap rule_of (off_none _ _ _ c.loop-i.invariant c.loop-i-test.false)
