-- `Levels::descend` meets its contract: the loop keeps the part in which the one sought is.
use Rattle.std.proofs.Common.{rules}
use Rattle.fixnum.proofs.Descent.{from_start, steady, next_turn, all_behind}
use Rattle.fixnum.proofs.count.Levels.descend.Goals as goal

pub loop-level-init : goal.loop-level-init
loop-level-init c = from_start c.requires

pub half-p-requires : goal.half-p-requires
half-p-requires c = steady c.loop-level.invariant

pub loop-level-preserved : goal.loop-level-preserved
loop-level-preserved c = next_turn c.loop-level.invariant (search rules) c.loop-level-test.true c.half-p.result c.half-p.ensures

pub returns : goal.returns
returns c = all_behind c.loop-level.invariant (search rules) c.loop-level-test.false
