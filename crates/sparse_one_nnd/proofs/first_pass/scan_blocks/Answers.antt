-- `scan_blocks` meets its contract. The invariant is `Planning`.
use native.Mathlib.Omega.{arith}
use Rattle.sparse_one_nnd.proofs.Planning.{plan_start, plan_few, plan_ones, plan_full, plan_on, plan_end}
use Rattle.sparse_one_nnd.proofs.first_pass.scan_blocks.Goals as goal

pub loop-b-init : goal.loop-b-init
loop-b-init c = plan_start _ _

pub returns-then-c-eq-SMALL_SIZE : goal.returns-then-c-eq-SMALL_SIZE
returns-then-c-eq-SMALL_SIZE c = plan_full c.loop-b.invariant _ c.block_ones-c.ensures c.loop-b-test.true c.requires c.if-c-eq-SMALL_SIZE.true

pub overflow_add-ones : goal.overflow_add-ones
overflow_add-ones c = let p = c.loop-b.invariant in omega (arith, plan_few p, plan_ones p _ c.block_ones-c.ensures c.loop-b-test.true)

pub loop-b-preserved : goal.loop-b-preserved
loop-b-preserved c = plan_on c.loop-b.invariant _ c.block_ones-c.ensures c.loop-b-test.true _ c.if-c-eq-SMALL_SIZE.false c.last_of-blocks.ensures

pub returns : goal.returns
returns c = plan_end c.loop-b.invariant c.requires c.loop-b-test.false
