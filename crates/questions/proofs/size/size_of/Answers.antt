-- `size_of` meets its contract. Assumes nothing.
use Rattle.std.proofs.Common.{arith}
use Rattle.questions.proofs.Sums.{too_much, same_sum, sizes_start, sizes_on, sizes_low, sizes_all}
use Rattle.questions.proofs.size.size_of.Goals as goal

pub loop-level-init : goal.loop-level-init
loop-level-init c = sizes_start c.args.counts.now

pub returns-in_err-size : goal.returns-in_err-size
returns-in_err-size c =
    too_much _ _ _ c.from_residual.ensures c.in_err-size.ensures
    (sizes_low c.args.counts.now c.loop-level.level c.loop-level.size c.loop-level-test.true c.loop-level.invariant)

pub loop-level-preserved : goal.loop-level-preserved
loop-level-preserved c = sizes_on c.args.counts.now _ _ _ c.loop-level.invariant c.in_ok-size.ensures.1

pub returns-in_err-size-2 : goal.returns-in_err-size-2
returns-in_err-size-2 c =
    let all = sizes_all c.args.counts.now c.loop-level.level c.loop-level.size c.word_count.result (omega arith) c.loop-level.invariant c.word_count.ensures in
    too_much _ _ _ c.from_residual-in_err-size-2.ensures c.in_err-size-2.ensures (omega arith)

pub returns : goal.returns
returns c =
    let all = sizes_all c.args.counts.now c.loop-level.level c.loop-level.size c.word_count.result (omega arith) c.loop-level.invariant c.word_count.ensures in
    same_sum _ _ _ c.with-2.ensures (omega (arith, c.in_ok-size-2.ensures))
