-- `count_in` meets its contract. The invariant is `Counting`.
use mathlib.Core.Path.{ap, ◌∙◌}
use native.Mathlib.Omega.{arith}
use Rattle.refusal.specs.Said.{option_of}
use Rattle.sparse_one_nnd.proofs.Ranks.{count_end, count_out, count_stop, count_over, count_on}
use Rattle.sparse_one_nnd.proofs.rank.count_in.Goals as goal

pub returns-in_err-get : goal.returns-in_err-get
returns-in_err-get c = ap option_of c.from_residual.ensures ∙ count_out c.loop-i.invariant c.loop-i-test.true c.in_err-get.ensures.lookup.3

pub returns-then-x-offset : goal.returns-then-x-offset
returns-then-x-offset c =
    let l = c.in_ok-get.ensures.lookup in
    count_stop c.loop-i.invariant _ (c.from-offset.ensures ∙ l.4 (omega arith) 0) c.loop-i-test.true l.3.0 c.if-x-offset.true

pub returns-in_err-rank : goal.returns-in_err-rank
returns-in_err-rank c =
    let l = c.in_ok-get.ensures.lookup in
    ap option_of c.from_residual-in_err-rank.ensures
    ∙ count_over c.loop-i.invariant _ (c.from-offset.ensures ∙ l.4 (omega arith) 0) c.loop-i-test.true l.3.0 c.if-x-offset.false (omega (arith, c.in_err-rank.ensures))

pub loop-i-preserved : goal.loop-i-preserved
loop-i-preserved c =
    let l = c.in_ok-get.ensures.lookup in
    count_on c.loop-i.invariant _ (c.from-offset.ensures ∙ l.4 (omega arith) 0) c.loop-i-test.true l.3.0 c.if-x-offset.false _ c.in_ok-rank.ensures

pub returns : goal.returns
returns c = count_end c.loop-i.invariant c.loop-i-test.false
