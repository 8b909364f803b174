-- `rank_walk` meets its contract. The invariant is `Walking`.
use mathlib.Core.Path.{ap, ◌∙◌}
use native.Mathlib.Omega.{arith}
use Rattle.refusal.specs.Said.{option_of}
use Rattle.sparse_one_nnd.proofs.Ranks.{walk_end, walk_in, walk_out, walk_over, walk_on}
use Rattle.sparse_one_nnd.proofs.rank.rank_walk.Goals as goal

pub returns-then-left-eq0 : goal.returns-then-left-eq0
returns-then-left-eq0 c = c.count_in.ensures ∙ walk_in c.loop-count.invariant _ _ _ c.from-n.ensures c.in-Some.ensures.cases.0 c.if-left-eq0.true

pub returns-in_err-rest : goal.returns-in_err-rest
returns-in_err-rest c =
    ap option_of c.from_residual.ensures
    ∙ walk_out c.loop-count.invariant _ _ _ c.from-n.ensures c.in-Some.ensures.cases.0 c.if-left-eq0.false c.in_err-rest.ensures.lookup.0

pub returns-in_err-rank : goal.returns-in_err-rank
returns-in_err-rank c =
    ap option_of c.from_residual-in_err-rank.ensures
    ∙ walk_over c.loop-count.invariant _ _ _ c.from-n.ensures c.in-Some.ensures.cases.0 c.if-left-eq0.false c.in_ok-rest.ensures.lookup.0.0 (omega (arith, c.in_err-rank.ensures))

pub loop-count-preserved : goal.loop-count-preserved
loop-count-preserved c =
    let l = c.in_ok-rest.ensures.lookup.0 in
    walk_on c.loop-count.invariant _ _ _ c.from-n.ensures c.in-Some.ensures.cases.0 c.if-left-eq0.false l.0 _ _ c.in_ok-rank.ensures l.2

pub returns : goal.returns
returns c = walk_end c.loop-count.invariant c.in_default.ensures.cases
