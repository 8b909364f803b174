-- `select_walk` meets its contract. The invariant is `Finding`.
use mathlib.Core.Path.{ap, ◌∙◌}
use native.Mathlib.Omega.{arith}
use Rattle.refusal.specs.Said.{found_number}
use Rattle.sparse_one_nnd.proofs.Replies.{broken_of, value_of, part_none, part_some}
use Rattle.sparse_one_nnd.proofs.Selects.{find_end, find_in, find_out, find_on}
use Rattle.sparse_one_nnd.proofs.select.select_walk.Goals as goal

pub returns-then-left-n : goal.returns-then-left-n
returns-then-left-n c =
    c.offset_at.ensures ∙ find_in c.loop-count.invariant _ _ _ c.from-n.ensures c.in-Some.ensures.cases.0 _ c.if-left-n.true (omega (arith, c.saturating_sub.ensures))

pub returns-in_err-rest : goal.returns-in_err-rest
returns-in_err-rest c =
    let p = broken_of _ _ _ c.in_err-rest.ensures.value c.from_residual.ensures.1 in
    ap found_number p.1 ∙ find_out c.loop-count.invariant _ _ _ c.from-n.ensures c.in-Some.ensures.cases.0 c.if-left-n.false (part_none _ _ _ c.get.ensures.lookup p.0)

pub loop-count-preserved : goal.loop-count-preserved
loop-count-preserved c =
    let l = part_some _ _ _ c.get.ensures.lookup _ (value_of _ _ c.in_ok-rest.ensures.value) in
    find_on c.loop-count.invariant _ _ _ c.from-n.ensures c.in-Some.ensures.cases.0 c.if-left-n.false _ l.0 l.1

pub returns : goal.returns
returns c = find_end c.loop-count.invariant c.in_default.ensures.cases
