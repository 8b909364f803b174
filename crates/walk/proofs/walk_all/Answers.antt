-- `walk_all` meets its contract. Assumes nothing.
use Rattle.std.proofs.Common.{◌-◌, ◌^◌, ◌<◌, ◌∙◌, arith}
use Rattle.std.proofs.lemmas.Result.{err_from_is_err_and}
use Rattle.walk.proofs.Turns.{start, end_none, end_refused, end_many, end_deep, room_left, more}
use borrow.Author.Rules.{rules}
use Rattle.walk.proofs.walk_all.Goals as goal

pub loop-under-init : goal.loop-under-init
loop-under-init c = search (start, rules)

pub returns-in_err-under : goal.returns-in_err-under
returns-in_err-under c =
    let p = err_from_is_err_and c.from_residual.result c.from_residual.ensures.1 in
    rw (p.1, p.2) (search (end_refused, c.in_err-under.was, rules))

pub returns-in_default-try_from : goal.returns-in_default-try_from
returns-in_default-try_from c =
    let o = c.in-Some.field-0 in
    let h : ¬ (o.under - 1 < 2 ^ 32) = λ k. c.in_default-try_from.ensures (omega (arith, c.saturating_sub.ensures)) in
    end_deep _ _ _ _ _ _ _ _ _ _ _ c.loop-under.invariant _ c.onward.ensures _ c.in_ok-under.was o c.in-Some.is h

pub returns-then-told-nodes : goal.returns-then-told-nodes
returns-then-told-nodes c = search (end_many, c.in_ok-under.was, rules)

pub put_node-requires-in-Some : goal.put_node-requires-in-Some
put_node-requires-in-Some c = search (room_left, c.in_ok-under.was, rules)

pub loop-under-preserved : goal.loop-under-preserved
loop-under-preserved c =
    let o = c.in-Some.field-0 in
    let h : o.under - 1 < 2 ^ 32 = omega (arith, c.in-Ok.ensures.0, c.saturating_sub.ensures) in
    more _ _ _ _ _ _ _ _ _ _ _ c.loop-under.invariant _ c.onward.ensures _ c.in_ok-under.was o c.in-Some.is c.if-told-nodes.false
    c.in-Ok.level h (c.in-Ok.ensures.1 ∙ c.saturating_sub.ensures) _ c.put_node-in-Some.ensures

pub returns : goal.returns
returns c = search (end_none, c.in_ok-under.was, rules)
