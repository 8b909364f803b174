-- `back` meets its contract. Assumes nothing.
use Rattle.walk.proofs.Stepping.{back_is, back_refused, back_none, back_on}
use Rattle.std.proofs.lemmas.Result.{err_from_is_err_and}
use borrow.Author.Rules.{rules}
use Rattle.walk.proofs.onward.back.Goals as goal

pub returns-in_err-edge : goal.returns-in_err-edge
returns-in_err-edge c =
    let p = err_from_is_err_and c.from_residual.result c.from_residual.ensures.1 in
    rw (p.1, p.2) (search (back_refused, c.in_err-edge.was, rules))

pub returns-in-Some : goal.returns-in-Some
returns-in-Some c = search (back_is, c.in_ok-edge.was, rules)

pub loop-d-preserved : goal.loop-d-preserved
loop-d-preserved c = search (back_on, c.in_ok-edge.was, rules)

pub returns : goal.returns
returns c = search (back_none, rules)
