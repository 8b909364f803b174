-- `check` meets its contract. Assumes nothing.
use Rattle.std.proofs.lemmas.Result.{err_from_is_err_and}
use Rattle.questions.proofs.Passing.{check_lost, rank_lost, check_id, check_shut, check_passed}
use borrow.Author.Rules.{rules}
use Rattle.questions.proofs.checks.check.Goals as goal

pub returns-in_err-open : goal.returns-in_err-open
returns-in_err-open c = search (check_lost, rules)

pub returns-in_err-rank_one : goal.returns-in_err-rank_one
returns-in_err-rank_one c =
    let r = c.from_residual-in_err-rank_one in
    let p = err_from_is_err_and r.result r.ensures.1 in
    rw (p.1, p.2) (search (rank_lost, c.in_ok-open.was, c.in_err-rank_one.ensures, rules))

pub returns-then-branch : goal.returns-then-branch
returns-then-branch c = search (check_id, c.in_ok-open.was, c.in_ok-rank_one.ensures, rules)

pub returns-then-not-open : goal.returns-then-not-open
returns-then-not-open c = search (check_shut, c.in_ok-open.was, c.in_ok-rank_one.ensures, rules)

pub returns : goal.returns
returns c = search (check_passed, c.in_ok-open.was, c.in_ok-rank_one.ensures, rules)
