-- `close_of` meets its contract. Assumes nothing.
use Rattle.questions.proofs.Passing.{closed_lost, closed_broken, closed_back, closed_is}
use borrow.Author.Rules.{rules}
use Rattle.questions.proofs.checks.close_of.Goals as goal

pub returns-in_err-check : goal.returns-in_err-check
returns-in_err-check c = search (closed_lost, rules)

pub returns-in_err-close : goal.returns-in_err-close
returns-in_err-close c = search (closed_broken, c.in_ok-check.ensures, rules)

pub returns-then-close-node : goal.returns-then-close-node
returns-then-close-node c = search (closed_back, c.in_ok-check.ensures, c.in_ok-close.was, rules)

pub returns : goal.returns
returns c = search (closed_is, c.in_ok-check.ensures, c.in_ok-close.was, rules)
