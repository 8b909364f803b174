-- `first_child` meets its contract. Assumes nothing.
use Rattle.questions.proofs.Asking.{child_lost, child_none, child_found}
use borrow.Author.Rules.{rules}
use Rattle.questions.proofs.first_child.Goals as goal

pub returns-in_err-check : goal.returns-in_err-check
returns-in_err-check c = search (child_lost, rules)

pub returns-in_default : goal.returns-in_default
returns-in_default c = search (child_none, c.in_ok-check.ensures, rules)

pub returns : goal.returns
returns c = search (child_found, c.in_ok-check.ensures, rules)
