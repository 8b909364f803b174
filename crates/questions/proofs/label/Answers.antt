-- `label` meets its contract. Assumes nothing.
use Rattle.questions.proofs.Asking.{label_lost, label_none, label_broken, label_is}
use borrow.Author.Rules.{rules}
use Rattle.questions.proofs.label.Goals as goal

pub returns-in_err-check : goal.returns-in_err-check
returns-in_err-check c = search (label_lost, rules)

pub returns-then-node-eq0 : goal.returns-then-node-eq0
returns-then-node-eq0 c = search (label_none, c.in_ok-check.ensures, rules)

pub returns-in_err-label : goal.returns-in_err-label
returns-in_err-label c = search (label_broken, c.in_ok-check.ensures, c.in_err-label.ensures, rules)

pub returns : goal.returns
returns c = search (label_is, c.in_ok-check.ensures, c.in_ok-label.ensures, rules)
