-- `is_empty` meets its contract. Assumes nothing.
use Rattle.questions.proofs.Asking.{empty_lost, empty_is}
use borrow.Author.Rules.{rules}
use Rattle.questions.proofs.is_empty.Goals as goal

pub returns-in_err-nodes : goal.returns-in_err-nodes
returns-in_err-nodes c = search (empty_lost, rules)

pub returns : goal.returns
returns c = search (empty_is, c.in_ok-nodes.ensures, rules)
