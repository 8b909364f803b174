-- `next_sibling` meets its contract. Assumes nothing.
use Rattle.questions.proofs.Asking.{sibling_lost, sibling_none, sibling_found, id_fits, close_high}
use borrow.Author.Rules.{rules}
use Rattle.questions.proofs.next_sibling.Goals as goal

pub returns-in_err-close : goal.returns-in_err-close
returns-in_err-close c = search (sibling_lost, rules)

pub returns-in_default : goal.returns-in_default
returns-in_default c = search (sibling_none, c.in_ok-close.ensures, rules)

pub returns : goal.returns
returns c = search (sibling_found, c.in_ok-close.ensures, rules)

pub overflow_sub-close : goal.overflow_sub-close
overflow_sub-close c = search (close_high, c.in_ok-close.ensures, rules)

pub overflow_add-node : goal.overflow_add-node
overflow_add-node c = record { fits = search (id_fits, c.in_ok-close.ensures, rules) }
