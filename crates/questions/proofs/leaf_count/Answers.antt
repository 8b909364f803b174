-- `leaf_count` meets its contract. Assumes nothing.
use Rattle.questions.proofs.Asking.{leaves_lost, leaves_are, close_high, close_low}
use borrow.Author.Rules.{rules}
use Rattle.questions.proofs.leaf_count.Goals as goal

pub returns-in_err-close : goal.returns-in_err-close
returns-in_err-close c = search (leaves_lost, rules)

pub leaves_between-requires : goal.leaves_between-requires
leaves_between-requires c = (search (close_high, c.in_ok-close.ensures, rules), search (close_low, c.in_ok-close.ensures, rules))

pub returns : goal.returns
returns c = search (leaves_are, c.in_ok-close.ensures, rules)
