-- `select` meets its contract. Assumes nothing.
use Rattle.closes.proofs.Flags.{select_lost, select_is}
use borrow.Author.Rules.{rules}
use Rattle.closes.proofs.family.At.select.Goals as goal

pub returns-in_err-ok : goal.returns-in_err-ok
returns-in_err-ok c = search (select_lost, c.in_err-ok.was, rules)

pub returns : goal.returns
returns c = search (select_is, c.in_ok-ok.was, rules)
