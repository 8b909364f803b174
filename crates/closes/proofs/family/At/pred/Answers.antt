-- `pred` meets its contract. Assumes nothing.
use Rattle.closes.proofs.Flags.{pred_lost, pred_none, pred_is}
use borrow.Author.Rules.{rules}
use Rattle.closes.proofs.family.At.pred.Goals as goal

pub returns-in_err-last : goal.returns-in_err-last
returns-in_err-last c = search (pred_lost, c.in_err-last.was, rules)

pub returns-in_err-last-2 : goal.returns-in_err-last-2
returns-in_err-last-2 c = search (pred_none, c.in_ok-last.was, c.in_err-last-2.was, rules)

pub returns : goal.returns
returns c = search (pred_is, c.in_ok-last.was, c.in_ok-last-2.was, rules)
