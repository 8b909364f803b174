-- `onward` meets its contract. Assumes nothing.
use Rattle.walk.proofs.Stepping.{onward_none, onward_is, onward_refused, onward_back}
use borrow.Author.Rules.{rules}
use Rattle.walk.proofs.onward.onward.Goals as goal

pub returns-then-n-eq0 : goal.returns-then-n-eq0
returns-then-n-eq0 c = search (onward_none, rules)

pub returns-in_err-edge : goal.returns-in_err-edge
returns-in_err-edge c = search (onward_refused, c.in_err-edge.was, rules)

pub returns-in-Some : goal.returns-in-Some
returns-in-Some c = search (onward_is, c.in_ok-edge.was, rules)

pub returns : goal.returns
returns c = search (onward_back, c.in_ok-edge.was, rules)
