-- `all_fit` meets its contract. Assumes nothing.
use Rattle.closes.proofs.Rooms.{left_out, left_on, left_done}
use borrow.Author.Rules.{rules}
use Rattle.closes.proofs.fit.all_fit.Goals as goal

pub returns-then-left-n-clause-within : goal.returns-then-left-n-clause-within
returns-then-left-n-clause-within g c = search (left_out, rules)

pub loop-n-preserved : goal.loop-n-preserved
loop-n-preserved g c = search (left_on, rules)

pub returns-clause-within : goal.returns-clause-within
returns-clause-within g c = search (left_done, rules)
