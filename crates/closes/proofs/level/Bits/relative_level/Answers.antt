-- `relative_level` meets its contract. Assumes nothing.
use Rattle.closes.proofs.Walks.{count_on, count_none, count_done}
use borrow.Author.Rules.{rules}
use Rattle.closes.proofs.level.Bits.relative_level.Goals as goal

pub returns-in_err-depth : goal.returns-in_err-depth
returns-in_err-depth c = search (count_none, rules)

pub loop-i-preserved : goal.loop-i-preserved
loop-i-preserved c = search (count_on, c.in_ok-depth.was, rules)

pub returns : goal.returns
returns c = search (count_done, rules)
