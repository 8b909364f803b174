-- `in_word` meets its contract. Assumes nothing.
use Rattle.closes.proofs.Walks.{search_on, search_here, search_done}
use borrow.Author.Rules.{rules}
use Rattle.closes.proofs.level.Bits.in_word.Goals as goal

pub returns-in_default : goal.returns-in_default
returns-in_default c = search (search_here, rules)

pub loop-step-preserved : goal.loop-step-preserved
loop-step-preserved c = search (search_on, rules)

pub returns : goal.returns
returns c = search (search_done, rules)
