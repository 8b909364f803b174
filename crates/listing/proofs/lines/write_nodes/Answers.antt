-- `listing::lines::write_nodes` meets its contract. The loop's invariant: the lines of the first k nodes stand in the bytes, up to `next`.
use Rattle.listing.proofs.Putting.{none_fit, went, broke}
use Rattle.listing.proofs.Nodes.{listed_none, listed_more, listed_halted}
use borrow.Author.Rules.{rules}
use Rattle.listing.proofs.lines.write_nodes.Goals as goal

pub returns-then-out-at : goal.returns-then-out-at
returns-then-out-at c = search (none_fit, rules)

pub loop-k-init : goal.loop-k-init
loop-k-init c = search (listed_none, rules)

pub returns-in_err-next : goal.returns-in_err-next
returns-in_err-next c = search (listed_halted, broke, rules)

pub loop-k-preserved : goal.loop-k-preserved
loop-k-preserved c = search (listed_more, went, rules)
