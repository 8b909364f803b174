-- `listing::lines::parent_of` meets its contract. The loop's invariant: no node from place j on up to k is of a lower level.
use Rattle.listing.proofs.Nodes.{parent_past, back_start, back_more, back_found, back_none}
use borrow.Author.Rules.{rules}
use Rattle.listing.proofs.lines.parent_of.Goals as goal

pub returns-in_default : goal.returns-in_default
returns-in_default c = search (parent_past, rules)

pub loop-j-init : goal.loop-j-init
loop-j-init c = search (back_start, rules)

pub returns-then-levels-j : goal.returns-then-levels-j
returns-then-levels-j c = search (back_found, rules)

pub loop-j-preserved : goal.loop-j-preserved
loop-j-preserved c = search (back_more, rules)

pub returns : goal.returns
returns c = search (back_none, rules)
