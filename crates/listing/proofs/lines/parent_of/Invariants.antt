-- `listing::lines::parent_of` meets its contract. The loop's invariant: no node from place j on up to k is of a lower level.
use Rattle.listing.proofs.Nodes.{Back}
use Rattle.listing.proofs.lines.parent_of.Given as goal

abbrev pub invariant-loop-j : goal.invariant-loop-j
invariant-loop-j l = Back l.levels l.k l.v l.j
