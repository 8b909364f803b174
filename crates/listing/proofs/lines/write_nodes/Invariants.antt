-- `listing::lines::write_nodes` meets its contract. The loop's invariant: the lines of the first k nodes stand in the bytes, up to `next`.
use Rattle.listing.specs.Said.{ids_in}
use Rattle.listing.proofs.Nodes.{Listed}
use Rattle.listing.proofs.lines.write_nodes.Given as goal

abbrev pub invariant-loop-k : goal.invariant-loop-k
invariant-loop-k l = Listed l.levels l.labels (ids_in l.siblings) l.initial.out l.at l.out l.next l.k
