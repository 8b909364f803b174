-- `listing::writer::write_bytes` meets its contract. The loop's invariant: the bytes so far stand in the lent ones, up to `next`.
use Rattle.listing.proofs.Putting.{Copied}
use Rattle.listing.proofs.writer.write_bytes.Given as goal

abbrev pub invariant-loop-b : goal.invariant-loop-b
invariant-loop-b l = Copied l.text l.initial.out l.at l.out l.next l.b-index
