-- `listing::writer::write_bytes` meets its contract. The loop's invariant: the bytes so far stand in the lent ones, up to `next`.
use Rattle.listing.proofs.Putting.{none_fit, copied_more, copied_halted, went, broke}
use borrow.Author.Rules.{rules}
use Rattle.listing.proofs.writer.write_bytes.Goals as goal

pub returns-then-out-at : goal.returns-then-out-at
returns-then-out-at c = search (none_fit, rules)

pub returns-in_err-next : goal.returns-in_err-next
returns-in_err-next c = search (copied_halted, broke, rules)

pub loop-b-preserved : goal.loop-b-preserved
loop-b-preserved c = search (copied_more, went, rules)
