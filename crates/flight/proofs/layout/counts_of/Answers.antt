-- `counts_of`: each way out by its law.
use Rattle.flight.proofs.Putting.{counts_read}
use borrow.Author.Rules.{rules}
use Rattle.flight.proofs.layout.counts_of.Goals as goal

pub returns : goal.returns
returns c = search (counts_read, rules)
