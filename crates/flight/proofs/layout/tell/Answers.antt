-- `tell`: each way out by its law.
use Rattle.flight.proofs.Called.{reply_told}
use borrow.Author.Rules.{rules}
use Rattle.flight.proofs.layout.tell.Goals as goal

pub returns : goal.returns
returns c = search (reply_told, rules)
