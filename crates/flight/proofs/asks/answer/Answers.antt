-- `answer`: each way out by its law.
use Rattle.flight.proofs.Putting.{long_out}
use Rattle.flight.proofs.Called.{answer_short, answer_told}
use borrow.Author.Rules.{rules}
use Rattle.flight.proofs.asks.answer.Goals as goal

pub returns-then-short : goal.returns-then-short
returns-then-short c = search (answer_short, rules)

pub tell-requires : goal.tell-requires
tell-requires c = search (long_out, rules)

pub returns : goal.returns
returns c = search (answer_told, rules)
