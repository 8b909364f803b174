-- `oscjardum_is_empty`: the record read, the tree asked, the answer told.
use Rattle.meaning.specs.Questions.{lent_at, is_empty_in}
use Rattle.flight.specs.Layout.{of_truth}
use Rattle.flight.proofs.Called.{asks}
use Rattle.flight.proofs.asks.oscjardum_is_empty.Goals as goal

pub returns : goal.returns
returns c =
    let a = c.args in
    asks of_truth (λ t. is_empty_in t (lent_at a.words.now a.bytes.now a.middles.now a.larges.now a.labels.now)) _ _ _
    c.counts_of.ensures c.is_empty-said.ensures c.of_truth.ensures c.answer.ensures
