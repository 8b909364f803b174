-- `oscjardum_close`: the record read, the tree asked, the answer told.
use Rattle.meaning.specs.Questions.{lent_at, close_in}
use Rattle.flight.specs.Layout.{of_number}
use Rattle.flight.proofs.Called.{asks}
use Rattle.flight.proofs.asks.oscjardum_close.Goals as goal

pub returns : goal.returns
returns c =
    let a = c.args in
    asks of_number (λ t. close_in t (lent_at a.words.now a.bytes.now a.middles.now a.larges.now a.labels.now) a.place) _ _ _
    c.counts_of.ensures c.get_close-said.ensures c.of_number.ensures c.answer.ensures
