-- `oscjardum_bit`: the record read, the tree asked, the answer told.
use Rattle.meaning.specs.Questions.{lent_at, bit_in}
use Rattle.flight.specs.Layout.{of_number}
use Rattle.flight.proofs.Called.{asks}
use Rattle.flight.proofs.asks.oscjardum_bit.Goals as goal

pub returns : goal.returns
returns c =
    let a = c.args in
    asks of_number (λ t. bit_in t (lent_at a.words.now a.bytes.now a.middles.now a.larges.now a.labels.now) a.place) _ _ _
    c.counts_of.ensures c.get-said.ensures c.of_bit.ensures c.answer.ensures
