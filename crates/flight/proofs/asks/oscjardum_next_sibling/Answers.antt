-- `oscjardum_next_sibling`: the record read, the tree asked, the answer told.
use Rattle.meaning.specs.Questions.{lent_at, next_sibling}
use Rattle.flight.specs.Layout.{of_edge}
use Rattle.flight.proofs.Called.{asks}
use Rattle.flight.proofs.asks.oscjardum_next_sibling.Goals as goal

pub returns : goal.returns
returns c =
    let a = c.args in
    asks of_edge (λ t. next_sibling t (lent_at a.words.now a.bytes.now a.middles.now a.larges.now a.labels.now) (record { place = a.place; id = a.id })) _ _ _
    c.counts_of.ensures c.next_sibling-said.ensures c.of_edge.ensures c.answer.ensures
