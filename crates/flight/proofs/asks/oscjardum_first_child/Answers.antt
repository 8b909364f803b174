-- `oscjardum_first_child`: the record read, the tree asked, the answer told.
use Rattle.meaning.specs.Questions.{lent_at, first_child}
use Rattle.flight.specs.Layout.{of_edge}
use Rattle.flight.proofs.Called.{asks}
use Rattle.flight.proofs.asks.oscjardum_first_child.Goals as goal

pub returns : goal.returns
returns c =
    let a = c.args in
    asks of_edge (λ t. first_child t (lent_at a.words.now a.bytes.now a.middles.now a.larges.now a.labels.now) (record { place = a.place; id = a.id })) _ _ _
    c.counts_of.ensures c.first_child-said.ensures c.of_edge.ensures c.answer.ensures
