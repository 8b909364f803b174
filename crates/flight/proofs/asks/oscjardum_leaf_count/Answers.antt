-- `oscjardum_leaf_count`: the record read, the tree asked, the answer told.
use Rattle.meaning.specs.Questions.{lent_at, leaves_below}
use Rattle.flight.specs.Layout.{of_number}
use Rattle.flight.proofs.Called.{asks}
use Rattle.flight.proofs.asks.oscjardum_leaf_count.Goals as goal

pub returns : goal.returns
returns c =
    let a = c.args in
    asks of_number (λ t. leaves_below t (lent_at a.words.now a.bytes.now a.middles.now a.larges.now a.labels.now) (record { place = a.place; id = a.id })) _ _ _
    c.counts_of.ensures c.leaf_count-said.ensures c.of_number.ensures c.answer.ensures
