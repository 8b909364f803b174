-- `oscjardum_label`: the record read, the tree asked, the answer told.
use Rattle.meaning.specs.Questions.{lent_at, label_in}
use Rattle.flight.specs.Layout.{of_number}
use Rattle.flight.proofs.Called.{asks}
use Rattle.flight.proofs.asks.oscjardum_label.Goals as goal

pub returns : goal.returns
returns c =
    let a = c.args in
    asks of_number (λ t. label_in t (lent_at a.words.now a.bytes.now a.middles.now a.larges.now a.labels.now) (record { place = a.place; id = a.id })) _ _ _
    c.counts_of.ensures c.label-said.ensures c.of_label.ensures c.answer.ensures
