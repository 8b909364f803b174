-- `oscjardum_byte_size`: the record read, the tree asked, the answer told.
use Rattle.meaning.specs.Questions.{lent_at, bytes_held}
use Rattle.flight.specs.Layout.{of_number}
use Rattle.flight.proofs.Called.{asks}
use Rattle.flight.proofs.asks.oscjardum_byte_size.Goals as goal

pub returns : goal.returns
returns c =
    let a = c.args in
    asks of_number (λ t. bytes_held t (lent_at a.words.now a.bytes.now a.middles.now a.larges.now a.labels.now)) _ _ _
    c.counts_of.ensures c.byte_size-said.ensures c.of_number.ensures c.answer.ensures
