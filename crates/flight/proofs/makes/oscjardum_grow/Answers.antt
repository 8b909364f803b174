-- `oscjardum_grow`: SHORT; or the growth, the record and the answer told.
use Rattle.flight.proofs.Putting.{long_counts, long_out}
use Rattle.flight.proofs.Made.{grow_short, grow_told}
use Rattle.flight.proofs.makes.oscjardum_grow.Goals as goal

pub returns-then-short : goal.returns-then-short
returns-then-short c =
    grow_short _ _ _ _ _ _ _ _ _ _ _ _ c.short.ensures c.if-short.true (c.fill.ensures.after (λ y h. h))

pub record_grown-requires : goal.record_grown-requires
record_grown-requires c = long_counts _ _ _ c.short.ensures c.if-short.false

pub tell-requires : goal.tell-requires
tell-requires c = long_out _ _ _ c.short.ensures c.if-short.false

pub returns : goal.returns
returns c =
    grow_told _ _ _ _ _ _ _ _ _ _ _ _ _ c.short.ensures c.if-short.false c.counts_of-c.ensures c.grow-grown.ensures c.record_grown.ensures c.of_built.ensures c.tell.ensures
