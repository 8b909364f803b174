-- `oscjardum_build`: SHORT; or the build, the record and the answer told.
use Rattle.flight.proofs.Putting.{long_counts, long_out}
use Rattle.flight.proofs.Made.{build_short, build_told}
use Rattle.flight.proofs.makes.oscjardum_build.Goals as goal

pub returns-then-short : goal.returns-then-short
returns-then-short c =
    build_short _ _ _ _ _ _ _ _ _ _ _ _ _ _ _ _ _ c.short.ensures c.if-short.true c.zero_areas.ensures (c.fill.ensures.after (λ y h. h))

pub record_built-requires : goal.record_built-requires
record_built-requires c = long_counts _ _ _ c.short.ensures c.if-short.false

pub tell-requires : goal.tell-requires
tell-requires c = long_out _ _ _ c.short.ensures c.if-short.false

pub returns : goal.returns
returns c =
    build_told _ _ _ _ _ _ _ _ _ _ _ _ c.short.ensures c.if-short.false c.build-built.ensures c.record_built.ensures c.of_built.ensures c.tell.ensures
