-- `oscjardum_walk`: SHORT; or the walk, and the answer told.
use Rattle.flight.proofs.Putting.{long_out}
use Rattle.flight.proofs.Toured.{tour_short, tour_told}
use borrow.Author.Rules.{rules}
use Rattle.flight.proofs.walks.oscjardum_walk.Goals as goal

pub returns-then-short : goal.returns-then-short
returns-then-short c =
    let a = c.args in
    tour_short _ a.counts.now a.out_levels.now a.out_labels.now a.scratch.now a.out.now _ _ _ _ c.short.ensures c.if-short.true
    (c.fill.ensures.after (λ y h. h)) (c.fill-then-short.ensures.after (λ y h. h)) (c.fill-then-short-2.ensures.after (λ y h. h))

pub tell-requires : goal.tell-requires
tell-requires c = long_out _ _ _ c.short.ensures c.if-short.false

pub returns : goal.returns
returns c = search (tour_told, rules)
