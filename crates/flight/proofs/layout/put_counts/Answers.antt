-- `put_counts`: two stores, and four at a time.
use native.Mathlib.Omega.{arith}
use lib.ListN.{length-set}
use Rattle.flight.proofs.Putting.{counts_set}
use Rattle.flight.proofs.layout.put_counts.Goals as goal

pub bounds-counts-1 : goal.bounds-counts-1
bounds-counts-1 c = simp length-set (omega arith)

pub put_four-requires : goal.put_four-requires
put_four-requires c = simp length-set (omega arith)

pub put_four-requires-2 : goal.put_four-requires-2
put_four-requires-2 c = omega (arith, simp length-set at c.put_four.auto.s)

pub put_four-requires-3 : goal.put_four-requires-3
put_four-requires-3 c = omega (arith, simp length-set at c.put_four.auto.s)

pub put_four-requires-4 : goal.put_four-requires-4
put_four-requires-4 c = omega (arith, simp length-set at c.put_four.auto.s)

pub shape_of-counts : goal.shape_of-counts
shape_of-counts c =
    omega (
      arith,
      c.put_four-4.auto.s,
      c.put_four-3.auto.s,
      c.put_four-2.auto.s,
      simp length-set at c.put_four.auto.s,
    )

pub returns : goal.returns
returns c =
    let a = c.args in
    counts_set a.counts.now c.put_four.new.s c.put_four-2.new.s c.put_four-3.new.s c.put_four-4.new.s a.c
    c.put_four.ensures c.put_four-2.ensures c.put_four-3.ensures c.put_four-4.ensures
