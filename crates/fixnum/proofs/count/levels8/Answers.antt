-- `count::levels8` meets its contract: each sum holds its counts, since a mask bounds it, and the lowest four bits of the last are the count.
use mathlib.Core.Path.{refl, ◌∙◌}
use lib.Dec.{lit<}
use Rattle.fixnum.proofs.Descent.{levels8}
use Rattle.fixnum.proofs.Fields.{evens, by_four, counted8, slide}
use Rattle.fixnum.proofs.count.levels8.Goals as goal

pub invariant_of-result : goal.invariant_of-result
unfolding evens
invariant_of-result c =
    let h = by_four {e₁ = 0x55} {e₂ = 0x33} 2 c.args.x refl refl c.ranges.x.fits in
    record {
      counted = levels8 c.from.ensures c.from-2.ensures c.from-3.ensures h.0 h.1 c.ranges.x.fits
          (c.from-4.ensures ∙ counted8 (slide 4 1 (lit< tt) h.1));
    }
