-- `own` meets its contract: by the tests on the way.
use mathlib.Core.Path.{refl}
use Rattle.meaning.specs.Direct.{dict_in}
use Rattle.sparse_one_nnd.proofs.Parts.{unfit_bytes, unfit_middles, unfit_larges, fit_all}
use Rattle.sparse_one_nnd.proofs.DictAreas.own.Goals as goal
use Rattle.sparse_one_nnd.proofs.DictAreas.own.Goals.{then-self-counts-via-then-self-counts, then-self-counts-via-else-self-counts+then-self-counts-2, then-self-counts-via-else-self-counts+else-self-counts-2+then-self-counts-3}

pub returns-then-self-counts : goal.returns-then-self-counts
returns-then-self-counts c =
    elim c.then-self-counts.branch [
      | then-self-counts-via-then-self-counts w ↦ (unfit_bytes _ _ _ _ w.if-self-counts.true, refl)
      | then-self-counts-via-else-self-counts+then-self-counts-2 w ↦ (unfit_middles _ _ _ _ w.if-self-counts-2.true, refl)
      | then-self-counts-via-else-self-counts+else-self-counts-2+then-self-counts-3 w ↦ (unfit_larges _ _ _ _ w.if-self-counts-3.true, refl)
    ]

pub returns : goal.returns
unfolding dict_in
returns c = (fit_all _ _ _ _ c.if-self-counts.false c.if-self-counts-2.false c.if-self-counts-3.false, refl)
