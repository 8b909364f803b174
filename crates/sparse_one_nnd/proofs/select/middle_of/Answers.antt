-- `middle_of` meets its contract: what is looked through is the 32 entries, or what is left of them.
use mathlib.Core.Path.{refl}
use Rattle.sparse_one_nnd.proofs.Seeks.{middle_is}
use Rattle.sparse_one_nnd.proofs.select.middle_of.Goals as goal

pub returns : goal.returns
returns c = middle_is _ _ _ _ _ _ _ refl c.min.ensures c.before-2.ensures.0 c.saturating_sub.ensures
