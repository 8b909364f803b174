-- `rank_from` meets its contract: by the start.
use mathlib.Core.Path.{ap, ◌∙◌}
use Rattle.refusal.specs.Said.{option_of}
use Rattle.sparse_one_nnd.proofs.Starts.{rank_broken, rank_begun}
use Rattle.sparse_one_nnd.proofs.DictAreas.rank_from.Goals as goal

pub returns-in_err-start : goal.returns-in_err-start
returns-in_err-start c = ap option_of c.from_residual.ensures ∙ rank_broken _ _ _ _ c.in_err-start.ensures

pub returns : goal.returns
returns c = c.rank_walk.ensures ∙ rank_begun _ _ _ _ c.in_ok-start.start c.in_ok-start.ensures
