-- `pred` meets its contract: by what rank answers.
use mathlib.Core.Path.{ap, ◌∙◌}
use Rattle.refusal.specs.Said.{found_number}
use Rattle.sparse_one_nnd.proofs.Replies.{passed_on}
use Rattle.sparse_one_nnd.proofs.Asked.{pred_broken, pred_is}
use Rattle.sparse_one_nnd.proofs.DictAreas.pred.Goals as goal

pub returns-in_err-rank : goal.returns-in_err-rank
returns-in_err-rank c = ap found_number (passed_on _ _ c.from_residual.ensures.1) ∙ pred_broken _ _ _ c.in_err-rank.ensures

pub returns : goal.returns
returns c = c.select.ensures ∙ pred_is _ _ _ c.in_ok-rank.ensures
