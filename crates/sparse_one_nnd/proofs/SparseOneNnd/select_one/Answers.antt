-- `select_one` meets its contract: the counts fit, and the question is asked of their part.
use mathlib.Core.Path.{ap, ◌∙◌}
use Rattle.meaning.specs.Dictionary.{select_of}
use Rattle.meaning.specs.Direct.{dict_select}
use Rattle.refusal.specs.Said.{found_number}
use Rattle.sparse_one_nnd.proofs.Replies.{passed_on}
use Rattle.sparse_one_nnd.proofs.Asked.{unfit, fit}
use Rattle.sparse_one_nnd.proofs.SparseOneNnd.select_one.Goals as goal

pub returns-in_err-own : goal.returns-in_err-own
unfolding dict_select
returns-in_err-own c = ap found_number (passed_on _ _ c.from_residual.ensures.1) ∙ unfit _ _ _ _ c.in_err-own.ensures

pub returns : goal.returns
unfolding dict_select
returns c = c.select.ensures ∙ fit _ _ (λ d. select_of d c.args.r) _ c.in_ok-own.ensures
