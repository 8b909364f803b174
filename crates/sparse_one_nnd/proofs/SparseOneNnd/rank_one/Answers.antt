-- `rank_one` meets its contract: the counts fit, and the question is asked of their part.
use mathlib.Core.Path.{ap, ◌∙◌}
use Rattle.meaning.specs.Answers.{or_broken}
use Rattle.meaning.specs.Dictionary.{rank_of}
use Rattle.meaning.specs.Direct.{dict_rank}
use Rattle.refusal.specs.Said.{said_number}
use Rattle.sparse_one_nnd.proofs.Replies.{passed_on}
use Rattle.sparse_one_nnd.proofs.Asked.{unfit, fit}
use Rattle.sparse_one_nnd.proofs.SparseOneNnd.rank_one.Goals as goal

pub returns-in_err-own : goal.returns-in_err-own
unfolding dict_rank
returns-in_err-own c = ap said_number (passed_on _ _ c.from_residual.ensures.1) ∙ unfit _ _ _ _ c.in_err-own.ensures

pub returns : goal.returns
unfolding dict_rank
returns c = c.rank.ensures ∙ fit _ _ (λ d. or_broken (rank_of d c.args.place)) _ c.in_ok-own.ensures
