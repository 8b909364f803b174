-- `plan` meets its contract: by what the first pass finds.
use mathlib.Core.Path.{sym, ap, ◌∙◌}
use Rattle.sparse_one_nnd.specs.Said.{said_entries}
use Rattle.sparse_one_nnd.proofs.Replies.{passed_on}
use Rattle.sparse_one_nnd.proofs.Plans.{counts_few, plan_counted}
use Rattle.sparse_one_nnd.proofs.SparseOneNnd.plan.Goals as goal

pub returns-in_err-found : goal.returns-in_err-found
returns-in_err-found c = ap said_entries (passed_on _ _ c.from_residual.ensures.1) ∙ sym c.in_err-found.ensures.plan

pub counts_of-requires : goal.counts_of-requires
counts_of-requires c = counts_few c.in_ok-found.ensures

pub returns : goal.returns
returns c = plan_counted c.in_ok-found.ensures _ c.counts_of.ensures
