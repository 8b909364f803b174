-- `size` meets its contract: what overflows on the way overflows.
use mathlib.Core.Path.{ap, ◌∙◌}
use native.Mathlib.Omega.{arith}
use Rattle.refusal.specs.Said.{option_of}
use Rattle.sparse_one_nnd.proofs.Replies.{sum_over, sum_or}
use Rattle.sparse_one_nnd.proofs.SparseOneNnd.size.Goals as goal

pub returns-in_err-middles : goal.returns-in_err-middles
returns-in_err-middles c = ap option_of c.from_residual.ensures ∙ sum_over _ (λ h. c.in_err-middles.ensures (omega arith))

pub returns-in_err-larges : goal.returns-in_err-larges
returns-in_err-larges c = ap option_of c.from_residual-in_err-larges.ensures ∙ sum_over _ (λ h. c.in_err-larges.ensures (omega arith))

pub returns-in_err-checked_add : goal.returns-in_err-checked_add
returns-in_err-checked_add c =
    ap option_of c.from_residual-in_err-checked_add.ensures ∙ sum_over _ (λ h. c.in_err-checked_add.ensures (omega (arith, c.in_ok-middles.ensures, c.in_ok-larges.ensures)))

pub returns : goal.returns
returns c =
    sum_or _ _ _ c.checked_add-2.ensures (omega (arith, c.in_ok-middles.ensures, c.in_ok-larges.ensures, c.in_ok-checked_add.ensures))
