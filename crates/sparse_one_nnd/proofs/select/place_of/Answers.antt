-- `place_of` meets its contract: what overflows on the way overflows.
use mathlib.Core.Path.{ap, ◌∙◌}
use native.Mathlib.Omega.{arith}
use Rattle.refusal.specs.Said.{option_of}
use Rattle.sparse_one_nnd.proofs.Replies.{sum_over, sum_or}
use Rattle.sparse_one_nnd.proofs.select.place_of.Goals as goal

pub returns-in_err-middle : goal.returns-in_err-middle
returns-in_err-middle c = ap option_of c.from_residual.ensures ∙ sum_over _ (λ h. c.in_err-middle.ensures (omega arith))

pub returns-in_err-block : goal.returns-in_err-block
returns-in_err-block c = ap option_of c.from_residual-in_err-block.ensures ∙ sum_over _ (λ h. c.in_err-block.ensures (omega arith))

pub returns-in_err-checked_add : goal.returns-in_err-checked_add
returns-in_err-checked_add c =
    ap option_of c.from_residual-in_err-checked_add.ensures ∙ sum_over _ (λ h. c.in_err-checked_add.ensures (omega (arith, c.in_ok-middle.ensures, c.in_ok-block.ensures)))

pub returns : goal.returns
returns c =
    sum_or _ _ _ c.checked_add-2.ensures (omega (arith, c.in_ok-middle.ensures, c.in_ok-block.ensures, c.in_ok-checked_add.ensures))
