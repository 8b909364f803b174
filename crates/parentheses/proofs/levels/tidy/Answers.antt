-- `tidy`: the string's part is packed, and the front is zero.
use Rattle.parentheses.proofs.Standing.{tidied}
use Rattle.parentheses.proofs.levels.tidy.Goals as goal

pub returns : goal.returns
returns c = tidied _ _ c.requires _ c.trim.ensures _ (c.fill.ensures.after (λ y e. e))
