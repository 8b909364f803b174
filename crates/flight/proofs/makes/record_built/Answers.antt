-- `record_built`: the tree's numbers, or zeros.
use mathlib.Core.Path.{◌∙◌}
use Rattle.flight.proofs.Made.{record_told, record_kept, zeros_front}
use Rattle.flight.proofs.makes.record_built.Goals as goal

pub returns-in-Ok : goal.returns-in-Ok
returns-in-Ok c = record_told _ _ _ _ _ c.in-Ok.is c.put_counts.ensures

pub returns-in-Err : goal.returns-in-Err
returns-in-Err c = zeros_front _ _ c.requires (c.fill.ensures.after (λ y h. h)) ∙ record_kept _ _ _ _ c.in-Err.is
