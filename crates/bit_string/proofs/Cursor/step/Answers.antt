-- `Cursor::step` meets its contract.
use Rattle.bit_string.proofs.Stepped.{step_one}
use Rattle.bit_string.proofs.Cursor.step.Goals as goal

pub returns : goal.returns
returns c = step_one _ _ _ _ c.in_ok-place.ensures c.in-Some.place c.in-Some.is
