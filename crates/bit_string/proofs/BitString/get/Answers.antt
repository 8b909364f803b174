-- `BitString::get` meets its contract.
use Rattle.bit_string.proofs.Checked.{get_none}
use Rattle.bit_string.proofs.BitString.get.Goals as goal

pub returns-then-n-i : goal.returns-then-n-i
returns-then-n-i c = get_none _ _ _ c.in_ok-n.ensures _ c.if-n-i.true
