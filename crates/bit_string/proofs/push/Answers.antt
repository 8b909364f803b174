-- `push` meets its contract.
use mathlib.Core.Bool.{not}
use mathlib.Core.Path.{ap}
use Rattle.bit_string.proofs.Checked.{longer_room, longer_held}
use Rattle.bit_string.proofs.push.Goals as goal

pub returns-then-not-enough-2 : goal.returns-then-not-enough-2
returns-then-not-enough-2 c =
    longer_room _ _ _ c.enough.ensures (ap not c.if-not-enough.false) _ c.in-Some.ensures c.enough-2.ensures (ap not c.if-not-enough-2.true)

pub returns : goal.returns
returns c =
    longer_held _ _ _ c.enough.ensures (ap not c.if-not-enough.false) _ c.in-Some.ensures c.enough-2.ensures (ap not c.if-not-enough-2.false) c.store.ensures
