-- `place_longer`: one law for each way out.
use mathlib.Core.Bool.{not}
use mathlib.Core.Path.{ap}
use native.Mathlib.Omega.{arith}
use borrow.Author.Rules.{rules}
use Rattle.longer.proofs.Growing.{bits_are, last_in, longer_broken, longer_many, longer_level, longer_room, longer_ready, longer_made}
use Rattle.longer.proofs.place_longer.Goals as goal

pub returns-then-not-sound : goal.returns-then-not-sound
returns-then-not-sound c = search (longer_broken, rules)

pub overflow_add-result : goal.overflow_add-result
overflow_add-result c = omega (arith, bits_are _ _ _ _ c.sound.ensures (ap not c.if-not-sound.false))

pub returns-then-nodes-ge1048575 : goal.returns-then-nodes-ge1048575
returns-then-nodes-ge1048575 c = search (longer_many, rules)

pub overflow_sub-bits : goal.overflow_sub-bits
overflow_sub-bits c = omega (arith, bits_are _ _ _ _ c.sound.ensures (ap not c.if-not-sound.false))

pub overflow_sub-bits-2 : goal.overflow_sub-bits-2
overflow_sub-bits-2 c = search (last_in, rules)

pub returns-then-bits-p : goal.returns-then-bits-p
returns-then-bits-p c = search (longer_level, rules)

pub returns-then-scr-nodes : goal.returns-then-scr-nodes
returns-then-scr-nodes c = search (longer_room, rules)

pub copy_longer-requires : goal.copy_longer-requires
copy_longer-requires c =
    longer_ready _ _ _ _ c.sound.ensures (ap not c.if-not-sound.false) _ c.last_one-p.ensures
    c.fill.new.self _ c.if-bits-p.false c.if-scr-nodes.false

pub returns : goal.returns
returns c = search (longer_made, rules)
