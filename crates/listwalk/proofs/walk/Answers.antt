-- `listwalk::walk` meets its contract. Assumes nothing.
use mathlib.Core.Path.{sym, ◌∙◌}
use native.Mathlib.Omega.{arith}
use Rattle.listing.proofs.Putting.{spelt}
use Rattle.listing.proofs.Told.{told_list, told_bad, never_room}
use Rattle.listwalk.proofs.walk.Goals as goal

pub slice_bounds-levels-end : goal.slice_bounds-levels-end
slice_bounds-levels-end c = omega (arith, (told_list c.args.text.now _ _ c.read_list.result _ _ c.read_list.ensures (omega arith) (omega arith) _ _ c.in-Ok-Some.is c.in-Ok-Some.field-0-is).few)

pub slice_bounds-listed-end : goal.slice_bounds-listed-end
slice_bounds-listed-end c = sym (told_list c.args.text.now _ _ c.read_list.result _ _ c.read_list.ensures (omega arith) (omega arith) _ _ c.in-Ok-Some.is c.in-Ok-Some.field-0-is).levels

pub slice_bounds-labels-end : goal.slice_bounds-labels-end
slice_bounds-labels-end c = omega (arith, (told_list c.args.text.now _ _ c.read_list.result _ _ c.read_list.ensures (omega arith) (omega arith) _ _ c.in-Ok-Some.is c.in-Ok-Some.field-0-is).few)

pub slice_bounds-listed-end-in-Ok-Some : goal.slice_bounds-listed-end-in-Ok-Some
slice_bounds-listed-end-in-Ok-Some c = sym (told_list c.args.text.now _ _ c.read_list.result _ _ c.read_list.ensures (omega arith) (omega arith) _ _ c.in-Ok-Some.is c.in-Ok-Some.field-0-is).labels

pub listed-requires : goal.listed-requires
listed-requires c =
    let t = told_list c.args.text.now _ _ c.read_list.result _ _ c.read_list.ensures (omega arith) (omega arith) _ _ c.in-Ok-Some.is c.in-Ok-Some.field-0-is in
    (t.levels ∙ sym t.labels, omega (arith, t.levels, t.few))

pub returns-in-Ok-Some : goal.returns-in-Ok-Some
returns-in-Ok-Some c = spelt (told_list c.args.text.now _ _ c.read_list.result _ _ c.read_list.ensures (omega arith) (omega arith) _ _ c.in-Ok-Some.is c.in-Ok-Some.field-0-is).text c.listed.ensures

pub returns-in-Ok-None : goal.returns-in-Ok-None
returns-in-Ok-None c = absurd (never_room c.args.text.now _ _ c.read_list.result _ _ c.read_list.ensures (omega arith) (omega arith) _ c.in-Ok-None.is c.in-Ok-None.field-0-is)

pub returns-in-Err : goal.returns-in-Err
returns-in-Err c = spelt (told_bad c.args.text.now _ _ c.read_list.result _ _ c.read_list.ensures (omega arith) (omega arith) _ c.in-Err.is) c.write_refused.ensures
