-- `gather`: the invariant is `Kept` of Keeps.antt.
use native.Mathlib.Omega.{arith}
use Rattle.pioneers.proofs.Keeps.{kept_start, keeps, kept_next, text_room, kept_done}
use Rattle.pioneers.proofs.compact.gather.Goals as goal

pub loop-i-init : goal.loop-i-init
loop-i-init c = kept_start _ _ c.requires (λ w. omega (arith, c.type_inv.scr w))

pub keep_turn-at-requires : goal.keep_turn-at-requires
keep_turn-at-requires c = keeps _ _ c.requires _ _ _ c.loop-i.invariant c.loop-i-test.true

pub loop-i-preserved : goal.loop-i-preserved
loop-i-preserved c = kept_next _ _ c.requires _ _ _ c.loop-i.invariant c.loop-i-test.true _ _ c.keep_turn-at.ensures

pub offset_bounds-scr-lay : goal.offset_bounds-scr-lay
offset_bounds-scr-lay c = omega (arith, text_room _ _ c.requires _ _ _ c.loop-i.invariant)

pub slice_bounds-trim-count : goal.slice_bounds-trim-count
slice_bounds-trim-count c = omega (arith, text_room _ _ c.requires _ _ _ c.loop-i.invariant)

pub slice_bounds-trim-start : goal.slice_bounds-trim-start
slice_bounds-trim-start c = omega (arith, text_room _ _ c.requires _ _ _ c.loop-i.invariant)

pub returns : goal.returns
returns c = kept_done _ _ c.requires _ _ _ c.loop-i.invariant c.loop-i-test.false _ c.trim.ensures
