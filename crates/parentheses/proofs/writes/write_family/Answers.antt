-- `write_family`: each way out by its law.
use Rattle.std.proofs.Common.{refl, arith}
use Rattle.parentheses.proofs.Putting.{put_unmarked, put_part, put_refused, put_made}
use Rattle.parentheses.proofs.writes.write_family.Goals as goal

pub offset_bounds-scr-lay : goal.offset_bounds-scr-lay
offset_bounds-scr-lay c = omega (arith, put_part c.args.scr.now c.args.lay c.args.from c.args.bytes.now c.args.middles.now c.args.larges.now c.requires c.mark.result c.mark.new.scr c.mark.ensures)

pub slice_bounds-write-count : goal.slice_bounds-write-count
slice_bounds-write-count c = omega (arith, put_part c.args.scr.now c.args.lay c.args.from c.args.bytes.now c.args.middles.now c.args.larges.now c.requires c.mark.result c.mark.new.scr c.mark.ensures)

pub slice_bounds-write-start : goal.slice_bounds-write-start
slice_bounds-write-start c = omega (arith, put_part c.args.scr.now c.args.lay c.args.from c.args.bytes.now c.args.middles.now c.args.larges.now c.requires c.mark.result c.mark.new.scr c.mark.ensures)

pub returns-in_default : goal.returns-in_default
returns-in_default c = put_refused _ _ _ _ _ _ c.requires _ _ c.mark.ensures _ _ _ _ c.write.ensures c.in_default.not-Ok

pub returns : goal.returns
returns c =
    put_made _ _ _ _ _ _ c.requires _ _ c.mark.ensures _ _ _ _ c.in-Ok.ensures _ refl _ _ c.compact-bits.ensures

pub returns-then-not-mark : goal.returns-then-not-mark
returns-then-not-mark c = put_unmarked _ _ _ _ _ _ c.requires _ _ c.mark.ensures c.if-not-mark.true
