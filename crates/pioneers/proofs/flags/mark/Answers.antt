-- `mark`: each way out by its law.
use native.Mathlib.Omega.{arith}
use Rattle.pioneers.proofs.Parts.{part_zero}
use Rattle.pioneers.proofs.Marked.{unfit, text_in, flags_in, unrooted, bared, mark_made}
use Rattle.pioneers.proofs.flags.mark.Goals as goal
use Rattle.pioneers.proofs.flags.mark.Goals.{else-fits-via-then-fits+else-one_root, else-fits-via-else-fits}

pub offset_bounds-scr-lay : goal.offset_bounds-scr-lay
offset_bounds-scr-lay c = omega (arith, text_in c.args.scr.now c.args.lay c.fits.result c.fits.ensures c.if-fits.true)

pub slice_bounds-one_root-count : goal.slice_bounds-one_root-count
slice_bounds-one_root-count c = omega (arith, text_in c.args.scr.now c.args.lay c.fits.result c.fits.ensures c.if-fits.true)

pub slice_bounds-one_root-start : goal.slice_bounds-one_root-start
slice_bounds-one_root-start c = omega (arith, text_in c.args.scr.now c.args.lay c.fits.result c.fits.ensures c.if-fits.true)

pub offset_bounds-scr-lay-then-one_root : goal.offset_bounds-scr-lay-then-one_root
offset_bounds-scr-lay-then-one_root c = omega (arith, flags_in c.args.scr.now c.args.lay _ c.fits.ensures c.if-fits.true)

pub slice_bounds-fill-count : goal.slice_bounds-fill-count
slice_bounds-fill-count c = omega (arith, flags_in c.args.scr.now c.args.lay _ c.fits.ensures c.if-fits.true)

pub slice_bounds-fill-start : goal.slice_bounds-fill-start
slice_bounds-fill-start c = omega (arith, flags_in c.args.scr.now c.args.lay _ c.fits.ensures c.if-fits.true)

pub flag_all-requires : goal.flag_all-requires
flag_all-requires c =
    bared _ _ _ c.fits.ensures c.if-fits.true _ c.one_root.ensures c.if-one_root.true _ (part_zero _ _ _ (c.fill.ensures.after (λ y e. e)))

pub returns-then-one_root : goal.returns-then-one_root
returns-then-one_root c =
    mark_made _ _ _ c.fits.ensures c.if-fits.true _ c.one_root.ensures c.if-one_root.true _ (part_zero _ _ _ (c.fill.ensures.after (λ y e. e)))
    _ c.flag_all.ensures

pub returns : goal.returns
returns c =
    elim c.else-fits.branch [
      | else-fits-via-then-fits+else-one_root w ↦ unrooted _ _ _ c.fits.ensures w.if-fits.true _ w.one_root.ensures w.if-one_root.false _ (c.fill-2.ensures.after (λ y e. e))
      | else-fits-via-else-fits w ↦ unfit _ _ _ c.fits.ensures w.if-fits.false _ (c.fill-2.ensures.after (λ y e. e))
    ]
