-- `offset_at` meets its contract: by each `?`.
use mathlib.Core.Path.{sym, ap, ◌∙◌}
use Rattle.refusal.specs.Said.{option_of, found_number}
use Rattle.sparse_one_nnd.proofs.Replies.{broken_of, value_of, item_none, item_some}
use Rattle.sparse_one_nnd.proofs.Selects.{offset_out, offset_is, place_over, place_is}
use Rattle.sparse_one_nnd.proofs.select.offset_at.Goals as goal

pub returns-in_err-offset : goal.returns-in_err-offset
returns-in_err-offset c =
    let p = broken_of _ _ _ c.in_err-offset.ensures.value c.from_residual.ensures.1 in
    ap found_number p.1 ∙ offset_out _ _ _ (item_none _ _ _ c.get.ensures.lookup p.0)

pub returns-in_err-place : goal.returns-in_err-place
returns-in_err-place c =
    let p = broken_of _ _ _ c.in_err-place.ensures.value c.from_residual-in_err-place.ensures.1 in
    let q = item_some _ _ _ c.get.ensures.lookup _ (value_of _ _ c.in_ok-offset.ensures.value) in
    ap found_number p.1 ∙ offset_is _ _ _ _ _ (c.from.ensures ∙ q.1) q.0 (place_over _ (ap option_of (sym p.0) ∙ c.place_of.ensures))

pub returns : goal.returns
returns c =
    let q = item_some _ _ _ c.get.ensures.lookup _ (value_of _ _ c.in_ok-offset.ensures.value) in
    offset_is _ _ _ _ _ (c.from.ensures ∙ q.1) q.0 (place_is _ _ (ap option_of (sym (value_of _ _ c.in_ok-place.ensures.value)) ∙ c.place_of.ensures))
