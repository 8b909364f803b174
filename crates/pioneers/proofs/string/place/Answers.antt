-- `place`: each way out by its law.
use borrow.Author.Rules.{rules}
use Rattle.std.proofs.Common.{length}
use Rattle.std.proofs.lemmas.Result.{err_from_is_err_and}
use Rattle.pioneers.proofs.Places.{place_many, place_level, place_room, place_ready, place_made}
use Rattle.pioneers.proofs.string.place.Goals as goal

pub returns-then-n-gt1048575 : goal.returns-then-n-gt1048575
returns-then-n-gt1048575 c = place_many _ _ c.if-n-gt1048575.true _ (c.fill.ensures.after (λ y e. e))

pub returns-in_err-check_levels : goal.returns-in_err-check_levels
returns-in_err-check_levels c =
    let p = err_from_is_err_and c.from_residual.result c.from_residual.ensures.1 in
    rw (p.1, p.2) (place_level _ _ (search rules) _ c.in_err-check_levels.ensures _ (c.fill.ensures.after (λ y e. e)))

pub returns-then-scr-n : goal.returns-then-scr-n
returns-then-scr-n c = place_room _ _ (search rules) c.in_ok-check_levels.ensures _ (c.fill.ensures.after (λ y e. e)) c.if-scr-n.true

pub write_string-requires : goal.write_string-requires
write_string-requires c = place_ready _ (length c.args.scr.now) (search rules) c.in_ok-check_levels.ensures _ (c.fill.ensures.after (λ y e. e)) c.if-scr-n.false

pub returns : goal.returns
returns c = place_made _ _ (search rules) c.in_ok-check_levels.ensures _ (c.fill.ensures.after (λ y e. e)) c.if-scr-n.false _ c.write_string.ensures
