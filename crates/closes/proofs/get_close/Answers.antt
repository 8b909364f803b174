-- `get_close` meets its contract. Assumes nothing.
use Rattle.closes.proofs.Asked.{close_lost, close_shut, start_fits, close_found}
use Rattle.std.proofs.Common.{Err, ap, ◌∙◌}
use Rattle.std.proofs.lemmas.Result.{err_from_is_err_and}
use borrow.Author.Rules.{rules}
use Rattle.closes.proofs.get_close.Goals as goal

pub returns-in_err-get : goal.returns-in_err-get
returns-in_err-get c =
    let p = err_from_is_err_and c.from_residual.result c.from_residual.ensures.1 in
    close_lost _ _ _ _ _ _ c.args.place c.get.result c.get.ensures c.in_err-get.field-0.0 c.from_residual.result c.in_err-get.was (p.1 ∙ ap Err p.2)

pub returns-then-not-branch : goal.returns-then-not-branch
returns-then-not-branch c = search (close_shut, c.in_ok-get.was, rules)

pub string_close-requires : goal.string_close-requires
string_close-requires c = search (start_fits, c.in_ok-get.was, rules)

pub returns : goal.returns
returns c = search (close_found, c.in_ok-get.was, rules)
