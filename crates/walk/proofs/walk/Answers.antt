-- `walk` meets its contract. Assumes nothing.
use Rattle.std.proofs.Common.{sym, ◌∙◌}
use Rattle.record.specs.Record.{tree_of, lent_of}
use Rattle.walk.proofs.Ends.{zeros, walked_is, walked_refused}
use borrow.Author.Rules.{rules}
use Rattle.walk.proofs.walk.Goals as goal

pub walk_checked-met-requires : goal.walk_checked-met-requires
walk_checked-met-requires c = zeros _ _ _ _ c.clear.ensures

pub returns-then-is_err : goal.returns-then-is_err
returns-then-is_err c =
    let a = c.args in
    let k = c.clear.new in
    let l = c.walk_checked-met.new in
    walked_refused (tree_of a.catalogue.now) (lent_of a.catalogue.now) a.out_levels.now a.out_labels.now a.scratch.now k.out_levels
    k.out_labels l.out_levels l.out_labels l.scratch _ c.walk_checked-met.result c.clear.ensures c.walk_checked-met.ensures
    (search (c.fill.ensures.after, rules)) _ _ c.clear-then-is_err.ensures (sym c.is_err.ensures.value ∙ c.if-is_err.true)

pub returns-else-is_err : goal.returns-else-is_err
returns-else-is_err c =
    let a = c.args in
    let k = c.clear.new in
    let l = c.walk_checked-met.new in
    walked_is (tree_of a.catalogue.now) (lent_of a.catalogue.now) a.out_levels.now a.out_labels.now a.scratch.now k.out_levels
    k.out_labels l.out_levels l.out_labels l.scratch _ c.walk_checked-met.result c.clear.ensures c.walk_checked-met.ensures
    (search (c.fill.ensures.after, rules)) (sym c.is_err.ensures.value ∙ c.if-is_err.false)
