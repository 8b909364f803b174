-- `listwalk::siblings::siblings_of` meets its contract. Assumes nothing.
use Rattle.listwalk.proofs.Column.{column_none, column_more, column_all}
use borrow.Author.Rules.{rules}
use Rattle.listwalk.proofs.siblings.siblings_of.Goals as goal

pub loop-k-init : goal.loop-k-init
loop-k-init c = search (column_none, rules)

pub loop-k-preserved : goal.loop-k-preserved
loop-k-preserved c = search (column_more, rules)

pub returns : goal.returns
returns c = search (column_all, rules)
