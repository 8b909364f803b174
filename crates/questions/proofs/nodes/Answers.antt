-- `nodes` meets its contract. Assumes nothing.
use Rattle.questions.proofs.Asking.{nodes_unfit, nodes_are}
use borrow.Author.Rules.{rules}
use Rattle.questions.proofs.nodes.Goals as goal

pub returns-then-not-counts_fit : goal.returns-then-not-counts_fit
returns-then-not-counts_fit c = search (nodes_unfit, rules)

pub returns : goal.returns
returns c = search (nodes_are, rules)
