-- `byte_size` meets its contract. Assumes nothing.
use Rattle.questions.proofs.Sums.{size_unfit, size_held}
use borrow.Author.Rules.{rules}
use Rattle.questions.proofs.byte_size.Goals as goal

pub returns-then-not-counts_fit : goal.returns-then-not-counts_fit
returns-then-not-counts_fit c = search (size_unfit, rules)

pub returns : goal.returns
returns c = search (size_held, rules)
