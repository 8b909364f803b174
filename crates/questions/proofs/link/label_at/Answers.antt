-- `label_at` meets its contract. Assumes nothing.
use Rattle.questions.proofs.Links.{label_lost, label_kept}
use borrow.Author.Rules.{rules}
use Rattle.questions.proofs.link.label_at.Goals as goal

pub returns-then-catalogue-k-clause-label : goal.returns-then-catalogue-k-clause-label
returns-then-catalogue-k-clause-label c = search (label_lost, rules)

pub returns-clause-label : goal.returns-clause-label
returns-clause-label c = search (label_kept, rules)
