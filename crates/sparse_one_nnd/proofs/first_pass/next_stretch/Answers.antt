-- `next_stretch` meets its contract: up to the next one, or to the end of the word.
use Rattle.sparse_one_nnd.proofs.Stretches.{stretch_one, stretch_none}
use borrow.Author.Rules.{rules}
use Rattle.sparse_one_nnd.proofs.first_pass.next_stretch.Goals as goal

pub returns-then-zeros-most : goal.returns-then-zeros-most
returns-then-zeros-most c = search (stretch_one, rules)

pub returns : goal.returns
returns c = search (stretch_none, rules)
