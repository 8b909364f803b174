-- `listing::writer::write_sibling` meets its contract.
use Rattle.meaning.specs.Quoted.{quoted}
use Rattle.listing.proofs.Pieces.{dash_put, id_put}
use borrow.Author.Rules.{rules}
use Rattle.listing.proofs.writer.write_sibling.Goals as goal

pub returns-then-sibling-eq0 : goal.returns-then-sibling-eq0
unfolding quoted
returns-then-sibling-eq0 c = search (dash_put, rules)

pub returns : goal.returns
returns c = search (id_put, rules)
