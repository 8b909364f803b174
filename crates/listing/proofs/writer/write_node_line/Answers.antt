-- `listing::writer::write_node_line` meets its contract.
use Rattle.meaning.specs.Listing.{line, node_line}
use Rattle.listing.proofs.Putting.{told}
use Rattle.listing.proofs.Pieces.{pair_next, pair_halted}
use borrow.Author.Rules.{rules}
use Rattle.listing.proofs.writer.write_node_line.Goals as goal

pub returns-in_err-at : goal.returns-in_err-at
unfolding node_line line
returns-in_err-at c = search (pair_halted, c.in_err-at.was, rules)

pub returns-in_err-at-2 : goal.returns-in_err-at-2
unfolding node_line line
returns-in_err-at-2 c = search (pair_next, pair_halted, c.in_ok-at.was, c.in_err-at-2.was, rules)

pub returns : goal.returns
unfolding node_line line
returns c = search (pair_next, c.in_ok-at.was, c.in_ok-at-2.was, told, rules)
