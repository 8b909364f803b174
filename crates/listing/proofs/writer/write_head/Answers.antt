-- `listing::writer::write_head` meets its contract.
use Rattle.meaning.specs.Listing.{ended, line, head_line}
use Rattle.meaning.specs.Quoted.{quoted}
use Rattle.listing.proofs.Putting.{next, halted, told}
use Rattle.listing.proofs.Pieces.{pair_next, pair_halted}
use borrow.Author.Rules.{rules}
use Rattle.listing.proofs.writer.write_head.Goals as goal

pub returns-in_err-at : goal.returns-in_err-at
unfolding head_line line ended quoted
returns-in_err-at c = search (next, halted, told, c.in_err-at.was, rules)

pub returns-in_err-at-2 : goal.returns-in_err-at-2
unfolding head_line line ended quoted
returns-in_err-at-2 c = search (next, halted, pair_halted, told, c.in_ok-at.was, c.in_err-at-2.was, rules)

pub returns : goal.returns
unfolding head_line line ended quoted
returns c = search (next, pair_next, told, c.in_ok-at.was, c.in_ok-at-2.was, rules)
