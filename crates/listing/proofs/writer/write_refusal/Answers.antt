-- `listing::writer::write_refusal` meets its contract.
use Rattle.meaning.specs.Quoted.{quoted}
use Rattle.listing.proofs.Putting.{next, halted, told}
use Rattle.listing.proofs.Pieces.{refusal_put}
use borrow.Author.Rules.{rules}
use Rattle.listing.proofs.writer.write_refusal.Goals as goal

pub returns-in_err-at : goal.returns-in_err-at
unfolding quoted
returns-in_err-at c = search (refusal_put, halted, c.in_err-at.was, rules)

pub returns-in_err-at-2 : goal.returns-in_err-at-2
unfolding quoted
returns-in_err-at-2 c = search (refusal_put, next, halted, c.in_ok-at.was, c.in_err-at-2.was, rules)

pub returns : goal.returns
unfolding quoted
returns c = search (refusal_put, next, told, c.in_ok-at.was, c.in_ok-at-2.was, rules)
