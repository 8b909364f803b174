-- `record_grown`: the tree's numbers, or the record as it stood.
use Rattle.flight.proofs.Made.{record_told, record_stays}
use borrow.Author.Rules.{rules}
use Rattle.flight.proofs.makes.record_grown.Goals as goal

pub returns-in-Ok : goal.returns-in-Ok
returns-in-Ok c = search (record_told, rules)

pub returns-in_default : goal.returns-in_default
returns-in_default c = search (record_stays, rules)
