-- `rank` meets its contract. Assumes nothing.
use Rattle.closes.proofs.Flags.{rank_is}
use borrow.Author.Rules.{rules}
use Rattle.closes.proofs.family.At.rank.Goals as goal

pub returns : goal.returns
returns c = search (rank_is, rules)
