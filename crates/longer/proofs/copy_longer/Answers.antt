-- `copy_longer`: one bit of the copy turned.
use borrow.Author.Rules.{rules}
use Rattle.longer.proofs.Copies.{turned_bits}
use Rattle.longer.proofs.copy_longer.Goals as goal

pub returns : goal.returns
returns c = search (turned_bits, rules)
