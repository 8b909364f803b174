-- `copy_bits`: whole words, and zeros behind the bits.
use borrow.Author.Rules.{rules}
use Rattle.longer.proofs.Copies.{copied_bits}
use Rattle.longer.proofs.copy_bits.Goals as goal

pub returns : goal.returns
returns c = search (copied_bits, rules)
