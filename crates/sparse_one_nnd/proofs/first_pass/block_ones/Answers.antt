-- `block_ones` meets its contract.
use Rattle.sparse_one_nnd.proofs.Blocks.{block_count_lem}
use borrow.Author.Rules.{rules}
use Rattle.sparse_one_nnd.proofs.first_pass.block_ones.Goals as goal

pub returns : goal.returns
returns c = search (block_count_lem, rules)
