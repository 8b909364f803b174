-- `listwalk::tree::size_of` meets its contract. Assumes nothing.
use Rattle.listwalk.proofs.Size.{size_is}
use Rattle.listwalk.proofs.tree.size_of.Goals as goal

pub returns : goal.returns
returns c = let e = c.unwrap_or.ensures in rw e (size_is _ _ c.byte_size.ensures)
