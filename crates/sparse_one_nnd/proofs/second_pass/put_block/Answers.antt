-- `put_block` meets its contract: the count, then the offsets.
use mathlib.Core.Path.{ap}
use Prim.Native.Nat.{◌+◌, ◌*◌}
use Rattle.sparse_one_nnd.specs.Writing.{passed}
use Rattle.sparse_one_nnd.proofs.Lists.{past_rest}
use Rattle.sparse_one_nnd.proofs.Stores.{block_fits, block_put}
use Rattle.sparse_one_nnd.proofs.second_pass.put_block.Goals as goal

pub put_offsets-requires : goal.put_offsets-requires
put_offsets-requires c = let a = c.args in let p = c.requires in block_fits a.ws.now a.n a.b c.min-k.result c.min-k.ensures _ (past_rest a.ws.now (4 * a.b)) (a.o + a.s.at) c.block_ones-c.result a.bytes.now _ p.inside p.here p.room c.put_count.ensures

pub returns : goal.returns
returns c = let a = c.args in (ap (passed a.s) c.block_ones-c.ensures, block_put a.ws.now a.n a.b c.min-k.result c.min-k.ensures _ (past_rest a.ws.now (4 * a.b)) (a.o + a.s.at) c.block_ones-c.result a.bytes.now _ _ c.block_ones-c.ensures c.put_count.ensures c.put_offsets.ensures)
