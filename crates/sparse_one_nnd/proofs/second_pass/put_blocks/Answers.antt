-- `put_blocks` meets its contract. The invariant is `Written`.
use native.Mathlib.Omega.{arith}
use Rattle.sparse_one_nnd.proofs.Stores.{write_start, write_on, large_room, near_of, block_of, end_bytes, end_middles, end_larges}
use Rattle.sparse_one_nnd.proofs.second_pass.put_blocks.Goals as goal

pub loop-b-init : goal.loop-b-init
loop-b-init c = write_start _ _ _ _ _

pub put_large-s-requires : goal.put_large-s-requires
put_large-s-requires c = large_room c.requires c.loop-b.invariant c.loop-b-test.true

pub put_middle-requires : goal.put_middle-requires
put_middle-requires c = near_of c.requires c.loop-b.invariant c.loop-b-test.true _ c.put_large-s.ensures.0

pub put_block-s-requires : goal.put_block-s-requires
put_block-s-requires c = block_of c.requires c.loop-b.invariant c.loop-b-test.true _ c.put_large-s.ensures.0

pub loop-b-preserved : goal.loop-b-preserved
loop-b-preserved c = write_on c.loop-b.invariant _ _ _ _ _ c.put_large-s.ensures.0 c.put_large-s.ensures.1 c.put_middle.ensures c.put_block-s.ensures.0 c.put_block-s.ensures.1

pub returns : goal.returns
returns c = let w = c.loop-b.invariant in record { bytes_after = end_bytes w _ (omega arith); middles_after = end_middles w _ (omega arith); larges_after = end_larges w _ (omega arith) }
