-- `scan_blocks` meets its contract. The invariant is `Planning`.
use Rattle.sparse_one_nnd.proofs.Planning.{Planning}
use Rattle.sparse_one_nnd.proofs.first_pass.scan_blocks.Given as goal

abbrev pub invariant-loop-b : goal.invariant-loop-b
invariant-loop-b l = Planning l.ws l.n l.blocks l.ones l.b
