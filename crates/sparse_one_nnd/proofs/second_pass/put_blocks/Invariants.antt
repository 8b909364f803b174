-- `put_blocks` meets its contract. The invariant is `Written`.
use Rattle.meaning.specs.Bits.{bits_of}
use Rattle.sparse_one_nnd.proofs.Stores.{Written}
use Rattle.sparse_one_nnd.proofs.second_pass.put_blocks.Given as goal

abbrev pub invariant-loop-b : goal.invariant-loop-b
invariant-loop-b l = Written (bits_of l.ws l.n) l.from l.initial.bytes l.initial.middles l.initial.larges l.bytes l.middles l.larges l.s l.b
