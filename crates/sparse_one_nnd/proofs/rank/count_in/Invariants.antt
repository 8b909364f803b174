-- `count_in` meets its contract. The invariant is `Counting`.
use Rattle.meaning.specs.Dictionary.{limit, leading}
use Rattle.sparse_one_nnd.proofs.Ranks.{Counting}
use Rattle.sparse_one_nnd.proofs.rank.count_in.Given as goal

abbrev pub invariant-loop-i : goal.invariant-loop-i
invariant-loop-i l = Counting (limit (leading l.x l.r l.n l.bytes)) l.x l.n l.bytes l.rank l.i
