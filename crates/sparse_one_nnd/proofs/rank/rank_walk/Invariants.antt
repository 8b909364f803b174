-- `rank_walk` meets its contract. The invariant is `Walking`.
use lib.ListN.{length}
use Rattle.meaning.specs.Dictionary.{limit, rank_walk}
use Rattle.sparse_one_nnd.proofs.Ranks.{Walking}
use Rattle.sparse_one_nnd.proofs.rank.rank_walk.Given as goal

abbrev pub invariant-loop-count : goal.invariant-loop-count
invariant-loop-count l = Walking (limit (rank_walk l.x l.k l.r l.bytes)) l.x l.rest l.left l.rank

abbrev pub decreases-loop-count : goal.decreases-loop-count
decreases-loop-count l = length l.rest
