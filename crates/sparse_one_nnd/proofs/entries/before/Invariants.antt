-- `before` meets its contract. The invariant is `Seeking`.
use mathlib.Core.List.{map}
use Rattle.sparse_one_nnd.proofs.Seeks.{Seeking}
use Rattle.sparse_one_nnd.proofs.entries.before.Given as goal

abbrev pub invariant-loop-i : goal.invariant-loop-i
invariant-loop-i g l = Seeking l.q (map g.T.Number.number l.es) l.i
