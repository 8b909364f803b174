-- `Levels::descend` meets its contract: the loop keeps the part in which the one sought is.
use Prim.Native.Nat.{◌+◌}
use Rattle.fixnum.proofs.Descent.{Descent}
use Rattle.fixnum.proofs.count.Levels.descend.Given as goal

abbrev pub invariant-loop-level : goal.invariant-loop-level
invariant-loop-level l = Descent l.fn.self.sums l.fn.self.start l.rank l.p (l.fn.self.start + l.level-index)
