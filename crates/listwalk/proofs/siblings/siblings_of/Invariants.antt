-- `listwalk::siblings::siblings_of` meets its contract. Assumes nothing.
use Rattle.listwalk.proofs.Column.{Column}
use Rattle.listwalk.proofs.siblings.siblings_of.Given as goal

abbrev pub invariant-loop-k : goal.invariant-loop-k
invariant-loop-k l = Column l.levels l.initial.out l.out l.k
