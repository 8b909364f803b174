-- `size_of` meets its contract. Assumes nothing.
use Rattle.std.proofs.Common.{◌≡◌}
use Rattle.questions.proofs.Sums.{sizes}
use Rattle.questions.proofs.size.size_of.Given as goal

abbrev pub invariant-loop-level : goal.invariant-loop-level
invariant-loop-level l = l.size ≡ sizes l.counts l.level
