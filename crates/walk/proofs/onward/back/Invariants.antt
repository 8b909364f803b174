-- `back` meets its contract. Assumes nothing.
use Rattle.record.specs.Record.{tree_of, lent_of}
use Rattle.walk.proofs.Stepping.{Left}
use Rattle.walk.proofs.onward.back.Given as goal

abbrev pub invariant-loop-d : goal.invariant-loop-d
invariant-loop-d l = Left (tree_of l.catalogue) (lent_of l.catalogue) l.scratch l.n l.d
