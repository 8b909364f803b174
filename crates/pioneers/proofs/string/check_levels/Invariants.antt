-- `check_levels`: what is left of the list has the whole list's answer.
use mathlib.Core.Path.{◌≡◌}
use lib.ListN.{drop}
use Rattle.meaning.specs.List.{offending_from, offending}
use Rattle.pioneers.proofs.string.check_levels.Given as goal

abbrev pub invariant-loop-i : goal.invariant-loop-i
invariant-loop-i l = offending_from l.i l.most (drop l.i l.levels) ≡ offending l.levels
