-- `walk_all` meets its contract. Assumes nothing.
use Rattle.std.proofs.Common.{◌-◌}
use Rattle.record.specs.Record.{tree_of, lent_of}
use Rattle.walk.proofs.Turns.{Met}
use Rattle.walk.proofs.walk_all.Given as goal

abbrev pub invariant-loop-under : goal.invariant-loop-under
invariant-loop-under l =
    Met (tree_of l.catalogue) (lent_of l.catalogue) l.nodes l.initial.out_levels l.initial.out_labels l.initial.scratch l.out_levels l.out_labels l.scratch l.on l.told

abbrev pub decreases-loop-under : goal.decreases-loop-under
decreases-loop-under l = l.nodes - l.told
