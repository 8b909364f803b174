-- `every_node` is safe, and ends.
use Rattle.std.proofs.Common.{◌≤◌}
use Rattle.answering.proofs.every_node.Given as goal

abbrev pub invariant-loop-place : goal.invariant-loop-place
invariant-loop-place g l = l.id ≤ l.place
