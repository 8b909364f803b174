-- `asked::stray` meets its contract: the level stays within j of 64.
use Rattle.std.proofs.Common.{◌+◌, ◌≤◌}
use Rattle.fixnum_replay.proofs.asked.stray.Given as goal

abbrev pub invariant-loop-j : goal.invariant-loop-j
invariant-loop-j g l = (l.level ≤ 64 + l.j) × (64 ≤ l.level + l.j)
