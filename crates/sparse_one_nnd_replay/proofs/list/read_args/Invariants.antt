-- `read_args` is safe and ends.
use Rattle.std.proofs.Common.{◌-◌, length}
use Rattle.sparse_one_nnd_replay.proofs.list.read_args.Given as goal

abbrev pub invariant-loop-span : goal.invariant-loop-span
invariant-loop-span l = Unit {0}

abbrev pub decreases-loop-span : goal.decreases-loop-span
decreases-loop-span l = length l.list.text.now - l.list.next
