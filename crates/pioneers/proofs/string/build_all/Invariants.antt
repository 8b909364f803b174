-- `build_all`: the nodes so far stand in the words.
use Rattle.std.proofs.Common.{◌-◌, length}
use Rattle.pioneers.proofs.Builds.{Stands}
use Rattle.pioneers.proofs.string.build_all.Given as goal

abbrev pub invariant-loop-builder : goal.invariant-loop-builder
invariant-loop-builder l = Stands l.levels (length l.fn.words) l.builder l.words

abbrev pub decreases-loop-builder : goal.decreases-loop-builder
decreases-loop-builder l = length l.levels - l.builder.nodes
