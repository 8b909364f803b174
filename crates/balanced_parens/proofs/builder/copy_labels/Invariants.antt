-- `copy_labels`: the first i labels are there.
use Rattle.std.proofs.Common.{◌≡◌, take}
use Rattle.balanced_parens.proofs.builder.copy_labels.Given as goal

abbrev pub invariant-loop-i : goal.invariant-loop-i
invariant-loop-i l = take l.i l.label-items ≡ take l.i l.labels
