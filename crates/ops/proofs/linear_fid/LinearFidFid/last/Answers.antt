-- `last` of `LinearFid` meets its contract. The loop's invariant: there is none from place j on, up to place i.
use Rattle.meaning.proofs.BitString.{length_marks}
use Rattle.ops.proofs.Scan.{down_start}
use borrow.Author.Rules.{rules}
use Rattle.ops.proofs.linear_fid.LinearFidFid.last.Goals as goal

pub loop-j-init : goal.loop-j-init
loop-j-init c = search (down_start, length_marks, rules)
