-- `nth` of `LinearFid` meets its contract. The loop's invariant: of the k ones, `left` are still to come from place i on.
use Rattle.meaning.proofs.BitString.{length_marks}
use Rattle.ops.proofs.Scan.{after_none, after_end}
use borrow.Author.Rules.{rules}
use Rattle.ops.proofs.linear_fid.LinearFidFid.nth.Goals as goal

pub loop-i-init : goal.loop-i-init
loop-i-init c = search (after_none, rules)

pub returns : goal.returns
returns c = search (after_end, length_marks, rules)
