use Rattle.std.proofs.Common.{◌≡◌, leb, drop}
use Rattle.meaning.specs.Size.{sum}
use Rattle.closes.proofs.fit.all_fit.Given as goal

abbrev pub invariant-loop-n : goal.invariant-loop-n
invariant-loop-n g l = leb (sum (drop l.n-index l.counts)) l.left ≡ leb (sum l.counts) l.room
