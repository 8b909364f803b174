-- `walk_left` meets its contract. Assumes nothing.
use Rattle.closes.proofs.Walks.{walk_here, walk_open, walk_not, walk_none, walk_done}
use borrow.Author.Rules.{rules}
use Rattle.closes.proofs.level.Bits.walk_left.Goals as goal
use Rattle.closes.proofs.level.Bits.walk_left.Goals.{else-not-open-via-then-not-open+else-depth-d, else-not-open-via-else-not-open}

pub returns-in_err-depth : goal.returns-in_err-depth
returns-in_err-depth c = search (walk_none, rules)

pub loop-i-preserved-then-depth-d : goal.loop-i-preserved-then-depth-d
loop-i-preserved-then-depth-d c = search (walk_here, c.in_ok-depth.was, rules)

pub loop-i-preserved : goal.loop-i-preserved
loop-i-preserved c =
    elim c.else-not-open.branch [
      | else-not-open-via-then-not-open+else-depth-d w ↦ search (walk_not, c.in_ok-depth.was, rules)
      | else-not-open-via-else-not-open w ↦ search (walk_open, c.in_ok-depth.was, rules)
    ]

pub returns : goal.returns
returns c = search (walk_done, rules)
