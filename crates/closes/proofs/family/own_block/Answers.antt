-- `own_block` meets its contract. Assumes nothing.
use Rattle.closes.proofs.Flags.{block_own, block_other, block_after}
use borrow.Author.Rules.{rules}
use Rattle.closes.proofs.family.own_block.Goals as goal
use Rattle.closes.proofs.family.own_block.Goals.{else-q-p-via-then-q-p+else-q-p-2, else-q-p-via-else-q-p}

pub returns-then-q-p-2 : goal.returns-then-q-p-2
returns-then-q-p-2 c = search (block_own, rules)

pub returns : goal.returns
returns c =
    elim c.else-q-p.branch [
      | else-q-p-via-then-q-p+else-q-p-2 w ↦ search (block_other, rules)
      | else-q-p-via-else-q-p w ↦ search (block_after, rules)
    ]
