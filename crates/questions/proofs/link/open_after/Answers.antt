-- `open_after` meets its contract. Assumes nothing.
use Rattle.questions.proofs.Links.{after_out, after_open, after_shut}
use borrow.Author.Rules.{rules}
use Rattle.questions.proofs.link.open_after.Goals as goal
use Rattle.questions.proofs.link.open_after.Goals.{else-i-string-via-then-i-string+else-open_at, else-i-string-via-else-i-string}

pub returns-then-open_at : goal.returns-then-open_at
returns-then-open_at c = search (after_open, rules)

pub returns : goal.returns
returns c =
    elim c.else-i-string.branch [
      | else-i-string-via-then-i-string+else-open_at w ↦ search (after_shut, rules)
      | else-i-string-via-else-i-string w ↦ search (after_out, rules)
    ]
