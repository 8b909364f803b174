-- `one_root`: what is left of the string has the whole string's answer.
use borrow.Author.Rules.{rules}
use Rattle.pioneers.proofs.Rooted.{root_start, root_opens, root_none, root_closes, root_falls, root_end}
use Rattle.pioneers.proofs.root.one_root.Goals as goal
use Rattle.pioneers.proofs.root.one_root.Goals.{then-bit_at, else-bit_at+else-depth-eq0+else-depth-eq1}

pub loop-i-init : goal.loop-i-init
loop-i-init c = root_start _ _

pub returns-then-depth-eq0 : goal.returns-then-depth-eq0
returns-then-depth-eq0 c = search (root_none, rules)

pub returns-then-depth-eq1 : goal.returns-then-depth-eq1
returns-then-depth-eq1 c = search (root_closes, rules)

pub loop-i-preserved : goal.loop-i-preserved
loop-i-preserved c = elim c.if-bit_at.branch [ then-bit_at w ↦ search (root_opens, rules) | else-bit_at+else-depth-eq0+else-depth-eq1 w ↦ search (root_falls, rules) ]

pub returns : goal.returns
returns c = search (root_end, rules)
