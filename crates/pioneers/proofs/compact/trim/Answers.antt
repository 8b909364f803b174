-- `trim`: one word is cut, and those after it are zero.
use borrow.Author.Rules.{rules}
use Rattle.pioneers.proofs.Trims.{trim_none, trim_some}
use Rattle.pioneers.proofs.compact.trim.Goals as goal

pub returns-then-q-words : goal.returns-then-q-words
returns-then-q-words c = trim_some c.args.words.now c.args.n (λ w. search rules) c.if-q-words.true _ c.low.ensures _ (c.fill.ensures.after (λ y e. e))

pub returns-else-q-words : goal.returns-else-q-words
returns-else-q-words c = trim_none c.args.words.now c.args.n (λ w. search rules) c.if-q-words.false
