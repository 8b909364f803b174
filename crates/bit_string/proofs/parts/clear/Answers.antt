-- `parts::clear` meets its contract. The loop's invariant: the words before q are done, the others as they were.
use native.Mathlib.Omega.{arith}
use Rattle.bit_string.proofs.Clear.{clear_start, clear_turn, clear_over}
use borrow.Author.Rules.{rules}
use Rattle.bit_string.proofs.parts.clear.Goals as goal

pub loop-q-init : goal.loop-q-init
loop-q-init c = clear_start c.args.words.now c.args.a c.args.e c.requires (λ p. omega (arith, c.slice_known-1.given p))

pub loop-q-preserved : goal.loop-q-preserved
loop-q-preserved c = search (clear_turn, rules)

pub returns : goal.returns
returns c = search (clear_over, rules)
