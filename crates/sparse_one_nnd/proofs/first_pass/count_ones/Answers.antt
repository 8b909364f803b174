-- `count_ones` meets its contract. The invariant is `Adding`.
use borrow.Author.Rules.{rules}
use native.Mathlib.Omega.{arith}
use Rattle.sparse_one_nnd.proofs.Stretches.{adding_start, adding_few, bit_small, adding_on, adding_end}
use Rattle.sparse_one_nnd.proofs.first_pass.count_ones.Goals as goal

pub loop-i-init : goal.loop-i-init
loop-i-init c = search (adding_start, adding_few, bit_small, rules)

pub overflow_add-c : goal.overflow_add-c
overflow_add-c c = omega (arith, adding_few c.loop-i.invariant, c.loop-i.invariant.within, bit_small _ _ c.from-c.ensures)

pub loop-i-preserved : goal.loop-i-preserved
loop-i-preserved c = search (adding_on, rules)

pub returns : goal.returns
returns c = search (adding_end, rules)
