-- `leaves_between` meets its contract. Assumes nothing.
use Rattle.questions.proofs.Loops.{leaf_start, leaf_on, leaf_done}
use Rattle.std.proofs.Common.{◌-◌, ◌<◌, ◌≤◌, arith}
use borrow.Author.Rules.{rules}
use Rattle.questions.proofs.leaf.leaves_between.Goals as goal

pub loop-i-init : goal.loop-i-init
loop-i-init c = search (leaf_start, rules)

pub loop-i-preserved : goal.loop-i-preserved
loop-i-preserved c =
    let h : c.loop-i.i < c.args.c - 1 = omega arith in
    leaf_on _ _ _ _ _ _ _ _ _ c.loop-i.invariant c.requires.1 h c.open_at-next.ensures c.from-total.ensures

pub returns : goal.returns
returns c =
    let h : c.args.c - 1 ≤ c.loop-i.i = omega arith in
    leaf_done _ _ _ _ _ _ _ c.loop-i.invariant c.requires.1 h
