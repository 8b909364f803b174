-- `parts::without` meets its contract.
use native.Mathlib.Omega.{arith}
use Rattle.bit_string.proofs.Clear.{without_low, without_fits, without_cut, cut_none}
use borrow.Author.Rules.{rules}
use Rattle.bit_string.proofs.parts.without.Goals as goal

pub returns-then-e-a : goal.returns-then-e-a
returns-then-e-a c = search (cut_none, rules)

pub overflow_sub-result : goal.overflow_sub-result
overflow_sub-result c =
    let a = c.args in
    let k = c.bits_in in
    let h = c.bits_in-2 in
    omega (arith, without_low a.x a.q a.a a.e c.if-e-a.false k.result h.result c.low-below.result c.low-under.result k.ensures h.ensures c.low-below.ensures c.low-under.ensures)

pub overflow_add-result : goal.overflow_add-result
overflow_add-result c =
    let a = c.args in
    let k = c.bits_in in
    let h = c.bits_in-2 in
    omega (arith, without_fits a.x a.q a.a a.e c.if-e-a.false k.result h.result c.low-below.result c.low-under.result k.ensures h.ensures c.low-below.ensures c.low-under.ensures)

pub returns : goal.returns
returns c =
    let a = c.args in
    let k = c.bits_in in
    let h = c.bits_in-2 in
    without_cut a.x a.q a.a a.e c.if-e-a.false k.result h.result c.low-below.result c.low-under.result k.ensures h.ensures c.low-below.ensures c.low-under.ensures
