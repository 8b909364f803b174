-- `BitString::next_zero` meets its contract.
use mathlib.Core.Bool.{false}
use native.Mathlib.Omega.{arith}
use Rattle.meaning.specs.Bits.{bits_of}
use Rattle.meaning.specs.Plain.{side}
use Rattle.meaning.proofs.Sought.{ones_most}
use Rattle.ops.proofs.Naive.{naive_few}
use Rattle.bit_string.proofs.BitString.next_zero.Goals as goal

pub overflow_add-k : goal.overflow_add-k
overflow_add-k c =
    let a = c.args in
    let l = side false (bits_of a.self.now.words.now a.self.now.len) in
    let k = c.counted-k in
    let s = c.nth-here in
    omega (arith, naive_few l a.i k.result k.ensures s.result s.ensures c.eq.result c.eq.ensures c.if-eq.false, ones_most l a.i)
