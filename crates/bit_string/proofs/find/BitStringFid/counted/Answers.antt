-- `counted` of `BitString` meets its contract. The loop's invariant: r is the ones of the words before q.
use mathlib.Core.Path.{◌≡◌}
use Prim.Native.Nat.{◌+◌, ◌*◌}
use native.Mathlib.Omega.{arith}
use lib.ListN.{take}
use Rattle.meaning.specs.Bits.{opens, bits_of}
use Rattle.meaning.specs.Plain.{side}
use Rattle.meaning.proofs.Sought.{ones_most}
use Rattle.bit_string.proofs.Part.{marks_word, marks_end}
use Rattle.bit_string.proofs.find.BitStringFid.counted.Goals as goal

pub overflow_add-r : goal.overflow_add-r
overflow_add-r c =
    let a = c.args in
    let l = c.loop-q in
    let s = side a.one (bits_of a.self.now.words.now a.self.now.len) in
    omega (arith, marks_word c.marked.ensures l.r c.pop_count-r.result l.invariant c.pop_count-r.ensures, ones_most s (64 * (l.q + 1)))

pub overflow_add-result : goal.overflow_add-result
overflow_add-result c =
    let a = c.args in
    let s = side a.one (bits_of a.self.now.words.now a.self.now.len) in
    let ended : c.loop-q.r + c.pop_count.result ≡ opens (take a.e s) =
    marks_end s a.e c.loop-q.q c.marked-2.result c.low.result c.loop-q.r c.pop_count.result
    c.marked-2.ensures (omega arith) c.low.ensures c.loop-q.invariant c.pop_count.ensures in
    omega (arith, ended, ones_most s a.e)
