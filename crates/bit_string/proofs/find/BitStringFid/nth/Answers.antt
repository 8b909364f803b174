-- `nth` of `BitString` meets its contract. The loop's invariant: of the k ones, `left` are still to come from word q on.
use native.Mathlib.Omega.{arith}
use Rattle.meaning.specs.Bits.{bits_of}
use Rattle.meaning.specs.Plain.{side}
use Rattle.meaning.proofs.BitString.{length_marks}
use Rattle.bit_string.proofs.Behind.{behind_none, select_zero, hit, miss, none_left}
use borrow.Author.Rules.{rules}
use Rattle.bit_string.proofs.find.BitStringFid.nth.Goals as goal

pub returns-then-k-eq0 : goal.returns-then-k-eq0
returns-then-k-eq0 c = search (select_zero, rules)

pub loop-q-init : goal.loop-q-init
loop-q-init c = search (behind_none, rules)

pub returns-in-Ok : goal.returns-in-Ok
returns-in-Ok c = hit c.loop-q.invariant c.marked.ensures c.nth_in.result c.nth_in.ensures c.in-Ok.j c.in-Ok.is

pub loop-q-preserved : goal.loop-q-preserved
loop-q-preserved c = miss c.loop-q.invariant c.marked.ensures c.nth_in.result c.nth_in.ensures c.in-Err.rest c.in-Err.is

pub returns-in-Err : goal.returns-in-Err
returns-in-Err c =
    let a = c.args in
    none_left (side a.one (bits_of a.self.now.words.now a.self.now.len))
    (miss c.loop-q.invariant c.marked.ensures c.nth_in.result c.nth_in.ensures c.in-Err.rest c.in-Err.is)
    (omega (arith, length_marks a.one a.self.now.words.now a.self.now.len))
