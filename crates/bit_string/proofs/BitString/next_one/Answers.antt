-- `BitString::next_one` meets its contract. The loop's invariant: there is no one from place i up to place `from` of word q.
use mathlib.Core.Bool.{true}
use native.Mathlib.Omega.{arith}
use Rattle.meaning.specs.Bits.{bits_of}
use Rattle.meaning.specs.Plain.{side}
use Rattle.meaning.proofs.BitString.{length_marks}
use Rattle.bit_string.proofs.Ahead.{ahead_start, met, met_lt, passed, none_ahead}
use borrow.Author.Rules.{rules}
use Rattle.bit_string.proofs.BitString.next_one.Goals as goal
use Rattle.bit_string.proofs.BitString.next_one.Goals.{in-Ok+in-None-1, in-Err-1}

pub loop-q-init : goal.loop-q-init
loop-q-init c = search (ahead_start, rules)

pub overflow_add-result : goal.overflow_add-result
overflow_add-result c =
    let a = c.args.self.now in
    omega (arith, met_lt c.loop-q.invariant c.marked.ensures c.succ_one.result c.succ_one.ensures c.in-Ok-Some.j cc, length_marks true a.words.now a.len)

pub returns-in-Ok-Some : goal.returns-in-Ok-Some
returns-in-Ok-Some c = met c.loop-q.invariant c.marked.ensures c.succ_one.result c.succ_one.ensures c.in-Ok-Some.j cc

pub loop-q-preserved : goal.loop-q-preserved
loop-q-preserved c = passed c.loop-q.invariant c.marked.ensures c.succ_one.result c.succ_one.ensures (elim c.match-succ_one.branch [ in-Ok+in-None-1 w ↦ λ j p. cc | in-Err-1 w ↦ λ j p. cc ])

-- there was no word to look at, or the last one had none
pub returns : goal.returns
returns c =
    let a = c.args.self.now in
    none_ahead (side true (bits_of a.words.now a.len)) c.loop-q.invariant (omega (arith, length_marks true a.words.now a.len))

pub returns-after-succ_one : goal.returns-after-succ_one
returns-after-succ_one c =
    let a = c.args.self.now in
    none_ahead (side true (bits_of a.words.now a.len))
    (passed c.loop-q.invariant c.marked.ensures c.succ_one.result c.succ_one.ensures (elim c.match-succ_one.branch [ in-Ok+in-None-1 w ↦ λ j p. cc | in-Err-1 w ↦ λ j p. cc ]))
    (omega (arith, length_marks true a.words.now a.len))
