-- `BitString::next_one` meets its contract. The loop's invariant: there is no one from place i up to place `from` of word q.
use mathlib.Core.Bool.{true}
use Rattle.meaning.specs.Bits.{bits_of}
use Rattle.meaning.specs.Plain.{side}
use Rattle.bit_string.proofs.Ahead.{Ahead}
use Rattle.bit_string.proofs.BitString.next_one.Given as goal

abbrev pub invariant-loop-q : goal.invariant-loop-q
invariant-loop-q l = Ahead (side true (bits_of l.self.words.now l.self.len)) l.i l.q l.from
