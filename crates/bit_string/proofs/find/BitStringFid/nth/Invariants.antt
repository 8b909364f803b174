-- `nth` of `BitString` meets its contract. The loop's invariant: of the k ones, `left` are still to come from word q on.
use Rattle.meaning.specs.Bits.{bits_of}
use Rattle.meaning.specs.Plain.{side}
use Rattle.bit_string.proofs.Behind.{Behind}
use Rattle.bit_string.proofs.find.BitStringFid.nth.Given as goal

abbrev pub invariant-loop-q : goal.invariant-loop-q
invariant-loop-q l = Behind (side l.one (bits_of l.self.words.now l.self.len)) l.k l.left l.q
