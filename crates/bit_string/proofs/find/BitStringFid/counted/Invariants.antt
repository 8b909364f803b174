-- `counted` of `BitString` meets its contract. The loop's invariant: r is the ones of the words before q.
use mathlib.Core.Path.{◌≡◌}
use Prim.Native.Nat.{◌*◌}
use lib.ListN.{take}
use Rattle.meaning.specs.Bits.{opens, bits_of}
use Rattle.meaning.specs.Plain.{side}
use Rattle.bit_string.proofs.find.BitStringFid.counted.Given as goal

abbrev pub invariant-loop-q : goal.invariant-loop-q
invariant-loop-q l = l.r ≡ opens (take (64 * l.q) (side l.one (bits_of l.self.words.now l.self.len)))
