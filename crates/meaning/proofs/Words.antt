-- The words of a bit list hold its bits, and fit u64.
use mathlib.Core.Path.{◌≡◌}
use mathlib.Core.Bool.{Bool}
use mathlib.Core.List.{List, ◌++◌}
use Prim.Native.Nat.{ℕ, ◌+◌, ◌/◌, ◌^◌}
use native.Mathlib.Omega.{arith}
use lib.ListN.{length}
use Rattle.meaning.specs.Bits.{bits_of, words_of}
use Rattle.meaning.proofs.Tab.{Below}
use Rattle.meaning.proofs.Pack.{length_pack, pack_below, pack_holds}

pub length_words : (l : List Bool) → length (words_of l) ≡ (length l + 63) / 64
unfolding words_of
length_words l = length_pack ((length l + 63) / 64) l

-- the words of a list hold its bits, whatever follows
pub words_hold : (l : List Bool) (r : List ℕ) → bits_of (words_of l ++ r) (length l) ≡ l
unfolding words_of
words_hold l r = pack_holds ((length l + 63) / 64) l r (omega arith)

-- and each is below 2 to the 64
pub words_below : (l : List Bool) → Below (2 ^ 64) (words_of l)
unfolding words_of
words_below l = pack_below ((length l + 63) / 64) l
