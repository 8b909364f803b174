-- The offsets of a block, and the room for them.
use Rattle.std.specs.Prelude.{List, ℕ, ◌+◌, ◌*◌, ◌≤◌, length}
use Rattle.meaning.specs.Bits.{opens, bits_of}

-- the words hold the block's k places, and there is room for their ones
pub record OffsetsFit (ws B : List ℕ) (k at : ℕ) : Type 0 where
  pub inside : k ≤ 64 * length ws
  pub small : k ≤ 256
  pub room : at + opens (bits_of ws k) ≤ length B
