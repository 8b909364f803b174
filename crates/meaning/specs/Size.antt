-- Byte size. Over the levels of a tree of n labels.
use Rattle.std.specs.Prelude.{List, [], ◌∷◌, map, ℕ, ◌+◌, ◌*◌, ◌/◌, length}
use Rattle.meaning.specs.Bits.{word_count}
use Rattle.meaning.specs.Family.{Level}

-- "8 per bit-string word (bits / 64 rounded up), 1, 4 and 16 per dictionary entry of the three kinds"
unfoldable pub level_size : Level → ℕ
level_size v = 8 * word_count (length v.bits) + length v.dict.bytes + 4 * (length v.dict.middle / 2) + 16 * (length v.dict.large / 2)

-- all of them together
unfoldable pub sum : List ℕ → ℕ
sum [] = 0
sum (x ∷ xs) = x + sum xs

-- "over all pioneer levels; plus 8 and 4 per label"
unfoldable pub byte_size : List Level → ℕ → ℕ
byte_size t n = sum (map level_size t) + 8 + 4 * n
