-- How much of each area suffices for every accepted list of n nodes, so that a caller can lend once for the largest pass (`enough_room`). No contract
-- has these; the C header gives them.
use Rattle.std.specs.Prelude.{ℕ, zero, suc, ◌+◌, ◌*◌, ◌-◌, ◌/◌}
use Rattle.meaning.specs.Bits.{word_count}

-- the bits of the pioneer string of a string of b words: "at most 4b - 6 flags"
abbrev pub bits_above : ℕ → ℕ
bits_above b = 4 * b - 6

-- its words
abbrev pub words_above : ℕ → ℕ
words_above b = word_count (bits_above b)

-- blocks of 256 places in b words
abbrev pub blocks_in : ℕ → ℕ
blocks_in b = (b + 3) / 4

-- the four areas for a string of b words with at most k pioneer levels
unfoldable pub words_up : ℕ → ℕ → ℕ
words_up zero b = b
words_up (suc k) b = b + words_up k (words_above b)

unfoldable pub bytes_up : ℕ → ℕ → ℕ
bytes_up zero b = 0
bytes_up (suc k) b = blocks_in b + bits_above b + bytes_up k (words_above b)

unfoldable pub middle_up : ℕ → ℕ → ℕ
middle_up zero b = 0
middle_up (suc k) b = 2 * ((blocks_in b + 7) / 8) + middle_up k (words_above b)

unfoldable pub large_up : ℕ → ℕ → ℕ
large_up zero b = 0
large_up (suc k) b = 2 * ((blocks_in b + 255) / 256) + large_up k (words_above b)

-- "n nodes give 2n + 2 bits", and there are at most four pioneer levels: elements of areas 0 to 3
unfoldable pub words_for : ℕ → ℕ
words_for n = words_up 4 (word_count (2 * n + 2))

unfoldable pub bytes_for : ℕ → ℕ
bytes_for n = bytes_up 4 (word_count (2 * n + 2))

unfoldable pub middle_for : ℕ → ℕ
middle_for n = middle_up 4 (word_count (2 * n + 2))

unfoldable pub large_for : ℕ → ℕ
large_for n = large_up 4 (word_count (2 * n + 2))
