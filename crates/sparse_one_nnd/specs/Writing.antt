-- The second pass: the state between two blocks, and what its steps write past o entries of each kind.
use Rattle.std.specs.Prelude.{Bool, true, false, List, ℕ, ◌+◌, ◌*◌, ◌-◌, ◌/◌, ◌%◌, ◌≤◌, ◌<◌, eqb, length, take, drop, set}
use Rattle.meaning.specs.Bits.{opens, bits_of}
use Rattle.meaning.specs.Dictionary.{bytes_of}
use Rattle.sparse_one_nnd.specs.declared.SparseOneNnd.{SparseOneNnd}
use Rattle.sparse_one_nnd.specs.declared.second_pass.Writing.{Writing}

-- block b
abbrev pub block_at : List ℕ → ℕ → ℕ → List Bool
block_at ws n b = take 256 (drop (256 * b) (bits_of ws n))

-- no block is full, and there is room if there is a block
pub record Writable (ws : List ℕ) (n blocks : ℕ) (o : SparseOneNnd) (B M L : List ℕ) : Type 0 where
  pub inside : n ≤ 64 * length ws
  pub few : n ≤ 2097152
  pub short : (b : ℕ) → opens (block_at ws n b) < 256
  pub within : 256 * blocks ≤ n + 255
  pub bytes : 0 < blocks → o.bytes + length (bytes_of blocks (bits_of ws n)) ≤ length B
  pub middles : 0 < blocks → 2 * o.middles + 2 * ((blocks + 7) / 8) ≤ length M
  pub larges : 0 < blocks → 2 * o.larges + 2 * ((blocks + 255) / 256) ≤ length L

-- block b's large entry, if it has one
abbrev pub large_state : ℕ → Writing → Writing
large_state b s = elim (eqb (b % 256) 0) [ true ↦ record { at = s.at; rank = s.rank; home = s.at; base = s.rank } | false ↦ s ]

abbrev pub large_area : ℕ → ℕ → Writing → List ℕ → List ℕ
large_area o b s L =
    elim (eqb (b % 256) 0) [ true ↦ set (set L (2 * (o + b / 256)) s.at) (2 * (o + b / 256) + 1) s.rank | false ↦ L ]

-- block b's middle entry, if it has one
abbrev pub middle_area : ℕ → ℕ → Writing → List ℕ → List ℕ
middle_area o b s M =
    elim (eqb (b % 8) 0) [
      | true ↦ set (set M (2 * (o + b / 8)) (s.at - s.home)) (2 * (o + b / 8) + 1) (s.rank - s.base)
      | false ↦ M
    ]

-- after a block of c ones
abbrev pub passed : Writing → ℕ → Writing
passed s c = record { at = s.at + 1 + c; rank = s.rank + c; home = s.home; base = s.base }

-- a middle entry fits: no block so far has more than 255 ones
pub record Near (o b : ℕ) (s : Writing) (M : List ℕ) : Type 0 where
  pub room : 2 * (o + b / 8) + 1 < length M
  pub at : s.home ≤ s.at
  pub at_near : s.at ≤ s.home + 256 * (b % 256)
  pub rank : s.base ≤ s.rank
  pub rank_near : s.rank ≤ s.base + 256 * (b % 256)

-- a block fits
pub record BlockFits (ws : List ℕ) (n o b : ℕ) (s : Writing) (B : List ℕ) : Type 0 where
  pub inside : n ≤ 64 * length ws
  pub few : n ≤ 2097152
  pub here : 256 * b ≤ n
  pub short : opens (block_at ws n b) < 256
  pub room : o + s.at + 1 + opens (block_at ws n b) ≤ length B
  pub rank : s.rank ≤ 2097152
