-- The levels of select's descent, and what a turn of it leaves.
use Rattle.std.specs.Prelude.{◌≡◌, ◌⊎◌, List, ℕ, suc, ◌+◌, ◌-◌, ◌*◌, ◌/◌, ◌%◌, ◌^◌, ◌≤◌, ◌<◌, get_or}
use Rattle.std.specs.Int.Bits.{bit_and}
use Rattle.meaning.specs.Bits.{bit}
use Rattle.meaning.specs.Count.{count}
use Rattle.fixnum.specs.declared.select.Part.{Part}

-- at each multiple of 2 ^ (e + 1), the next e + 1 bits of y count the ones of x in the 2 ^ e bits from there
pub record Level (y e x : ℕ) : Type 0 where
  pub at : (q : ℕ) → y / 2 ^ (2 ^ suc e * q) % 2 ^ suc e ≡ count (bit (x / 2 ^ (2 ^ suc e * q))) (2 ^ e)

-- the levels from s on are those of the last, a word of 2 ^ (6 - s) bits
pub record Stages (xs : List ℕ) (s : ℕ) : Type 0 where
  pub start : s ≤ 6
  pub small : get_or xs 5 0 < 2 ^ (2 ^ (6 - s))
  pub levels : (i : ℕ) → s ≤ i → i < 6 → Level (get_or xs i 0) (5 - i) (get_or xs 5 0)

-- with n ones
pub record Counted (xs : List ℕ) (s n : ℕ) : Type 0 where
  pub stages : Stages xs s
  pub ones : n ≡ count (bit (get_or xs 5 0)) (2 ^ (6 - s))

-- with k ones or more
pub record Ready (xs : List ℕ) (s k : ℕ) : Type 0 where
  pub stages : Stages xs s
  pub least : 1 ≤ k
  pub most : k ≤ count (bit (get_or xs 5 0)) (2 ^ (6 - s))

-- the k-th one of x is at i
pub record NthOne (x k i : ℕ) : Type 0 where
  pub set : bit x i ≡ 1
  pub ones : count (bit x) i + 1 ≡ k

-- a part that a turn can halve
pub record Steady (p : Part) : Type 0 where
  pub inside : p.offset < 64
  pub some : 1 ≤ p.width
  pub narrow : p.width ≤ 64

-- what the level has at the part's offset: the count of the lower half
abbrev pub lower : ℕ → Part → ℕ
lower y p = bit_and (y / 2 ^ p.offset) (p.width - 1)

pub record Upper (y : ℕ) (p r : Part) : Type 0 where
  pub more : lower y p < p.left
  pub left : r.left ≡ p.left - lower y p
  pub offset : r.offset ≡ p.offset + p.width / 2

pub record Lower (y : ℕ) (p r : Part) : Type 0 where
  pub enough : p.left ≤ lower y p
  pub left : r.left ≡ p.left
  pub offset : r.offset ≡ p.offset

pub record Halved (y : ℕ) (p r : Part) : Type 0 where
  pub width : r.width ≡ p.width / 2
  pub side : Upper y p r ⊎ Lower y p r
