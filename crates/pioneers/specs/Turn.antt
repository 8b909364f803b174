-- One turn of the pass that finds the flags: scratch holds the stack first, and the flags from bit `at` on.
use Rattle.std.specs.Prelude.{◌≡◌, Bool, true, false, not, List, ℕ, ◌+◌, ◌-◌, ◌*◌, ◌/◌, ◌<◌, eqb, length, get_or, set}
use Rattle.meaning.specs.Bits.{bit_at, stored}
use Rattle.pioneers.specs.Pick.{pick}
use Rattle.pioneers.specs.declared.flags.Layout.{Layout}
use Rattle.pioneers.specs.declared.flags.Scan.{Scan}

-- what a turn leaves
pub record Turned : Type 0 where
  pub scan : Scan
  pub scr : List ℕ

abbrev pub turned : Scan → List ℕ → Turned
turned s w = record { scan = s; scr = w }

abbrev pub scan_of : ℕ → ℕ → ℕ → Scan
scan_of d o c = record { depth = d; fore = o; aft = c }

-- a pair is pending, and (p, i) is not alike
unfoldable pub apart_of : Scan → ℕ → ℕ → Bool
apart_of s p i = pick (eqb s.aft 0) false (pick (eqb (s.fore / 64) (p / 64)) (not (eqb (s.aft / 64) (i / 64))) true)

-- both ends of the pending pair
unfoldable pub marked : List ℕ → ℕ → Scan → List ℕ
marked scr at s = stored (stored scr (at + s.fore) true) (at + s.aft) true

-- if there is one
unfoldable pub settled : List ℕ → ℕ → Scan → List ℕ
settled scr at s = pick (eqb s.aft 0) scr (marked scr at s)

unfoldable pub open_turn : List ℕ → ℕ → Scan → Turned
open_turn scr i s = turned (scan_of (s.depth + 1) s.fore s.aft) (set scr s.depth i)

-- the open that i closes is p
unfoldable pub pair_turn : List ℕ → ℕ → ℕ → ℕ → Scan → Turned
pair_turn scr at p i s =
    pick (eqb (p / 64) (i / 64)) (turned (scan_of (s.depth - 1) s.fore s.aft) scr)
    (turned (scan_of (s.depth - 1) p i) (pick (apart_of s p i) (marked scr at s) scr))

unfoldable pub turn_of : List ℕ → ℕ → Bool → ℕ → Scan → Turned
turn_of scr at true i s = open_turn scr i s
turn_of scr at false i s = pair_turn scr at (get_or scr (s.depth - 1) 0) i s

-- no sum of a turn overflows
pub record Near (at : ℕ) (s : Scan) : Type 0 where
  pub fore : at + s.fore < 4294967296
  pub aft : at + s.aft < 4294967296

-- what a turn at place i asks of scratch: room for one more open place, and an open for a close
pub record Turns (scr : List ℕ) (lay : Layout) (i : ℕ) (s : Scan) : Type 0 where
  pub small : 64 * lay.text + i < 4294967296
  pub near : Near (64 * lay.flags) s
  pub room : s.depth < length scr
  pub some : bit_at scr (64 * lay.text + i) ≡ false → 0 < s.depth
