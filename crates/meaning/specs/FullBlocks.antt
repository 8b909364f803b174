-- FULL in 01's words: "an aligned 256 places all flagged", and a build that is not refused in them. Of theorems alone: contracts cite the checks.
use Rattle.std.specs.Prelude.{◌≡◌, Bool, true, false, List, ℕ, ◌+◌, ◌*◌, ◌≤◌, ◌<◌, length, get_or}
use Rattle.meaning.specs.String.{string}
use Rattle.meaning.specs.List.{Rule, greatest}
use Rattle.meaning.specs.Pioneers.{flags, higher}
use Rattle.meaning.specs.Family.{tower}
use Rattle.meaning.specs.Areas.{Rooms, area_words, area_bytes, area_middle, area_large}

-- the 256 places of block b are all flagged (`flagged_block`: 256 ones there)
unfoldable pub AllFlagged : List Bool → ℕ → Type 0
AllFlagged f b = (i : ℕ) → i < 256 → get_or f (256 * b + i) false ≡ true

-- "A string of 65 bits or more has a pioneer family": of the string and the three above it, none that has one has such a block
-- (`narrow_exactly`: no check of FULL or DEEP refuses)
unfoldable pub NoneFull : List Bool → Type 0
NoneFull l = (j : ℕ) → j < 4 → 64 < length (higher j l) → (b : ℕ) → ¬ AllFlagged (flags (higher j l)) b

-- a build that is not refused, check by check, without the computed form of FULL and DEEP (`accepted_flags`)
pub record AcceptedFlags (levels labels : List ℕ) (rooms : Rooms) : Type 0 where
  pub same : length levels ≡ length labels
  pub few : length levels ≤ greatest
  pub rule : Rule levels
  pub scratch : 2 * length levels + 2 ≤ rooms.scratch
  pub narrow : NoneFull (string levels)
  pub words : length (area_words (tower 4 (string levels))) ≤ rooms.words
  pub bytes : length (area_bytes (tower 4 (string levels))) ≤ rooms.bytes
  pub middle : length (area_middle (tower 4 (string levels))) ≤ rooms.middle
  pub large : length (area_large (tower 4 (string levels))) ≤ rooms.large
  pub label : length levels ≤ rooms.labels
