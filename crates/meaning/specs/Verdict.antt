-- "Build checks 1, 2, 3, ROOM for area 5, then 5 (lowest level, lowest block), 6, then ROOM for 0 to 4": each outcome with all that must
-- hold for it. Of theorems alone: contracts cite the checks.
use Rattle.std.specs.Prelude.{◌≡◌, List, [], ◌∷◌, ℕ, ◌+◌, ◌*◌, ◌≤◌, ◌<◌, length}
use Rattle.std.proofs.Math.Option.{Option, none, some}
use Rattle.meaning.specs.Answers.{Refusal}
use Rattle.meaning.specs.String.{string}
use Rattle.meaning.specs.List.{Rule, greatest, offending}
use Rattle.meaning.specs.Family.{tower}
use Rattle.meaning.specs.Areas.{Rooms, area_words, area_bytes, area_middle, area_large}
use Rattle.meaning.specs.Refusals.{refuse, LowestLevel}
use Rattle.meaning.specs.FullBlocks.{NoneFull}

-- what the areas 0 to 3 must hold
abbrev pub words_needed : List ℕ → ℕ
words_needed vs = length (area_words (tower 4 (string vs)))

abbrev pub bytes_needed : List ℕ → ℕ
bytes_needed vs = length (area_bytes (tower 4 (string vs)))

abbrev pub middle_needed : List ℕ → ℕ
middle_needed vs = length (area_middle (tower 4 (string vs)))

abbrev pub large_needed : List ℕ → ℕ
large_needed vs = length (area_large (tower 4 (string vs)))

-- nothing before ROOM for areas 0 to 4 refuses
pub record Sound (vs : List ℕ) (rooms : Rooms) : Type 0 where
  pub few : length vs ≤ greatest
  pub rule : Rule vs
  pub scratch : 2 * length vs + 2 ≤ rooms.scratch
  pub narrow : NoneFull (string vs)

-- the outcomes from 2 on, which growth shares; there is no 6 (`verdict_exactly`: those of `checks`)
pub data Verdict (vs : List ℕ) (rooms : Rooms) : Option Refusal → Type 0 where
  many : greatest < length vs → Verdict vs rooms (refuse 2 (length vs ∷ []))
  level : length vs ≤ greatest → (k : ℕ) → offending vs ≡ some k → Verdict vs rooms (refuse 3 (k ∷ []))
  scratch : length vs ≤ greatest → Rule vs → rooms.scratch < 2 * length vs + 2 → Verdict vs rooms (refuse 4 (5 ∷ []))
  full : length vs ≤ greatest → Rule vs → 2 * length vs + 2 ≤ rooms.scratch → (v b : ℕ) → LowestLevel (string vs) v b
      → Verdict vs rooms (refuse 5 (v ∷ b ∷ []))
  words : Sound vs rooms → rooms.words < words_needed vs → Verdict vs rooms (refuse 4 (0 ∷ []))
  bytes : Sound vs rooms → words_needed vs ≤ rooms.words → rooms.bytes < bytes_needed vs → Verdict vs rooms (refuse 4 (1 ∷ []))
  middle : Sound vs rooms → words_needed vs ≤ rooms.words → bytes_needed vs ≤ rooms.bytes → rooms.middle < middle_needed vs
      → Verdict vs rooms (refuse 4 (2 ∷ []))
  large : Sound vs rooms → words_needed vs ≤ rooms.words → bytes_needed vs ≤ rooms.bytes → middle_needed vs ≤ rooms.middle
      → rooms.large < large_needed vs → Verdict vs rooms (refuse 4 (3 ∷ []))
  labels : Sound vs rooms → words_needed vs ≤ rooms.words → bytes_needed vs ≤ rooms.bytes → middle_needed vs ≤ rooms.middle
      → large_needed vs ≤ rooms.large → rooms.labels < length vs → Verdict vs rooms (refuse 4 (4 ∷ []))
  accepted : Sound vs rooms → words_needed vs ≤ rooms.words → bytes_needed vs ≤ rooms.bytes → middle_needed vs ≤ rooms.middle
      → large_needed vs ≤ rooms.large → length vs ≤ rooms.labels → Verdict vs rooms none

-- and with LENGTHS before them (`build_verdict`: those of `refusal`)
pub data BuildVerdict (vs bs : List ℕ) (rooms : Rooms) : Option Refusal → Type 0 where
  lengths : ¬ (length vs ≡ length bs) → BuildVerdict vs bs rooms (refuse 1 (0 ∷ []))
  checked : {o : Option Refusal} → length vs ≡ length bs → Verdict vs rooms o → BuildVerdict vs bs rooms o
