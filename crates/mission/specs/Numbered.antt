-- "Refusal numbers" (01): which refusals there are, and what each carries.
use Rattle.std.specs.Prelude.{[], ◌∷◌, ℕ, ◌≤◌}
use Rattle.meaning.specs.Answers.{Refusal}

-- "0 words, 1 count-and-offset bytes, 2 u16, 3 u64, 4 labels, 5 scratch" (01). The lists of levels and labels that a walk fills are no areas
-- of 01; docs/DECISIONS.md adds 10 and 11 for them
pub data Area : ℕ → Type 0 where
  words : Area 0
  bytes : Area 1
  middle : Area 2
  large : Area 3
  labels : Area 4
  scratch : Area 5
  walk_levels : Area 10
  walk_labels : Area 11

-- The rows of 01's table. 6, "DEEP", "a fifth pioneer level is needed", is left out: it is never given (meaning/proofs/NeverDeep.antt)
pub data Numbered : Refusal → Type 0 where
  -- "LENGTHS" carries "0"
  lengths : Numbered (record { number = 1; carries = 0 ∷ [] })
  -- "MANY" carries "n or bits"
  many : (n : ℕ) → Numbered (record { number = 2; carries = n ∷ [] })
  -- "LEVEL" carries the "first offending place"
  level : (place : ℕ) → Numbered (record { number = 3; carries = place ∷ [] })
  -- "ROOM" carries the "area"
  room : {area : ℕ} → Area area → Numbered (record { number = 4; carries = area ∷ [] })
  -- "FULL" carries "pioneer level (1 flags the string itself), block"; a dictionary built directly is "FULL with level 0"
  full : (level block : ℕ) → Numbered (record { number = 5; carries = level ∷ block ∷ [] })
  -- "PLACE" and "CLOSE" carry "the place"
  place : (p : ℕ) → Numbered (record { number = 7; carries = p ∷ [] })
  close : (p : ℕ) → Numbered (record { number = 8; carries = p ∷ [] })
  -- "BROKEN" carries "0"
  broken : Numbered (record { number = 9; carries = 0 ∷ [] })
  -- "TEXT" carries "the first such line, from 1"
  text : (line : ℕ) → 1 ≤ line → Numbered (record { number = 10; carries = line ∷ [] })
