-- Refusal numbers. What is refused, in which order, and what each refusal carries.
use Rattle.std.specs.Prelude.{◌≡◌, Bool, true, false, List, [], ◌∷◌, ℕ, zero, suc, ◌+◌, ◌*◌, ◌/◌, ◌≤◌, ◌<◌, leb, eqb, length, take, drop}
use Rattle.std.proofs.Math.Option.{Option, none, some}
use Rattle.meaning.specs.Answers.{Refusal}
use Rattle.meaning.specs.Bits.{opens}
use Rattle.meaning.specs.String.{string}
use Rattle.meaning.specs.List.{offending, Rule, greatest}
use Rattle.meaning.specs.Pioneers.{flags, pioneer_string, higher}
use Rattle.meaning.specs.Family.{Level, tower}
use Rattle.meaning.specs.Areas.{Rooms, area_words, area_bytes, area_middle, area_large}

-- to refuse with number n
abbrev pub refuse : ℕ → List ℕ → Option Refusal
refuse n l = some (record { number = n; carries = l })

-- a check that must hold
unfoldable pub check : Bool → ℕ → List ℕ → Option Refusal
check true n l = none
check false n l = refuse n l

-- FULL: "an aligned 256 places all flagged". The first such block, counted from b; k blocks
unfoldable pub full_block : ℕ → ℕ → List Bool → Option ℕ
full_block zero b f = none
full_block (suc k) b f = elim (eqb (opens (take 256 f)) 256) [ true ↦ some b | false ↦ full_block k (suc b) (drop 256 f) ]

-- the block that it finds: 256 ones, and fewer in each before it (`full_exactly`)
pub record LowestFull (f : List Bool) (b : ℕ) : Type 0 where
  pub full : opens (take 256 (drop (256 * b) f)) ≡ 256
  pub lower : (i : ℕ) → i < b → opens (take 256 (drop (256 * i) f)) < 256

-- FULL carries the "pioneer level (1 flags the string itself), block"
unfoldable pub full_at : ℕ → Option ℕ → Option Refusal → Option Refusal
full_at v none r = r
full_at v (some b) r = refuse 5 (v ∷ b ∷ [])

-- FULL at the lowest level and block; DEEP if a level is needed past the last. k levels are left, the next is v
unfoldable pub full_from : ℕ → ℕ → List Bool → Option Refusal
full_from zero v l = check (leb (length l) 64) 6 (0 ∷ [])
full_from (suc k) v l =
    elim (leb (length l) 64) [
      | true ↦ none
      | false ↦ full_at v (full_block (length l / 256 + 1) 0 (flags l)) (full_from k (suc v) (pioneer_string l))
    ]

-- what it says: "5 (lowest level, lowest block)". Level v flags pioneer string v - 1; each lower level has a family without a
-- full block (`full_level`)
pub record LowestLevel (l : List Bool) (v b : ℕ) : Type 0 where
  pub under : ℕ
  pub level : v ≡ suc under
  pub few : under < 4
  pub long : (j : ℕ) → j ≤ under → 64 < length (higher j l)
  pub here : LowestFull (flags (higher under l)) b
  pub lower : (j : ℕ) → j < under → (i : ℕ) → opens (take 256 (drop (256 * i) (flags (higher j l)))) < 256

-- the first refusal counts
unfoldable pub first_of : List (Option Refusal) → Option Refusal
first_of [] = none
first_of (none ∷ rs) = first_of rs
first_of (some r ∷ rs) = some r

-- LEVEL carries the "first offending place"
unfoldable pub level_rule : Option ℕ → Option Refusal
level_rule none = none
level_rule (some k) = refuse 3 (k ∷ [])

-- "Build checks 1, 2, 3, ROOM for area 5, then 5 (lowest level, lowest block), 6, then ROOM for 0 to 4": those from 2 on
unfoldable pub checks : List ℕ → Rooms → List (Option Refusal)
checks levels rooms =
    let n : ℕ = length levels in
    let t : List Level = tower 4 (string levels) in
    check (leb n greatest) 2 (n ∷ [])
    ∷ level_rule (offending levels)
    ∷ check (leb (2 * n + 2) rooms.scratch) 4 (5 ∷ [])
    ∷ full_from 4 1 (string levels)
    ∷ check (leb (length (area_words t)) rooms.words) 4 (0 ∷ [])
    ∷ check (leb (length (area_bytes t)) rooms.bytes) 4 (1 ∷ [])
    ∷ check (leb (length (area_middle t)) rooms.middle) 4 (2 ∷ [])
    ∷ check (leb (length (area_large t)) rooms.large) 4 (3 ∷ [])
    ∷ check (leb n rooms.labels) 4 (4 ∷ [])
    ∷ []

-- LENGTHS comes before them
unfoldable pub refusal : List ℕ → List ℕ → Rooms → Option Refusal
refusal levels labels rooms = first_of (check (eqb (length levels) (length labels)) 1 (0 ∷ []) ∷ checks levels rooms)

-- a build that is not refused, check by check (`accepted_exactly`; `accepted_flags`: with FULL in 01's words)
pub record Accepted (levels labels : List ℕ) (rooms : Rooms) : Type 0 where
  pub same : length levels ≡ length labels
  pub few : length levels ≤ greatest
  pub rule : Rule levels
  pub scratch : 2 * length levels + 2 ≤ rooms.scratch
  pub narrow : full_from 4 1 (string levels) ≡ none
  pub words : length (area_words (tower 4 (string levels))) ≤ rooms.words
  pub bytes : length (area_bytes (tower 4 (string levels))) ≤ rooms.bytes
  pub middle : length (area_middle (tower 4 (string levels))) ≤ rooms.middle
  pub large : length (area_large (tower 4 (string levels))) ≤ rooms.large
  pub label : length levels ≤ rooms.labels
