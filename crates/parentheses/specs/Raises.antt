-- The levels of a string of n nodes that scratch holds, in areas 0 to 3: what is answered, and what is left.
use Rattle.std.specs.Prelude.{Result, is_err}
use Rattle.std.specs.Prelude.{◌≡◌, Bool, true, false, ◌&&◌, List, [], ◌∷◌, ℕ, ◌+◌, ◌*◌, ◌≤◌, leb, length, drop, replicate}
use Rattle.std.proofs.Math.Option.{Option, none, some}
use Rattle.meaning.specs.Answers.{Refusal, Answer, is, refused, broken}
use Rattle.meaning.specs.Bits.{bits_of, word_count}
use Rattle.meaning.specs.List.{greatest}
use Rattle.meaning.specs.Family.{Level, tower}
use Rattle.meaning.specs.Areas.{Rooms, Held, area_words, area_bytes, area_middle, area_large, written, counted}
use Rattle.meaning.specs.Refusals.{check, full_from, first_of}
use Rattle.meaning.specs.Build.{Tree}
use Rattle.meaning.specs.Growth.{one_root}
use Rattle.record.specs.Record.{said_tree, SizedIn}
use Rattle.record.specs.declared.Counts.{Counts}
use Rattle.refusal.specs.declared.Refusal as refusal
use Rattle.pioneers.specs.Placed.{holding}
use Rattle.pioneers.specs.declared.flags.Layout.{Layout}

-- the parts of scratch for n nodes
abbrev pub lay_of : ℕ → Layout
lay_of n = record { text = n + 1; flags = n + 1 + word_count (2 * n + 2); bits = 2 * n + 2 }

-- the string of n nodes that scratch holds
unfoldable pub string_in : List ℕ → ℕ → List Bool
string_in scr n = bits_of (drop (n + 1) scr) (2 * n + 2)

-- the lengths of areas 0 to 3, and of areas 4 and 5
abbrev pub rooms_at : Held → ℕ → ℕ → Rooms
rooms_at a labels k =
    record {
      words = length a.words;
      bytes = length a.bytes;
      middle = length a.middle;
      large = length a.large;
      labels = labels;
      scratch = k;
    }

-- "then 5 (lowest level, lowest block), 6, then ROOM for 0 to 4", of a string of n nodes
unfoldable pub string_checks : List Bool → ℕ → Rooms → List (Option Refusal)
string_checks l n rooms =
    let t : List Level = tower 4 l in
    full_from 4 1 l
    ∷ check (leb (length (area_words t)) rooms.words) 4 (0 ∷ [])
    ∷ check (leb (length (area_bytes t)) rooms.bytes) 4 (1 ∷ [])
    ∷ check (leb (length (area_middle t)) rooms.middle) 4 (2 ∷ [])
    ∷ check (leb (length (area_large t)) rooms.large) 4 (3 ∷ [])
    ∷ check (leb n rooms.labels) 4 (4 ∷ [])
    ∷ []

-- with the areas and scratch as they are left
pub record Raising : Type 0 where
  pub reply : Answer Tree
  pub held : Held
  pub scr : List ℕ

abbrev pub raising : Answer Tree → Held → List ℕ → Raising
raising r a s = record { reply = r; held = a; scr = s }

-- no string of n nodes is BROKEN; a refusal leaves the areas as they stood; else they hold the levels, and zeros behind them. Scratch is zero
unfoldable pub raise_in : List ℕ → ℕ → Held → ℕ → Raising
raise_in scr n a labels =
    let zeros : List ℕ = replicate (length scr) 0 in
    let rooms : Rooms = rooms_at a labels (length scr) in
    elim (leb n greatest && (leb (2 * n + 2) (length scr) && one_root (string_in scr n))) [
      | true ↦
          elim (first_of (string_checks (string_in scr n) n rooms)) [
            | none ↦
                raising (is (record { nodes = n; counts = counted (tower 4 (string_in scr n)) })) (written rooms (tower 4 (string_in scr n))) zeros
            | some r ↦ raising (refused r) a zeros
          ]
      | false ↦ raising (refused broken) a zeros
    ]

-- THE CONTRACT of the level builder: of a string of n nodes in scratch and areas a, into areas b and scratch `exit`, with answer r
pub record Raises (scr : List ℕ) (n : ℕ) (a : Held) (labels : ℕ) (b : Held) (exit : List ℕ) (r : Result Counts refusal.Refusal) : Type 0 where
  pub outcome : raising (said_tree r) b exit ≡ raise_in scr n a labels
  pub sized : SizedIn r

-- before scratch is cleared where it refuses
pub record Raised (scr : List ℕ) (n : ℕ) (a : Held) (labels : ℕ) (b : Held) (exit : List ℕ) (r : Result Counts refusal.Refusal) : Type 0 where
  pub outcome : raising (said_tree r) b (replicate (length scr) 0) ≡ raise_in scr n a labels
  pub zeros : is_err r ≡ false → exit ≡ replicate (length scr) 0
  pub sized : SizedIn r

-- a string of n nodes, whatever stands beside it
pub record Stands (scr : List ℕ) (n : ℕ) : Type 0 where
  pub few : n ≤ greatest
  pub room : 2 * n + 2 ≤ length scr
  pub root : one_root (string_in scr n) ≡ true

-- and nothing beside it
pub record Holds (scr : List ℕ) (n : ℕ) : Type 0 where
  pub stands : Stands scr n
  pub alone : scr ≡ holding (n + 1) (length scr) (string_in scr n)

-- and room for its levels
pub record Fills (scr : List ℕ) (n : ℕ) (a : Held) : Type 0 where
  pub holds : Holds scr n
  pub narrow : full_from 4 1 (string_in scr n) ≡ none
  pub words : length (area_words (tower 4 (string_in scr n))) ≤ length a.words
  pub bytes : length (area_bytes (tower 4 (string_in scr n))) ≤ length a.bytes
  pub middle : length (area_middle (tower 4 (string_in scr n))) ≤ length a.middle
  pub large : length (area_large (tower 4 (string_in scr n))) ≤ length a.large
