-- A dictionary built directly, from words and a length into areas 1 to 3: what it answers, what it leaves there, and the questions to it.
use Rattle.std.specs.Prelude.{◌≡◌, Bool, true, false, ◌&&◌, List, [], ◌∷◌, ℕ, ◌+◌, ◌*◌, ◌-◌, ◌/◌, ◌≤◌, leb, length, take, drop, replicate}
use Rattle.std.proofs.Math.Option.{Option, none, some}
use Rattle.std.proofs.lemmas.List.Edits.{sets}
use Rattle.meaning.specs.Answers.{Refusal, Answer, is, refused, broken, or_broken}
use Rattle.meaning.specs.Bits.{bits_of}
use Rattle.meaning.specs.Dictionary.{Dict, dict_of, rank_of, select_of, pred_of, succ_of}
use Rattle.meaning.specs.Areas.{filled}
use Rattle.meaning.specs.Refusals.{check, full_block, full_at, first_of}
use Rattle.meaning.specs.Questions.{sized}

-- "for a dictionary built directly, bits above 2,097,152"
abbrev pub most_bits : ℕ
most_bits = 2097152

-- the lengths of areas 1 to 3
pub record DictRooms : Type 0 where
  pub bytes : ℕ
  pub middle : ℕ
  pub large : ℕ

-- the record of counts: how many entries of the three kinds
pub record Entries : Type 0 where
  pub bytes : ℕ
  pub middle : ℕ
  pub large : ℕ

-- the answer, and what areas 1 to 3 hold after the call
pub record DictAfter : Type 0 where
  pub reply : Answer Entries
  pub areas : Dict

-- "checks BROKEN (a length past its words), MANY, FULL with level 0, then ROOM for 1 to 3"
unfoldable pub dict_refusal : List ℕ → ℕ → DictRooms → Option Refusal
dict_refusal ws n rooms =
    let d : Dict = dict_of (bits_of ws n) in
    first_of
    (check (leb n (64 * length ws)) 9 (0 ∷ [])
    ∷ check (leb n most_bits) 2 (n ∷ [])
    ∷ full_at 0 (full_block (n / 256 + 1) 0 (bits_of ws n)) none
    ∷ check (leb (length d.bytes) rooms.bytes) 4 (1 ∷ [])
    ∷ check (leb (length d.middle) rooms.middle) 4 (2 ∷ [])
    ∷ check (leb (length d.large) rooms.large) 4 (3 ∷ [])
    ∷ [])

-- the counts of a dictionary
unfoldable pub entries_of : Dict → Entries
entries_of d = record { bytes = length d.bytes; middle = length d.middle / 2; large = length d.large / 2 }

-- The plan, which looks at no area: "BROKEN (a length past its words), MANY, FULL with level 0", else the counts
unfoldable pub dict_plan : List ℕ → ℕ → Answer Entries
dict_plan ws n =
    elim (first_of
    (check (leb n (64 * length ws)) 9 (0 ∷ [])
    ∷ check (leb n most_bits) 2 (n ∷ [])
    ∷ full_at 0 (full_block (n / 256 + 1) 0 (bits_of ws n)) none
    ∷ [])) [
      | none ↦ is (entries_of (dict_of (bits_of ws n)))
      | some r ↦ refused r
    ]

-- "leaves zeros behind what it uses"
unfoldable pub dict_written : DictRooms → Dict → Dict
dict_written rooms d =
    record { bytes = filled rooms.bytes d.bytes; middle = filled rooms.middle d.middle; large = filled rooms.large d.large }

-- "refused, its areas are zero"
unfoldable pub dict_zeroed : DictRooms → Dict
dict_zeroed rooms = record { bytes = replicate rooms.bytes 0; middle = replicate rooms.middle 0; large = replicate rooms.large 0 }

-- the build
unfoldable pub dict_build : List ℕ → ℕ → DictRooms → DictAfter
dict_build ws n rooms =
    elim (dict_refusal ws n rooms) [
      | none ↦ record { reply = is (entries_of (dict_of (bits_of ws n))); areas = dict_written rooms (dict_of (bits_of ws n)) }
      | some r ↦ record { reply = refused r; areas = dict_zeroed rooms }
    ]

-- "1, 4 and 16 per dictionary entry of the three kinds"
unfoldable pub dict_size : Entries → Answer ℕ
dict_size e = sized (e.bytes + 4 * e.middle + 16 * e.large)

-- what areas 1 to 3 hold past o entries of each kind
unfoldable pub dict_past : Entries → Dict → Dict
dict_past o a = record { bytes = drop o.bytes a.bytes; middle = drop (2 * o.middle) a.middle; large = drop (2 * o.large) a.large }

-- the room there
unfoldable pub dict_rooms : Entries → Dict → DictRooms
dict_rooms o a =
    record {
      bytes = length a.bytes - o.bytes;
      middle = length a.middle - 2 * o.middle;
      large = length a.large - 2 * o.large;
    }

-- the areas with a dictionary put there
unfoldable pub dict_put : Entries → Dict → Dict → Dict
dict_put o d a =
    record {
      bytes = sets a.bytes o.bytes d.bytes;
      middle = sets a.middle (2 * o.middle) d.middle;
      large = sets a.large (2 * o.large) d.large;
    }

-- a dictionary written past o entries of each kind, all else as it stood; refused, nothing changes
unfoldable pub dict_write : List ℕ → ℕ → Entries → Dict → DictAfter
dict_write ws n o a =
    elim (dict_refusal ws n (dict_rooms o a)) [
      | none ↦ record { reply = is (entries_of (dict_of (bits_of ws n))); areas = dict_put o (dict_of (bits_of ws n)) a }
      | some r ↦ record { reply = refused r; areas = a }
    ]

-- the dictionary that areas 1 to 3 hold by the record of counts
unfoldable pub dict_in : Entries → Dict → Dict
dict_in e a = record { bytes = take e.bytes a.bytes; middle = take (2 * e.middle) a.middle; large = take (2 * e.large) a.large }

-- "counts that do not fit the areas (9)"
unfoldable pub entries_fit : Entries → Dict → Bool
entries_fit e a = leb e.bytes (length a.bytes) && leb (2 * e.middle) (length a.middle) && leb (2 * e.large) (length a.large)

-- what a question finds, if they do
unfoldable pub if_fit : Entries → Dict → Answer ℕ → Answer ℕ
if_fit e a f = elim (entries_fit e a) [ true ↦ f | false ↦ refused broken ]

-- the four questions
unfoldable pub dict_rank : Entries → Dict → ℕ → Answer ℕ
dict_rank e a x = if_fit e a (or_broken (rank_of (dict_in e a) x))

unfoldable pub dict_select : Entries → Dict → ℕ → Answer ℕ
dict_select e a r = if_fit e a (select_of (dict_in e a) r)

unfoldable pub dict_pred : Entries → Dict → ℕ → Answer ℕ
dict_pred e a x = if_fit e a (pred_of (dict_in e a) x)

unfoldable pub dict_succ : Entries → Dict → ℕ → Answer ℕ
dict_succ e a x = if_fit e a (succ_of (dict_in e a) x)

-- a build that is not refused, check by check (`dict_exactly`)
pub record DictAccepted (ws : List ℕ) (n : ℕ) (rooms : DictRooms) : Type 0 where
  pub inside : n ≤ 64 * length ws
  pub few : n ≤ most_bits
  pub narrow : full_block (n / 256 + 1) 0 (bits_of ws n) ≡ none
  pub bytes : length (dict_of (bits_of ws n)).bytes ≤ rooms.bytes
  pub middle : length (dict_of (bits_of ws n)).middle ≤ rooms.middle
  pub large : length (dict_of (bits_of ws n)).large ≤ rooms.large
