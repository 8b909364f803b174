-- A dictionary built directly, either side of each of its edges, proved by computing.
use Rattle.std.specs.Prelude.{◌≡◌, refl, List, [], ◌∷◌, ◌++◌, ℕ, replicate}
use Rattle.std.proofs.Math.Option.{none}
use Rattle.meaning.specs.Answers.{is, nothing, refused, broken}
use Rattle.meaning.specs.Dictionary.{Dict}
use Rattle.meaning.specs.Refusals.{refuse}
use Rattle.meaning.specs.Direct.{DictRooms, Entries, dict_refusal, dict_build, dict_rank, dict_select, dict_pred, dict_succ}
use Rattle.meaning.specs.Open.{all}

abbrev rooms : ℕ → ℕ → ℕ → DictRooms
rooms b m l = record { bytes = b; middle = m; large = l }

abbrev counts : ℕ → ℕ → ℕ → Entries
counts b m l = record { bytes = b; middle = m; large = l }

abbrev areas : List ℕ → List ℕ → List ℕ → Dict
areas b m l = record { bytes = b; middle = m; large = l }

abbrev ones : List ℕ
ones = 0xffffffffffffffff ∷ 0xffffffffffffffff ∷ 0xffffffffffffffff ∷ 0xffffffffffffffff ∷ []

-- {0, 3} of 4 bits; the word's later ones are not of the string
abbrev two : List ℕ
two = 0xf9 ∷ []

abbrev held : Dict
held = areas (2 ∷ 0 ∷ 3 ∷ 0 ∷ []) (0 ∷ 0 ∷ 0 ∷ []) (0 ∷ 0 ∷ [])

pub record DirectRows : Type 0 where
  -- ones 0 to 254: accepted; 0 to 255: FULL, level 0, block 0; 256 to 511 alone: block 1
  ones_255 : dict_refusal ones 255 (rooms 256 2 2) ≡ none
  ones_256 : dict_refusal ones 256 (rooms 257 2 2) ≡ refuse 5 (0 ∷ 0 ∷ [])
  ones_later : dict_refusal (replicate 4 0 ++ ones) 512 (rooms 258 2 2) ≡ refuse 5 (0 ∷ 1 ∷ [])
  -- a length past the words comes first, then MANY, then FULL, then ROOM
  inside : dict_refusal (0 ∷ []) 64 (rooms 0 0 0) ≡ none
  past_words : dict_refusal (0 ∷ []) 65 (rooms 0 0 0) ≡ refuse 9 (0 ∷ [])
  many : dict_refusal (replicate 32769 0) 2097153 (rooms 0 0 0) ≡ refuse 2 (2097153 ∷ [])
  full_first : dict_refusal ones 256 (rooms 0 0 0) ≡ refuse 5 (0 ∷ 0 ∷ [])
  room_1 : dict_refusal two 4 (rooms 2 1 1) ≡ refuse 4 (1 ∷ [])
  room_2 : dict_refusal two 4 (rooms 3 1 1) ≡ refuse 4 (2 ∷ [])
  room_3 : dict_refusal two 4 (rooms 3 2 1) ≡ refuse 4 (3 ∷ [])
  -- zeros behind what is used; refused, all zeros; no ones, no entries
  build_two : dict_build two 4 (rooms 4 3 2) ≡ record { reply = is (counts 3 1 1); areas = held }
  build_refused : dict_build two 65 (rooms 2 1 1)
      ≡ record { reply = refused (record { number = 9; carries = 0 ∷ [] }); areas = areas (0 ∷ 0 ∷ []) (0 ∷ []) (0 ∷ []) }
  build_none : dict_build (0 ∷ []) 64 (rooms 1 0 0) ≡ record { reply = is (counts 0 0 0); areas = areas (0 ∷ []) [] [] }
  -- questions
  rank_2 : dict_rank (counts 3 1 1) held 2 ≡ is 1
  select_2 : dict_select (counts 3 1 1) held 2 ≡ is 3
  select_3 : dict_select (counts 3 1 1) held 3 ≡ nothing
  pred_2 : dict_pred (counts 3 1 1) held 2 ≡ is 0
  succ_1 : dict_succ (counts 3 1 1) held 1 ≡ is 3
  succ_3 : dict_succ (counts 3 1 1) held 3 ≡ is 3
  succ_4 : dict_succ (counts 3 1 1) held 4 ≡ nothing
  unfit : dict_rank (counts 5 1 1) held 2 ≡ refused broken
  unfit_middle : dict_succ (counts 3 2 1) held 2 ≡ refused broken

pub direct_rows : DirectRows
unfolding all
direct_rows =
    record {
      ones_255 = refl;
      ones_256 = refl;
      ones_later = refl;
      inside = refl;
      past_words = refl;
      many = refl;
      full_first = refl;
      room_1 = refl;
      room_2 = refl;
      room_3 = refl;
      build_two = refl;
      build_refused = refl;
      build_none = refl;
      rank_2 = refl;
      select_2 = refl;
      select_3 = refl;
      pred_2 = refl;
      succ_1 = refl;
      succ_3 = refl;
      succ_4 = refl;
      unfit = refl;
      unfit_middle = refl;
    }
