-- What the writing of a string's levels leaves, and what it starts from.
use Rattle.std.specs.Prelude.{Option, None, Some}
use Rattle.std.specs.Prelude.{◌≡◌, List, ℕ, ◌+◌, ◌*◌, ◌/◌, ◌≤◌, ◌<◌, length, replicate}
use Rattle.std.proofs.Math.Option.{none}
use Rattle.std.proofs.lemmas.List.Edits.{sets}
use Rattle.meaning.specs.Pioneers.{flags, pioneer_string}
use Rattle.meaning.specs.Dictionary.{dict_of}
use Rattle.meaning.specs.Family.{Level, tower}
use Rattle.meaning.specs.Areas.{Held, area_words, area_bytes, area_middle, area_large}
use Rattle.meaning.specs.Refusals.{full_block, full_from}
use Rattle.meaning.specs.Direct.{entries_of, dict_put}
use Rattle.sparse_one_nnd.specs.Said.{entries_in, dict_at}
use Rattle.sparse_one_nnd.specs.declared.SparseOneNnd.{SparseOneNnd}
use Rattle.pioneers.specs.Placed.{holding}
use Rattle.pioneers.specs.Scratch.{text_of}
use Rattle.pioneers.specs.declared.flags.Layout.{Layout}
use Rattle.parentheses.specs.Plans.{Standing}
use Rattle.parentheses.specs.declared.levels.Areas.{Areas}
use Rattle.parentheses.specs.declared.plans.Sizes.{Sizes}
use Rattle.parentheses.specs.declared.plans.Family.{Family}

-- areas 0 to 3
abbrev pub held_at : List ℕ → List ℕ → List ℕ → List ℕ → Held
held_at w b m g = record { words = w; bytes = b; middle = m; large = g }

abbrev pub held_in : Areas → Held
held_in a = held_at a.words.now a.bytes.now a.middles.now a.larges.now

-- the same areas are lent
pub record Same (a b : Areas) : Type 0 where
  pub words : b.words.ghost_name ≡ a.words.ghost_name
  pub bytes : b.bytes.ghost_name ≡ a.bytes.ghost_name
  pub middles : b.middles.ghost_name ≡ a.middles.ghost_name
  pub larges : b.larges.ghost_name ≡ a.larges.ghost_name

-- the areas with some levels put past `at`
abbrev pub put : Sizes → List Level → Held → Held
put at t a =
    record {
      words = sets a.words at.words (area_words t);
      bytes = sets a.bytes at.dict.bytes (area_bytes t);
      middle = sets a.middle (2 * at.dict.middles) (area_middle t);
      large = sets a.large (2 * at.dict.larges) (area_large t);
    }

-- a level with a family that is not FULL, and room for its dictionary
pub record Putting (scr : List ℕ) (lay : Layout) (o : SparseOneNnd) (b m g : List ℕ) : Type 0 where
  pub standing : Standing scr lay
  pub long : 64 < lay.bits
  pub narrow : full_block (lay.bits / 256 + 1) 0 (flags (text_of scr lay)) ≡ none
  pub bytes : o.bytes + length (dict_of (flags (text_of scr lay))).bytes ≤ length b
  pub middle : 2 * o.middles + length (dict_of (flags (text_of scr lay))).middle ≤ length m
  pub large : 2 * o.larges + length (dict_of (flags (text_of scr lay))).large ≤ length g

-- the dictionary's counts, the pioneer string in the string's place, and the dictionary in areas 1 to 3
unfoldable pub PutIs : Option Family → List ℕ → Layout → SparseOneNnd → List ℕ → List ℕ → List ℕ → List ℕ → List ℕ → List ℕ → List ℕ → Type 0
PutIs (Some f) scr lay o b m g exit b' m' g' =
    (entries_in f.dict ≡ entries_of (dict_of (flags (text_of scr lay))))
    × (f.bits ≡ length (pioneer_string (text_of scr lay)))
    × (exit ≡ holding lay.text (length scr) (pioneer_string (text_of scr lay)))
    × (dict_at b' m' g' ≡ dict_put (entries_in o) (dict_of (flags (text_of scr lay))) (dict_at b m g))
PutIs None scr lay o b m g exit b' m' g' = ⊥

-- the levels are neither FULL nor DEEP, and fit
pub record Writing (scr : List ℕ) (lay : Layout) (left : ℕ) (at : Sizes) (a : Held) : Type 0 where
  pub standing : Standing scr lay
  pub few : left ≤ 4
  pub level : ℕ
  pub narrow : full_from left level (text_of scr lay) ≡ none
  pub words : at.words + length (area_words (tower left (text_of scr lay))) ≤ length a.words
  pub bytes : at.dict.bytes + length (area_bytes (tower left (text_of scr lay))) ≤ length a.bytes
  pub middle : 2 * at.dict.middles + length (area_middle (tower left (text_of scr lay))) ≤ length a.middle
  pub large : 2 * at.dict.larges + length (area_large (tower left (text_of scr lay))) ≤ length a.large
  pub small : (at.words + length (area_words (tower left (text_of scr lay))) < 4294967296)
      × (at.dict.bytes + length (area_bytes (tower left (text_of scr lay))) < 4294967296)
      × (2 * at.dict.middles + length (area_middle (tower left (text_of scr lay))) < 4294967296)
      × (2 * at.dict.larges + length (area_large (tower left (text_of scr lay))) < 4294967296)

-- "the string first, then each pioneer level in turn, with no gaps"
pub record WrittenIs (scr : List ℕ) (lay : Layout) (left : ℕ) (at : Sizes) (a b : Held) (exit : List ℕ) : Type 0 where
  pub areas : b ≡ put at (tower left (text_of scr lay)) a
  pub zeros : exit ≡ replicate (length scr) 0
