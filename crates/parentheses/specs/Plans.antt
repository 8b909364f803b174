-- What the plan of a string's levels says, and what it starts from.
use Rattle.std.specs.Prelude.{Result, Ok, Err}
use Rattle.std.specs.Prelude.{◌≡◌, Bool, true, List, [], ◌∷◌, ℕ, ◌+◌, ◌*◌, ◌-◌, ◌/◌, ◌≤◌, ◌<◌, length, get_or}
use Rattle.std.proofs.Math.Option.{none, some}
use Rattle.meaning.specs.Bits.{word_count}
use Rattle.meaning.specs.Pioneers.{flags, pioneer_string}
use Rattle.meaning.specs.Dictionary.{dict_of}
use Rattle.meaning.specs.Family.{Level, tower}
use Rattle.meaning.specs.Areas.{area_words, area_bytes, area_middle, area_large, counted}
use Rattle.meaning.specs.Refusals.{full_block, full_from}
use Rattle.meaning.specs.Growth.{one_root}
use Rattle.meaning.specs.Direct.{entries_of, most_bits}
use Rattle.record.specs.Record.{tree_in}
use Rattle.record.specs.declared.Counts.{Counts}
use Rattle.sparse_one_nnd.specs.Said.{entries_in}
use Rattle.sparse_one_nnd.specs.declared.SparseOneNnd.{SparseOneNnd}
use Rattle.pioneers.specs.Placed.{holding}
use Rattle.pioneers.specs.Scratch.{text_of, fits_in}
use Rattle.pioneers.specs.declared.flags.Layout.{Layout}
use Rattle.refusal.specs.Said.{refusal_of}
use Rattle.refusal.specs.declared.Refusal.{Refusal}
use Rattle.refusal.specs.declared.Refusal.TheVariants.{Full}
use Rattle.parentheses.specs.declared.plans.Sizes.{Sizes}
use Rattle.parentheses.specs.declared.plans.Plan.{Plan}
use Rattle.parentheses.specs.declared.plans.Family.{Family}

-- one string alone; a string and its dictionary before the others
abbrev pub alone_of : ℕ → Counts
alone_of m =
    record { nodes = 0; bits = m ∷ 0 ∷ 0 ∷ 0 ∷ 0 ∷ []; bytes = 0 ∷ 0 ∷ 0 ∷ 0 ∷ []; middles = 0 ∷ 0 ∷ 0 ∷ 0 ∷ []; larges = 0 ∷ 0 ∷ 0 ∷ 0 ∷ [] }

abbrev pub shifted : ℕ → SparseOneNnd → Counts → Counts
shifted m d c =
    record {
      nodes = 0;
      bits = m ∷ get_or c.bits 0 0 ∷ get_or c.bits 1 0 ∷ get_or c.bits 2 0 ∷ get_or c.bits 3 0 ∷ [];
      bytes = d.bytes ∷ get_or c.bytes 0 0 ∷ get_or c.bytes 1 0 ∷ get_or c.bytes 2 0 ∷ [];
      middles = d.middles ∷ get_or c.middles 0 0 ∷ get_or c.middles 1 0 ∷ get_or c.middles 2 0 ∷ [];
      larges = d.larges ∷ get_or c.larges 0 0 ∷ get_or c.larges 1 0 ∷ get_or c.larges 2 0 ∷ [];
    }

-- the sizes of one string; those of a level more
abbrev pub sizes_of : ℕ → Sizes
sizes_of m = record { words = word_count m; dict = record { bytes = 0; middles = 0; larges = 0 } }

abbrev pub added : Sizes → ℕ → SparseOneNnd → Sizes
added s m d =
    record {
      words = s.words + word_count m;
      dict = record { bytes = s.dict.bytes + d.bytes; middles = s.dict.middles + d.middles; larges = s.dict.larges + d.larges };
    }

-- a level before the rest
abbrev pub above_of : ℕ → SparseOneNnd → Plan → Plan
above_of m d t = record { counts = shifted m d t.counts; sizes = added t.sizes m d }

-- no sum of sizes overflows
pub record Small (s : Sizes) (d : SparseOneNnd) : Type 0 where
  pub words : s.words < 4294967296
  pub bytes : (s.dict.bytes < 4294967296) × (d.bytes < 4294967296)
  pub middles : (s.dict.middles < 4294967296) × (d.middles < 4294967296)
  pub larges : (s.dict.larges < 4294967296) × (d.larges < 4294967296)

-- what the four areas have of some levels
pub record SizesAre (s : Sizes) (t : List Level) : Type 0 where
  pub words : s.words ≡ length (area_words t)
  pub bytes : s.dict.bytes ≡ length (area_bytes t)
  pub middle : 2 * s.dict.middles ≡ length (area_middle t)
  pub large : 2 * s.dict.larges ≡ length (area_large t)

-- what the levels take, where none is FULL or DEEP
pub record Takes (p : Plan) (left level : ℕ) (l : List Bool) : Type 0 where
  pub narrow : full_from left level l ≡ none
  pub counts : (tree_in p.counts).counts ≡ counted (tower left l)
  pub sizes : SizesAre p.sizes (tower left l)

-- FULL at the lowest level and block, DEEP; else the counts and sizes of the levels
abbrev pub PlanIs : Result Plan Refusal → ℕ → ℕ → List Bool → Type 0
PlanIs (Ok p) left level l = Takes p left level l
PlanIs (Err r) left level l = full_from left level l ≡ some (refusal_of r)

-- what a level starts from: scratch holds a string balanced under one root and nothing else, and has room for its flags if it has a family
pub record Standing (scr : List ℕ) (lay : Layout) : Type 0 where
  pub holds : scr ≡ holding lay.text (length scr) (text_of scr lay)
  pub root : one_root (text_of scr lay) ≡ true
  pub few : lay.bits ≤ most_bits
  pub inside : lay.text ≤ length scr
  pub room : lay.bits ≤ 64 * (length scr - lay.text)
  pub fits : 64 < lay.bits → fits_in lay (length scr) ≡ true

-- "a sparse dictionary of its flags, and the string of its flagged bits in order"; or FULL at the level
unfoldable pub FamilyIs : Result Family Refusal → ℕ → List ℕ → Layout → List ℕ → Type 0
FamilyIs (Ok f) level scr lay exit =
    (full_block (lay.bits / 256 + 1) 0 (flags (text_of scr lay)) ≡ none)
    × (entries_in f.dict ≡ entries_of (dict_of (flags (text_of scr lay))))
    × (f.bits ≡ length (pioneer_string (text_of scr lay)))
    × (exit ≡ holding lay.text (length scr) (pioneer_string (text_of scr lay)))
FamilyIs (Err r) level scr lay exit =
    (b : ℕ) × (full_block (lay.bits / 256 + 1) 0 (flags (text_of scr lay)) ≡ some b) × (r ≡ Full level b)
