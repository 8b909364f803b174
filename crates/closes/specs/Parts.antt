-- A level's own parts of areas 0 to 3: where they start, and that they are within the areas.
use Rattle.std.specs.Prelude.{List, map, ℕ, suc, ◌+◌, ◌*◌, ◌^◌, ◌≤◌, ◌<◌, length, get_or, drop}
use Rattle.meaning.specs.Bits.{word_count}
use Rattle.meaning.specs.Family.{Level}
use Rattle.meaning.specs.Size.{sum}
use Rattle.meaning.specs.Areas as areas
use Rattle.meaning.specs.Areas.{Held, view}
use Rattle.meaning.specs.Direct.{Entries}
use Rattle.meaning.specs.Dictionary.{Dict}
use Rattle.meaning.specs.Direct.{dict_past}
use Rattle.record.specs.declared.Catalogue.{Catalogue}
use Rattle.record.specs.declared.Counts.{Counts}
use Rattle.record.specs.Record.{tree_in}
use Rattle.sparse_one_nnd.specs.Said.{entries_in, dict_at}
use Rattle.closes.specs.declared.family.At.{At}

-- areas 0 to 3 from a level's parts on
abbrev pub held_at : At → List ℕ → List ℕ → List ℕ → List ℕ → Held
held_at at ws bs ms ls =
    record {
      words = drop at.words ws;
      bytes = drop at.dict.bytes bs;
      middle = drop (2 * at.dict.middles) ms;
      large = drop (2 * at.dict.larges) ls;
    }

-- in a catalogue
abbrev pub held_of : Catalogue → At → Held
held_of k at = held_at at k.words.now k.bytes.now k.middles.now k.larges.now

-- areas 1 to 3 from a level's dictionary on
abbrev pub dict_of : Catalogue → At → Dict
dict_of k at = dict_past (entries_in at.dict) (dict_at k.bytes.now k.middles.now k.larges.now)

-- the counts of a level's dictionary
abbrev pub entries_at : Counts → ℕ → Entries
entries_at c k = record { bytes = get_or c.bytes k 0; middle = get_or c.middles k 0; large = get_or c.larges k 0 }

-- the levels from one on
abbrev pub levels_from : Counts → ℕ → Held → List Level
levels_from c k a = view (drop k (tree_in c).counts) a

-- past a level's parts
abbrev pub past_at : areas.Counts → At → At
past_at n at =
    record {
      level = suc at.level;
      words = at.words + word_count n.bits;
      dict =
          record {
            bytes = at.dict.bytes + n.bytes;
            middles = at.dict.middles + n.middle;
            larges = at.dict.larges + n.large;
          };
    }

-- the parts of these levels, from there on, are within the areas
pub record Fits (cs : List areas.Counts) (at : At) (ws bs ms ls : List ℕ) : Type 0 where
  pub words : at.words + sum (map (λ c. word_count c.bits) cs) ≤ length ws
  pub bytes : at.dict.bytes + sum (map (λ c. c.bytes) cs) ≤ length bs
  pub middle : 2 * (at.dict.middles + sum (map (λ c. c.middle) cs)) ≤ length ms
  pub large : 2 * (at.dict.larges + sum (map (λ c. c.large) cs)) ≤ length ls

-- what lies past a level's parts is no place that overflows
pub record Counted (n : areas.Counts) (at : At) : Type 0 where
  pub words : at.words + word_count n.bits < 2 ^ 64
  pub bytes : at.dict.bytes + n.bytes < 2 ^ 64
  pub middle : at.dict.middles + n.middle < 2 ^ 64
  pub large : at.dict.larges + n.large < 2 ^ 64

-- a level whose parts, and those of the levels above it, are within the areas
abbrev pub FitsIn : Catalogue → At → Type 0
FitsIn k at = Fits (drop at.level (tree_in k.counts).counts) at k.words.now k.bytes.now k.middles.now k.larges.now

-- and that has one above it
pub record HasNext (k : Catalogue) (at : At) : Type 0 where
  pub below : at.level < 4
  pub fits : FitsIn k at
