-- Lent areas: what a build writes into them, and what they hold by the record of counts.
use Rattle.std.specs.Prelude.{true, false, List, [], ◌∷◌, ◌++◌, map, ℕ, ◌*◌, ◌-◌, ◌/◌, leb, length, take, drop, replicate}
use Rattle.meaning.specs.Bits.{bits_of, words_of, word_count}
use Rattle.meaning.specs.Dictionary.{Dict}
use Rattle.meaning.specs.Family.{Level, no_dict}

-- "0 words, 1 count-and-offset bytes, 2 u16, 3 u64, 4 labels, 5 scratch": the lengths of the six areas
pub record Rooms : Type 0 where
  pub words : ℕ
  pub bytes : ℕ
  pub middle : ℕ
  pub large : ℕ
  pub labels : ℕ
  pub scratch : ℕ

-- one after the other
unfoldable pub joined {ℓ} : {A : Type ℓ} → List (List A) → List A
joined [] = []
joined (x ∷ xs) = x ++ joined xs

-- "Areas 0 to 3 hold the string first, then each pioneer level in turn, with no gaps"
unfoldable pub area_words : List Level → List ℕ
area_words t = joined (map (λ v. words_of v.bits) t)

-- area 1
unfoldable pub area_bytes : List Level → List ℕ
area_bytes t = joined (map (λ v. v.dict.bytes) t)

-- area 2
unfoldable pub area_middle : List Level → List ℕ
area_middle t = joined (map (λ v. v.dict.middle) t)

-- area 3
unfoldable pub area_large : List Level → List ℕ
area_large t = joined (map (λ v. v.dict.large) t)

-- "After a build, unused elements are zero"
unfoldable pub filled : ℕ → List ℕ → List ℕ
filled n l = l ++ replicate (n - length l) 0

-- the counts of one level: bits, bytes, middle entries, large entries
pub record Counts : Type 0 where
  pub bits : ℕ
  pub bytes : ℕ
  pub middle : ℕ
  pub large : ℕ

-- areas 0 to 3
pub record Held : Type 0 where
  pub words : List ℕ
  pub bytes : List ℕ
  pub middle : List ℕ
  pub large : List ℕ

-- of a level
unfoldable pub counts_of : Level → Counts
counts_of v =
    record {
      bits = length v.bits;
      bytes = length v.dict.bytes;
      middle = length v.dict.middle / 2;
      large = length v.dict.large / 2;
    }

-- a level's own part
unfoldable pub own_dict : Counts → Held → Dict
own_dict c a =
    record { bytes = take c.bytes a.bytes; middle = take (2 * c.middle) a.middle; large = take (2 * c.large) a.large }

-- past the first level's part
unfoldable pub past : Counts → Held → Held
past c a =
    record {
      words = drop (word_count c.bits) a.words;
      bytes = drop c.bytes a.bytes;
      middle = drop (2 * c.middle) a.middle;
      large = drop (2 * c.large) a.large;
    }

-- a string has a family exactly if it has 65 bits or more, and is not the last
unfoldable pub view : List Counts → Held → List Level
view [] a = []
view (c ∷ cs) a =
    elim (leb c.bits 64) [
      | true ↦ record { bits = bits_of a.words c.bits; dict = no_dict } ∷ []
      | false ↦ record { bits = bits_of a.words c.bits; dict = own_dict c a } ∷ view cs (past c a)
    ]

-- What a build leaves in areas 0 to 3
unfoldable pub written : Rooms → List Level → Held
written rooms t =
    record {
      words = filled rooms.words (area_words t);
      bytes = filled rooms.bytes (area_bytes t);
      middle = filled rooms.middle (area_middle t);
      large = filled rooms.large (area_large t);
    }

-- what a level does not have is zero
abbrev pub no_counts : Counts
no_counts = record { bits = 0; bytes = 0; middle = 0; large = 0 }

-- "one record of counts for up to five strings"
unfoldable pub counted : List Level → List Counts
counted t = map counts_of t ++ replicate (5 - length t) no_counts
