-- Either side of each edge: the cases marked P, in one table. Each row is a field, and the table's one value proves them all by computing.
use Rattle.std.specs.Prelude.{◌≡◌, refl, Bool, true, false, List, [], ◌∷◌, ◌++◌, map, ℕ, zero, suc, length, replicate}
use Rattle.std.proofs.Math.Option.{none, some}
use Rattle.meaning.specs.Answers.{is, nothing}
use Rattle.meaning.specs.Bits.{places}
use Rattle.meaning.specs.String.{string}
use Rattle.meaning.specs.Match.{close_of}
use Rattle.meaning.specs.Pioneers.{pioneers, flags}
use Rattle.meaning.specs.Dictionary.{dict_of, rank_of, select_of}
use Rattle.meaning.specs.Family.{tower}
use Rattle.meaning.specs.Close.{close_at}
use Rattle.meaning.specs.Child.{Node, root, child}
use Rattle.meaning.specs.Sibling.{next}
use Rattle.meaning.specs.Walk.{stepped}
use Rattle.meaning.specs.Size.{byte_size}
use Rattle.meaning.specs.Areas.{Rooms}
use Rattle.meaning.specs.Refusals.{refuse, refusal}
use Rattle.meaning.specs.Build.{tree_of, lent_of}
use Rattle.meaning.specs.Growth.{grown, grow_refusal}
use Rattle.meaning.specs.Open.{all}

abbrev four : List ℕ
four = 0 ∷ 1 ∷ 1 ∷ 0 ∷ []

-- n nodes of level 0
abbrev flat : ℕ → List Bool
flat n = string (replicate n 0)

-- the dictionaries' ones
abbrev two : List Bool
two = replicate 255 false ++ true ∷ true ∷ []

abbrev one : List Bool
one = true ∷ []

-- a list of 0s and 1s as bits
bits : List ℕ → List Bool
bits [] = []
bits (zero ∷ l) = false ∷ bits l
bits (suc n ∷ l) = true ∷ bits l

abbrev node : ℕ → ℕ → Node
node p i = record { place = p; id = i }

abbrev roomy : Rooms
roomy = record { words = 100; bytes = 100; middle = 100; large = 100; labels = 100; scratch = 200 }

pub record Edges : Type 0 where
  -- the empty list: the two bits 1 0, no child, byte size 16
  empty_bits : string [] ≡ bits (1 ∷ 0 ∷ [])
  empty_child : child (string []) root ≡ none
  empty_size : byte_size (tower 4 (string [])) 0 ≡ 16
  -- levels 0 1 1 0: bits 1110100100; opens 0 1 2 4 7 close at 9 6 3 5 8, by the matching and by the steps
  four_bits : string four ≡ bits (1 ∷ 1 ∷ 1 ∷ 0 ∷ 1 ∷ 0 ∷ 0 ∷ 1 ∷ 0 ∷ 0 ∷ [])
  four_closes : map (close_of (string four)) (0 ∷ 1 ∷ 2 ∷ 4 ∷ 7 ∷ []) ≡ 9 ∷ 6 ∷ 3 ∷ 5 ∷ 8 ∷ []
  four_steps : map (close_at (tower 4 (string four))) (0 ∷ 1 ∷ 2 ∷ 4 ∷ 7 ∷ []) ≡ map some (9 ∷ 6 ∷ 3 ∷ 5 ∷ 8 ∷ [])
  -- levels 1: LEVEL 0; levels 0 2: LEVEL 1
  level_0 : refusal (1 ∷ []) (10 ∷ []) roomy ≡ refuse 3 (0 ∷ [])
  level_1 : refusal (0 ∷ 2 ∷ []) (10 ∷ 20 ∷ []) roomy ≡ refuse 3 (1 ∷ [])
  -- the list above grown by level 1: bits 111010011000, node 5 is first child of 4; by level 0: node 5 is next sibling of 4; by level 2: LEVEL 4
  grow_1_bits : grown (string four) 1 ≡ bits (1 ∷ 1 ∷ 1 ∷ 0 ∷ 1 ∷ 0 ∷ 0 ∷ 1 ∷ 1 ∷ 0 ∷ 0 ∷ 0 ∷ [])
  grow_1_child : child (grown (string four) 1) (node 7 4) ≡ some (node 8 5)
  grow_0_sibling : next (grown (string four) 0) (node 7 4) ≡ some (node 9 5)
  grow_2_level : grow_refusal (tree_of four) (lent_of four (10 ∷ 20 ∷ 30 ∷ 40 ∷ []) roomy) 2 ≡ refuse 3 (4 ∷ [])
  -- 31 nodes of level 0: 64 bits, no pioneers
  flat_31_bits : length (flat 31) ≡ 64
  flat_31_pioneers : pioneers (flat 31) ≡ []
  flat_31_levels : length (tower 4 (flat 31)) ≡ 1
  -- 32 of them: flags 0 and 65, open 63 closes at 64, byte size 183
  flat_32_flags : places 0 (flags (flat 32)) ≡ 0 ∷ 65 ∷ []
  flat_32_close : close_at (tower 4 (flat 32)) 63 ≡ some 64
  flat_32_size : byte_size (tower 4 (flat 32)) 32 ≡ 183
  -- 33 of them: open 63 closes at 64, node 32's sibling is 33, byte size 187
  flat_33_close : close_at (tower 4 (flat 33)) 63 ≡ some 64
  flat_33_sibling : (stepped (tower 4 (flat 33))).sib (node 63 32) ≡ some (node 65 33)
  flat_33_size : byte_size (tower 4 (flat 33)) 33 ≡ 187
  -- the dictionary {255, 256}: bytes 1 255 1 0, rank 255 is 1, select 2 is 256
  two_bytes : dict_of two ≡ record { bytes = 1 ∷ 255 ∷ 1 ∷ 0 ∷ []; middle = 0 ∷ 0 ∷ []; large = 0 ∷ 0 ∷ [] }
  two_rank : rank_of (dict_of two) 255 ≡ some 1
  two_select : select_of (dict_of two) 2 ≡ is 256
  -- {0}: rank 256 is 1, select 2 nothing
  one_rank : rank_of (dict_of one) 256 ≡ some 1
  one_select : select_of (dict_of one) 2 ≡ nothing

pub edges : Edges
unfolding all bits
edges =
    record {
      empty_bits = refl;
      empty_child = refl;
      empty_size = refl;
      four_bits = refl;
      four_closes = refl;
      four_steps = refl;
      level_0 = refl;
      level_1 = refl;
      grow_1_bits = refl;
      grow_1_child = refl;
      grow_0_sibling = refl;
      grow_2_level = refl;
      flat_31_bits = refl;
      flat_31_pioneers = refl;
      flat_31_levels = refl;
      flat_32_flags = refl;
      flat_32_close = refl;
      flat_32_size = refl;
      flat_33_close = refl;
      flat_33_sibling = refl;
      flat_33_size = refl;
      two_bytes = refl;
      two_rank = refl;
      two_select = refl;
      one_rank = refl;
      one_select = refl;
    }
