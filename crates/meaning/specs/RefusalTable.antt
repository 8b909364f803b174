-- Refusals: their order and what they carry, and whole outcomes of a build, a growth and a walk, in one table, proved by computing.
use Rattle.std.specs.Prelude.{◌≡◌, refl, List, [], ◌∷◌, ℕ, replicate}
use Rattle.std.proofs.Math.Option.{none}
use Rattle.meaning.specs.Answers.{is, refused, place, close, broken, room}
use Rattle.meaning.specs.Child.{Node}
use Rattle.meaning.specs.Areas.{Rooms, Counts, no_counts}
use Rattle.meaning.specs.Refusals.{refuse, refusal}
use Rattle.meaning.specs.Build.{Lent, Tree, tree_of, lent_of, build}
use Rattle.meaning.specs.Growth.{grow_refusal, grow}
use Rattle.meaning.specs.Questions.{close_in, node_refusal}
use Rattle.meaning.specs.Walking.{step_to, or_else, back_by, onward_by, told_first, telling, walk_by, walk_refusal, unwalked, walked_by, walking}
use Rattle.meaning.specs.Open.{all}

abbrev rooms : ℕ → ℕ → ℕ → ℕ → ℕ → ℕ → Rooms
rooms w b m l n s = record { words = w; bytes = b; middle = m; large = l; labels = n; scratch = s }

-- more than enough of each
abbrev ample : Rooms
ample = rooms 100 100 100 100 100 200

abbrev zeros : List ℕ
zeros = replicate 32 0

abbrev four : List ℕ
four = 0 ∷ 1 ∷ 1 ∷ 0 ∷ []

abbrev tens : List ℕ
tens = 10 ∷ 20 ∷ 30 ∷ 40 ∷ []

abbrev node : ℕ → ℕ → Node
node p i = record { place = p; id = i }

abbrev plain : ℕ → Counts
plain n = record { bits = n; bytes = 0; middle = 0; large = 0 }

-- n nodes in a string of so many bits, without a family
abbrev tree : ℕ → ℕ → Tree
tree n bits = record { nodes = n; counts = plain bits ∷ no_counts ∷ no_counts ∷ no_counts ∷ no_counts ∷ [] }

-- areas without a dictionary
abbrev lent : List ℕ → List ℕ → ℕ → Lent
lent ws bs s = record { held = record { words = ws; bytes = 0 ∷ []; middle = 0 ∷ 0 ∷ []; large = 0 ∷ 0 ∷ [] }; labels = bs; scratch = replicate s 0 }

-- rooms for the list 0 1 1 0 and one node more, with an element to spare
abbrev small : Rooms
small = rooms 2 1 2 2 6 13

-- bits 1110100100
abbrev four_word : ℕ
four_word = 0b0010010111

pub record Refused : Type 0 where
  -- LENGTHS before LEVEL; LEVEL before ROOM for scratch; ROOM for scratch before that for words; for words before that for labels
  lengths_level : refusal (1 ∷ []) [] ample ≡ refuse 1 (0 ∷ [])
  level_scratch : refusal (1 ∷ []) (10 ∷ []) (rooms 100 100 100 100 100 0) ≡ refuse 3 (0 ∷ [])
  scratch_words : refusal (0 ∷ []) (10 ∷ []) (rooms 0 100 100 100 100 3) ≡ refuse 4 (5 ∷ [])
  words_labels : refusal (0 ∷ []) (10 ∷ []) (rooms 0 100 100 100 0 200) ≡ refuse 4 (0 ∷ [])
  labels : refusal (0 ∷ []) (10 ∷ []) (rooms 100 100 100 100 0 200) ≡ refuse 4 (4 ∷ [])
  scratch_enough : refusal (0 ∷ []) (10 ∷ []) (rooms 1 0 0 0 1 4) ≡ none
  -- 32 zeros: ROOM for each area of the catalogue, one element short, in their order, and just enough of each
  short_words : refusal zeros zeros (rooms 2 100 100 100 100 200) ≡ refuse 4 (0 ∷ [])
  short_bytes : refusal zeros zeros (rooms 100 2 100 100 100 200) ≡ refuse 4 (1 ∷ [])
  short_middle : refusal zeros zeros (rooms 100 100 1 100 100 200) ≡ refuse 4 (2 ∷ [])
  short_large : refusal zeros zeros (rooms 100 100 100 1 100 200) ≡ refuse 4 (3 ∷ [])
  short_labels : refusal zeros zeros (rooms 100 100 100 100 31 200) ≡ refuse 4 (4 ∷ [])
  short_scratch : refusal zeros zeros (rooms 100 100 100 100 100 65) ≡ refuse 4 (5 ∷ [])
  short_all : refusal zeros zeros (rooms 2 2 1 1 31 65) ≡ refuse 4 (5 ∷ [])
  short_catalogue : refusal zeros zeros (rooms 2 2 1 1 31 66) ≡ refuse 4 (0 ∷ [])
  short_from_bytes : refusal zeros zeros (rooms 3 2 1 1 31 66) ≡ refuse 4 (1 ∷ [])
  short_from_middle : refusal zeros zeros (rooms 3 3 1 1 31 66) ≡ refuse 4 (2 ∷ [])
  short_from_large : refusal zeros zeros (rooms 3 3 2 1 31 66) ≡ refuse 4 (3 ∷ [])
  just_enough : refusal zeros zeros (rooms 3 3 2 2 32 66) ≡ none
  -- 0 1 1 0: PLACE and CLOSE, and for a node PLACE before CLOSE
  close_past : close_in (tree_of four) (lent_of four tens ample) 10 ≡ refused (place 10)
  close_shut : close_in (tree_of four) (lent_of four tens ample) 3 ≡ refused (close 3)
  node_other : node_refusal (tree_of four) (lent_of four tens ample) (node 3 9) ≡ refuse 7 (3 ∷ [])
  node_shut : node_refusal (tree_of four) (lent_of four tens ample) (node 3 3) ≡ refuse 8 (3 ∷ [])
  node_wrong : node_refusal (tree_of four) (lent_of four tens ample) (node 7 3) ≡ refuse 7 (7 ∷ [])
  node_right : node_refusal (tree_of four) (lent_of four tens ample) (node 7 4) ≡ none
  node_past : node_refusal (tree_of four) (lent_of four tens ample) (node 10 5) ≡ refuse 7 (10 ∷ [])
  -- the counts come before both
  node_unfit_past : node_refusal (tree 5 10) (lent_of four tens (rooms 1 0 0 0 4 10)) (node 10 5) ≡ refuse 9 (0 ∷ [])
  node_unfit_shut : node_refusal (tree 5 10) (lent_of four tens (rooms 1 0 0 0 4 10)) (node 3 3) ≡ refuse 9 (0 ∷ [])
  -- its growth: a count that disagrees, a string that is not balanced under one root, bits past area 0 (also where those missing would read as
  -- the closes that they were, of 32 nodes one below the other); ROOM for the longer list
  grow_count : grow_refusal (tree 5 10) (lent (four_word ∷ 0 ∷ []) (10 ∷ 20 ∷ 30 ∷ 40 ∷ 0 ∷ 0 ∷ []) 13) 1 ≡ refuse 9 (0 ∷ [])
  grow_roots : grow_refusal (tree 4 10) (lent (0b0101010101 ∷ 0 ∷ []) (10 ∷ 20 ∷ 30 ∷ 40 ∷ 0 ∷ 0 ∷ []) 13) 1 ≡ refuse 9 (0 ∷ [])
  grow_turned : grow_refusal (tree 4 10) (lent (0b1010101010 ∷ 0 ∷ []) (10 ∷ 20 ∷ 30 ∷ 40 ∷ 0 ∷ 0 ∷ []) 13) 1 ≡ refuse 9 (0 ∷ [])
  grow_wordless : grow_refusal (tree 4 10) (lent [] (10 ∷ 20 ∷ 30 ∷ 40 ∷ 0 ∷ 0 ∷ []) 13) 1 ≡ refuse 9 (0 ∷ [])
  grow_area : grow_refusal (tree 32 66) (lent (0x1ffffffff ∷ []) (replicate 33 0) 200) 0 ≡ refuse 9 (0 ∷ [])
  grow_area_room : grow_refusal (tree 32 66) (lent (0x1ffffffff ∷ 0 ∷ []) (replicate 33 0) 200) 0 ≡ refuse 4 (0 ∷ [])
  grow_scratch : grow_refusal (tree 4 10) (lent (four_word ∷ 0 ∷ []) (10 ∷ 20 ∷ 30 ∷ 40 ∷ 0 ∷ 0 ∷ []) 11) 1 ≡ refuse 4 (5 ∷ [])
  grow_level_scratch : grow_refusal (tree 4 10) (lent (four_word ∷ 0 ∷ []) (10 ∷ 20 ∷ 30 ∷ 40 ∷ 0 ∷ 0 ∷ []) 11) 2 ≡ refuse 3 (4 ∷ [])
  grow_broken_level : grow_refusal (tree 5 10) (lent (four_word ∷ 0 ∷ []) (10 ∷ 20 ∷ 30 ∷ 40 ∷ 0 ∷ 0 ∷ []) 11) 2 ≡ refuse 9 (0 ∷ [])
  grow_labels : grow_refusal (tree 4 10) (lent (four_word ∷ 0 ∷ []) tens 12) 1 ≡ refuse 4 (4 ∷ [])
  grow_enough : grow_refusal (tree 4 10) (lent (four_word ∷ []) (10 ∷ 20 ∷ 30 ∷ 40 ∷ 0 ∷ []) 12) 1 ≡ none

-- the answer, the record and the six areas, to their ends
pub record Outcomes : Type 0 where
  built : build four tens small
      ≡ record { reply = is (tree 4 10); areas = lent (151 ∷ 0 ∷ []) (10 ∷ 20 ∷ 30 ∷ 40 ∷ 0 ∷ 0 ∷ []) 13 }
  unbuilt : build four (10 ∷ []) small
      ≡ record { reply = refused (record { number = 1; carries = 0 ∷ [] }); areas = lent (0 ∷ 0 ∷ []) (replicate 6 0) 13 }
  grown : grow (tree 4 10) (lent (151 ∷ 0 ∷ []) (10 ∷ 20 ∷ 30 ∷ 40 ∷ 0 ∷ 0 ∷ []) 13) 1 50
      ≡ record { reply = is (tree 5 12); areas = lent (407 ∷ 0 ∷ []) (10 ∷ 20 ∷ 30 ∷ 40 ∷ 50 ∷ 0 ∷ []) 13 }
  ungrown : grow (tree 4 10)
      (record { held = record { words = 151 ∷ 7 ∷ []; bytes = 8 ∷ []; middle = 9 ∷ []; large = 6 ∷ [] }; labels = 10 ∷ 20 ∷ 30 ∷ 40 ∷ 0 ∷ 3 ∷ []; scratch = replicate 13 5 }) 2 50
      ≡ record {
        reply = refused (record { number = 3; carries = 4 ∷ [] });
        areas = record { held = record { words = 151 ∷ 7 ∷ []; bytes = 8 ∷ []; middle = 9 ∷ []; large = 6 ∷ [] }; labels = 10 ∷ 20 ∷ 30 ∷ 40 ∷ 0 ∷ 3 ∷ []; scratch = replicate 13 0 };
      }
  walked : walking (tree 4 10) (lent (151 ∷ 0 ∷ []) (10 ∷ 20 ∷ 30 ∷ 40 ∷ 0 ∷ 0 ∷ []) 13) (record { levels = 5; labels = 6; scratch = 11 })
      ≡ record { answer = is 4; levels = 0 ∷ 1 ∷ 1 ∷ 0 ∷ 0 ∷ []; labels = 10 ∷ 20 ∷ 30 ∷ 40 ∷ 0 ∷ 0 ∷ []; scratch = replicate 11 0 }
  walked_after : walking (tree 5 12) (lent (407 ∷ 0 ∷ []) (10 ∷ 20 ∷ 30 ∷ 40 ∷ 50 ∷ 0 ∷ []) 13) (record { levels = 5; labels = 5; scratch = 12 })
      ≡ record { answer = is 5; levels = 0 ∷ 1 ∷ 1 ∷ 0 ∷ 1 ∷ []; labels = 10 ∷ 20 ∷ 30 ∷ 40 ∷ 50 ∷ []; scratch = replicate 12 0 }
  unwalked_scratch : walking (tree 4 10) (lent (151 ∷ []) tens 0) (record { levels = 3; labels = 3; scratch = 9 })
      ≡ record { answer = refused (room 5); levels = replicate 3 0; labels = replicate 3 0; scratch = replicate 9 0 }
  unwalked_levels : walking (tree 4 10) (lent (151 ∷ []) tens 0) (record { levels = 3; labels = 3; scratch = 10 })
      ≡ record { answer = refused (room 10); levels = replicate 3 0; labels = replicate 3 0; scratch = replicate 10 0 }
  unwalked_labels : walking (tree 4 10) (lent (151 ∷ []) tens 0) (record { levels = 4; labels = 3; scratch = 10 })
      ≡ record { answer = refused (room 11); levels = replicate 4 0; labels = replicate 3 0; scratch = replicate 10 0 }
  unwalked_counts : walking (tree 4 10) (lent [] tens 0) (record { levels = 3; labels = 3; scratch = 9 })
      ≡ record { answer = refused broken; levels = replicate 3 0; labels = replicate 3 0; scratch = replicate 9 0 }

pub refusals : Refused
unfolding all
refusals =
    record {
      lengths_level = refl;
      level_scratch = refl;
      scratch_words = refl;
      words_labels = refl;
      labels = refl;
      scratch_enough = refl;
      short_words = refl;
      short_bytes = refl;
      short_middle = refl;
      short_large = refl;
      short_labels = refl;
      short_scratch = refl;
      short_all = refl;
      short_catalogue = refl;
      short_from_bytes = refl;
      short_from_middle = refl;
      short_from_large = refl;
      just_enough = refl;
      close_past = refl;
      close_shut = refl;
      node_other = refl;
      node_shut = refl;
      node_wrong = refl;
      node_right = refl;
      node_past = refl;
      node_unfit_past = refl;
      node_unfit_shut = refl;
      grow_count = refl;
      grow_roots = refl;
      grow_turned = refl;
      grow_wordless = refl;
      grow_area = refl;
      grow_area_room = refl;
      grow_scratch = refl;
      grow_level_scratch = refl;
      grow_broken_level = refl;
      grow_labels = refl;
      grow_enough = refl;
    }

pub outcomes : Outcomes
unfolding all step_to or_else back_by onward_by told_first telling walk_by walk_refusal unwalked walked_by walking
outcomes =
    record {
      built = refl;
      unbuilt = refl;
      grown = refl;
      ungrown = refl;
      walked = refl;
      walked_after = refl;
      unwalked_scratch = refl;
      unwalked_levels = refl;
      unwalked_labels = refl;
      unwalked_counts = refl;
    }
