-- Areas that no build left, in one table, proved by computing: each cause of BROKEN, where each test of the steps has a row that comes out otherwise
-- without it; and the smallest inputs at which definitions that look right went wrong.
use Rattle.std.specs.Prelude.{◌≡◌, refl, List, [], ◌∷◌, ◌++◌, ℕ, ◌^◌, replicate}
use Rattle.std.proofs.Math.Option.{none, some}
use Rattle.meaning.specs.Answers.{is, nothing, refused, place, close, broken}
use Rattle.meaning.specs.Dictionary.{Dict, rank_of, select_of, pred_of, succ_of, placed}
use Rattle.meaning.specs.Close.{close_at}
use Rattle.meaning.specs.Child.{Node}
use Rattle.meaning.specs.Areas.{Counts}
use Rattle.meaning.specs.Build.{Lent, Tree, levels_in}
use Rattle.meaning.specs.Questions.{edge, bit_in, close_in, first_child, next_sibling, leaves_below, sized, bytes_held}
use Rattle.meaning.specs.Open.{all}

abbrev dict : List ℕ → List ℕ → List ℕ → Dict
dict b m l = record { bytes = b; middle = m; large = l }

abbrev node : ℕ → ℕ → Node
node p i = record { place = p; id = i }

-- a string of n bits without a family
abbrev plain : ℕ → Counts
plain n = record { bits = n; bytes = 0; middle = 0; large = 0 }

abbrev tree : ℕ → List Counts → Tree
tree n cs = record { nodes = n; counts = cs }

-- words and labels, and no dictionary
abbrev lent : List ℕ → List ℕ → Lent
lent ws bs = record { held = record { words = ws; bytes = []; middle = []; large = [] }; labels = bs; scratch = [] }

-- 2^64 - 1
abbrev F : ℕ
F = 0xffffffffffffffff

-- one string
abbrev alone : ℕ → Tree
alone n = tree 0 (plain n ∷ [])

-- a string of n bits with so many bytes in its family's dictionary, and a pioneer string of m bits
abbrev family : ℕ → ℕ → ℕ → Tree
family n bytes m = tree 0 (record { bits = n; bytes = bytes; middle = 1; large = 1 } ∷ plain m ∷ [])

-- the same with two middle entries
abbrev long_family : ℕ → ℕ → ℕ → Tree
long_family n bytes m = tree 0 (record { bits = n; bytes = bytes; middle = 2; large = 1 } ∷ plain m ∷ [])

-- areas 0 to 3
abbrev held : List ℕ → List ℕ → List ℕ → List ℕ → Lent
held ws bs ms ls = record { held = record { words = ws; bytes = bs; middle = ms; large = ls }; labels = []; scratch = [] }

-- the words and the bytes; the middle and the large entry are 0 0
abbrev areas : List ℕ → List ℕ → Lent
areas ws bs = held ws bs (0 ∷ 0 ∷ []) (0 ∷ 0 ∷ [])

-- 65 bits, 10 and then opens; the flags 0, 3, 4, 1 are out of order, so that the close of 2 is found before it
abbrev back : Tree
back = tree 2 (record { bits = 65; bytes = 5; middle = 1; large = 1 } ∷ plain 4 ∷ [])

abbrev back_areas : Lent
back_areas =
    record {
      held =
          record { words = 0xfffffffffffffffd ∷ 1 ∷ 3 ∷ []; bytes = 4 ∷ 0 ∷ 3 ∷ 4 ∷ 1 ∷ []; middle = 0 ∷ 0 ∷ []; large = 0 ∷ 0 ∷ [] };
      labels = 7 ∷ 8 ∷ [];
      scratch = [];
    }

-- the causes
pub record Broken : Type 0 where
  -- the control: 64 opens and a close, flags at both ends, the pioneer string 10
  control : close_in (family 65 3 2) (areas (F ∷ 0 ∷ 1 ∷ []) (2 ∷ 0 ∷ 64 ∷ [])) 0 ≡ is 64
  -- "meets a close where it asks for an open": in the pioneer string, of one bit and of two
  meets_close : close_in (family 65 2 1) (areas (F ∷ 1 ∷ 0 ∷ []) (1 ∷ 0 ∷ [])) 0 ≡ refused broken
  meets_closes : close_in (family 65 3 2) (areas (F ∷ 0 ∷ 0 ∷ []) (2 ∷ 0 ∷ 64 ∷ [])) 0 ≡ refused broken
  -- "is sent to a q outside p's word": before it, or after p in p's own word (2,058 for 2,053, where the second middle entry is wrong)
  other_word : close_in (family 128 3 2) (areas (0x5555555555555555 ∷ F ∷ 1 ∷ []) (2 ∷ 0 ∷ 127 ∷ [])) 64 ≡ refused broken
  q_after : close_in (long_family 2310 13 2)
      (held (replicate 37 F ++ 1 ∷ []) (replicate 8 0 ++ 1 ∷ 10 ∷ 0 ∷ 1 ∷ 4 ∷ []) (0 ∷ 0 ∷ 10 ∷ 1 ∷ []) (0 ∷ 0 ∷ [])) 2053 ≡ refused broken
  -- "seeking a close, finds nothing before the length": in the word, or with no family above
  past_length : close_in (alone 2) (areas (3 ∷ []) []) 1 ≡ refused broken
  no_family : close_in (alone 64) (areas (F ∷ []) []) 0 ≡ refused broken
  -- "takes any count below zero": d, the walk to the left, and the rank before q (offsets 4 0 7 64 are out of order, q is 0, and its rank 0)
  excess_below : close_in (family 65 3 2) (areas (0xfffffffffffffff9 ∷ 0 ∷ 1 ∷ []) (2 ∷ 0 ∷ 64 ∷ [])) 3 ≡ refused broken
  left_below : close_in (family 67 3 2) (areas (F ∷ 2 ∷ 1 ∷ []) (2 ∷ 0 ∷ 66 ∷ [])) 1 ≡ refused broken
  rank_below : close_in (family 65 5 4) (areas (0xfffffffffffffff5 ∷ 0 ∷ 3 ∷ []) (4 ∷ 4 ∷ 0 ∷ 7 ∷ 64 ∷ [])) 4 ≡ refused broken
  -- "reads outside its level's part": c past the bits where d is 0; an offset past the bytes, by rank or (the fourth) by select
  close_past : close_in (family 65 3 2) (areas (F ∷ 0 ∷ 1 ∷ []) (2 ∷ 0 ∷ 70 ∷ [])) 0 ≡ refused broken
  offset_outside : close_in (family 65 2 2) (areas (F ∷ 0 ∷ 1 ∷ []) (2 ∷ 0 ∷ [])) 0 ≡ refused broken
  rank_outside : rank_of (dict (2 ∷ 0 ∷ []) (0 ∷ 0 ∷ []) (0 ∷ 0 ∷ [])) 0 ≡ none
  select_outside : close_in (family 65 4 4) (areas (F ∷ 0 ∷ 3 ∷ []) (4 ∷ 0 ∷ 64 ∷ 65 ∷ [])) 0 ≡ refused broken
  -- pred finds nothing, select finds nothing
  no_pred : close_in (family 65 2 2) (areas (F ∷ 0 ∷ 1 ∷ []) (1 ∷ 9 ∷ [])) 0 ≡ refused broken
  no_select : close_in (family 65 2 2) (areas (F ∷ 0 ∷ 1 ∷ []) (1 ∷ 0 ∷ [])) 0 ≡ refused broken
  -- "counts that do not fit the areas (9)": each kind one short, of a question that looks at none of them, and before PLACE and CLOSE
  fit : bit_in (family 65 3 2) (areas (F ∷ 0 ∷ 1 ∷ []) (2 ∷ 0 ∷ 64 ∷ [])) 64 ≡ is 0
  unfit_words : bit_in (family 65 3 2) (areas (F ∷ 0 ∷ []) (2 ∷ 0 ∷ 64 ∷ [])) 64 ≡ refused broken
  unfit_bytes : bit_in (family 65 3 2) (areas (F ∷ 0 ∷ 1 ∷ []) (2 ∷ 0 ∷ [])) 64 ≡ refused broken
  unfit_middle : bit_in (family 65 3 2) (held (F ∷ 0 ∷ 1 ∷ []) (2 ∷ 0 ∷ 64 ∷ []) (0 ∷ []) (0 ∷ 0 ∷ [])) 64 ≡ refused broken
  unfit_large : bit_in (family 65 3 2) (held (F ∷ 0 ∷ 1 ∷ []) (2 ∷ 0 ∷ 64 ∷ []) (0 ∷ 0 ∷ []) (0 ∷ [])) 64 ≡ refused broken
  unfit_labels : bit_in (tree 1 (plain 4 ∷ [])) (areas (3 ∷ []) []) 0 ≡ refused broken
  unfit_place : close_in (family 65 3 2) (areas (F ∷ 0 ∷ []) (2 ∷ 0 ∷ 64 ∷ [])) 65 ≡ refused broken
  fit_place : close_in (family 65 3 2) (areas (F ∷ 0 ∷ 1 ∷ []) (2 ∷ 0 ∷ 64 ∷ [])) 65 ≡ refused (place 65)
  unfit_close : close_in (family 65 3 2) (areas (F ∷ 0 ∷ []) (2 ∷ 0 ∷ 64 ∷ [])) 64 ≡ refused broken
  fit_close : close_in (family 65 3 2) (areas (F ∷ 0 ∷ 1 ∷ []) (2 ∷ 0 ∷ 64 ∷ [])) 64 ≡ refused (close 64)

-- the smallest inputs
pub record Damaged : Type 0 where
  -- a rank past 2^64 - 1 overflows, and pred with it
  rank_last : rank_of (dict (0 ∷ []) (0 ∷ 0 ∷ []) (0 ∷ 0xffffffffffffffff ∷ [])) 0 ≡ some 0xffffffffffffffff
  rank_overflows : rank_of (dict [] (0 ∷ 1 ∷ []) (0 ∷ 0xffffffffffffffff ∷ [])) 0 ≡ none
  pred_overflows : pred_of (dict (1 ∷ 0 ∷ []) (0 ∷ 0 ∷ []) (0 ∷ 0xffffffffffffffff ∷ [])) 0 ≡ refused broken
  -- succ's rank + 1 overflows, but not where select of the rank is the place
  succ_here : succ_of (dict (1 ∷ 0 ∷ []) (0 ∷ 0 ∷ []) (0 ∷ 0xfffffffffffffffe ∷ [])) 0 ≡ is 0
  succ_overflows : succ_of (dict (1 ∷ 0 ∷ []) (0 ∷ 0 ∷ []) (0 ∷ 0xfffffffffffffffe ∷ [])) 5 ≡ refused broken
  -- select from the very end of the bytes finds nothing, though the middle rank is above r - 1; not so the large rank, nor where bytes follow
  select_end : select_of (dict [] (0 ∷ 1 ∷ []) (0 ∷ 0 ∷ [])) 1 ≡ nothing
  select_end_large : select_of (dict [] (0 ∷ 0 ∷ []) (0 ∷ 1 ∷ [])) 1 ≡ refused broken
  select_below : select_of (dict (0 ∷ []) (0 ∷ 1 ∷ []) (0 ∷ 0 ∷ [])) 1 ≡ refused broken
  -- and the two ranks of its start must not overflow
  select_end_last : select_of (dict [] (0 ∷ 1 ∷ []) (0 ∷ 0xfffffffffffffffe ∷ [])) 0xffffffffffffffff ≡ nothing
  select_end_overflows : select_of (dict [] (0 ∷ 2 ∷ []) (0 ∷ 0xfffffffffffffffe ∷ [])) 0xffffffffffffffff ≡ refused broken
  -- a place past 2^64 - 1
  place_last : placed (is 0xffffffffffffffff) ≡ is 0xffffffffffffffff
  place_overflows : placed (is (2 ^ 64)) ≡ refused broken
  -- a close before the node: the steps give it, a sibling question and a leaf count do not take it
  close_back : close_at (levels_in back back_areas) 2 ≡ some 1
  sibling_back : next_sibling back back_areas (node 2 1) ≡ refused broken
  leaves_back : leaves_below back back_areas (node 2 1) ≡ refused broken
  -- counts that do not fit: labels, and words that no question would reach
  unfit_labels : next_sibling (tree 1 (plain 2 ∷ [])) (lent (1 ∷ []) []) (node 0 0) ≡ refused broken
  unfit_words : next_sibling (tree 0 (plain 2 ∷ plain 1 ∷ [])) (lent (1 ∷ []) []) (node 0 0) ≡ refused broken
  fit : next_sibling (tree 0 (plain 2 ∷ [])) (lent (1 ∷ []) []) (node 0 0) ≡ nothing
  -- 1100 has a node; a record of no nodes has no label for it
  labelled : first_child (tree 1 (plain 4 ∷ [])) (lent (3 ∷ []) (7 ∷ [])) (node 0 0) ≡ edge (node 1 1) 7
  unlabelled : first_child (tree 0 (plain 4 ∷ [])) (lent (3 ∷ []) (7 ∷ [])) (node 0 0) ≡ refused broken
  -- the byte size sums all that the record counts; past 2^64 - 1 it overflows
  size_all : bytes_held (tree 0 (plain 0 ∷ plain 1 ∷ [])) (lent (0 ∷ []) []) ≡ is 16
  size_unfit : bytes_held (tree 0 (plain 0 ∷ plain 1 ∷ [])) (lent [] []) ≡ refused broken
  size_last : sized 0xffffffffffffffff ≡ is 0xffffffffffffffff
  size_overflows : sized (2 ^ 64) ≡ refused broken

pub causes : Broken
unfolding all
causes =
    record {
      control = refl;
      meets_close = refl;
      meets_closes = refl;
      other_word = refl;
      q_after = refl;
      past_length = refl;
      no_family = refl;
      excess_below = refl;
      left_below = refl;
      rank_below = refl;
      close_past = refl;
      offset_outside = refl;
      rank_outside = refl;
      select_outside = refl;
      no_pred = refl;
      no_select = refl;
      fit = refl;
      unfit_words = refl;
      unfit_bytes = refl;
      unfit_middle = refl;
      unfit_large = refl;
      unfit_labels = refl;
      unfit_place = refl;
      fit_place = refl;
      unfit_close = refl;
      fit_close = refl;
    }

pub damaged : Damaged
unfolding all
damaged =
    record {
      rank_last = refl;
      rank_overflows = refl;
      pred_overflows = refl;
      succ_here = refl;
      succ_overflows = refl;
      select_end = refl;
      select_end_large = refl;
      select_below = refl;
      select_end_last = refl;
      select_end_overflows = refl;
      place_last = refl;
      place_overflows = refl;
      close_back = refl;
      sibling_back = refl;
      leaves_back = refl;
      unfit_labels = refl;
      unfit_words = refl;
      fit = refl;
      labelled = refl;
      unlabelled = refl;
      size_all = refl;
      size_unfit = refl;
      size_last = refl;
      size_overflows = refl;
    }
