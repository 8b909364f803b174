-- The bit string: words with a length. "Bits past the length read as zeros, but the zero questions do not count them".
use Rattle.std.specs.Prelude.{Bool, true, false, ◌&&◌, List, [], ◌∷◌, ℕ, zero, suc, ◌-◌, ◌*◌, ◌^◌, ltb, leb, length}
use Rattle.meaning.specs.Answers.{Answer, is, nothing, refused, Refusal, place, room, broken, provided}
use Rattle.meaning.specs.Bits.{as_bit, bit_at, bits_of, stored, cleared, word_count}
use Rattle.meaning.specs.Plain.{side, plain_rank, plain_select, plain_pred, plain_succ}

-- the words have n bits
unfoldable pub held : List ℕ → ℕ → Bool
held ws n = leb n (64 * length ws)

-- "counts that do not fit the areas (9)": the length is past the words
unfoldable pub if_held : List ℕ → ℕ → Answer ℕ → Answer ℕ
if_held ws n a = provided (held ws n) broken a

-- "the zero questions past the end are PLACE"; a question of the ones has no such test
unfoldable pub before_end : Bool → ℕ → ℕ → Answer ℕ → Answer ℕ
before_end true n i a = a
before_end false n i a = provided (ltb i n) (place i) a

-- "get there finds nothing"
unfoldable pub string_get : List ℕ → ℕ → ℕ → Answer ℕ
string_get ws n i = if_held ws n (elim (ltb i n) [ true ↦ is (as_bit (bit_at ws i)) | false ↦ nothing ])

-- the questions of the ones (b true) and of the zeros (b false). "rank_one past the end is the total"
unfoldable pub string_rank : Bool → List ℕ → ℕ → ℕ → Answer ℕ
string_rank b ws n i = if_held ws n (before_end b n i (is (plain_rank (side b (bits_of ws n)) i)))

unfoldable pub string_select : Bool → List ℕ → ℕ → ℕ → Answer ℕ
string_select b ws n r = if_held ws n (plain_select (side b (bits_of ws n)) r)

unfoldable pub string_pred : Bool → List ℕ → ℕ → ℕ → Answer ℕ
string_pred b ws n i = if_held ws n (before_end b n i (plain_pred (side b (bits_of ws n)) i))

unfoldable pub string_succ : Bool → List ℕ → ℕ → ℕ → Answer ℕ
string_succ b ws n i = if_held ws n (before_end b n i (plain_succ (side b (bits_of ws n)) i))

-- "8 per bit-string word (bits / 64 rounded up)"; a size past 2^64 - 1 is BROKEN
unfoldable pub string_size : List ℕ → ℕ → Answer ℕ
string_size ws n = if_held ws n (provided (ltb (8 * word_count n) (2 ^ 64)) broken (is (8 * word_count n)))

-- a change answers the length, and leaves words
pub record Edited : Type 0 where
  pub answer : Answer ℕ
  pub words : List ℕ

abbrev pub edited : Answer ℕ → List ℕ → Edited
edited a ws = record { answer = a; words = ws }

-- "refused, they change nothing"
unfoldable pub edit_if : Bool → Refusal → List ℕ → Edited → Edited
edit_if true r ws e = e
edit_if false r ws e = edited (refused r) ws

-- "set is PLACE" past the length
unfoldable pub string_set : List ℕ → ℕ → ℕ → Bool → Edited
string_set ws n i b = edit_if (held ws n) broken ws (edit_if (ltb i n) (place i) ws (edited (is n) (stored ws i b)))

-- "push and resize write every bit they add; where they lack a word it is ROOM, area 0". A length of 2^64 - 1 has no next
unfoldable pub string_push : List ℕ → ℕ → Bool → Edited
string_push ws n b =
    edit_if (held ws n) broken ws (edit_if (held ws (suc n) && ltb (suc n) (2 ^ 64)) (room 0) ws (edited (is (suc n)) (stored ws n b)))

-- "those from the new length up to the old are cleared"; a longer string has zeros from the old length up to the new
unfoldable pub resized : List ℕ → ℕ → ℕ → List ℕ
resized ws n m = elim (ltb m n) [ true ↦ cleared ws m (n - m) | false ↦ cleared ws n (m - n) ]

unfoldable pub string_resize : List ℕ → ℕ → ℕ → Edited
string_resize ws n m = edit_if (held ws n) broken ws (edit_if (held ws m) (room 0) ws (edited (is m) (resized ws n m)))

-- a one that `OneIndices` meets, and the place from which it goes on
pub record Met : Type 0 where
  pub place : ℕ
  pub next : ℕ

unfoldable pub met_at : Answer ℕ → Answer Met
met_at (is j) = is (record { place = j; next = suc j })
met_at nothing = nothing
met_at (refused r) = refused r

-- its step from place i: the first one at or after i
unfoldable pub one_from : List ℕ → ℕ → ℕ → Answer Met
one_from ws n i = met_at (string_succ true ws n i)

-- the ones that it meets in at most k steps from place i (`one_indices_lem`: all ones of the string, in order; no contract reaches this list)
unfoldable pub one_indices : List ℕ → ℕ → ℕ → ℕ → List ℕ
one_indices ws n zero i = []
one_indices ws n (suc k) i = elim (one_from ws n i) [ is m ↦ m.place ∷ one_indices ws n k m.next | nothing ↦ [] | refused r ↦ [] ]
