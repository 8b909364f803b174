-- One word of w bits: get, set, pop_count, rank, select, pred, succ, get_close.
use Rattle.std.specs.Prelude.{Bool, true, false, List, ℕ, ltb, eqb}
use Rattle.meaning.specs.Answers.{Answer, is, nothing, place, close, provided}
use Rattle.meaning.specs.Bits.{opens, tab, bit, as_bit, with_bit}
use Rattle.meaning.specs.Plain.{side, plain_rank, plain_select, plain_pred, plain_succ}
use Rattle.meaning.specs.Match.{close_of}

-- the bits of a word, lowest first
unfoldable pub word_bits : ℕ → ℕ → List Bool
word_bits w x = tab (λ i. eqb (bit x i) 1) 0 w

-- "A bit index at or past the width is PLACE"
unfoldable pub in_width : ℕ → ℕ → Answer ℕ → Answer ℕ
in_width w i a = provided (ltb i w) (place i) a

unfoldable pub word_get : ℕ → ℕ → ℕ → Answer ℕ
word_get w x i = in_width w i (is (bit x i))

unfoldable pub word_set : ℕ → ℕ → ℕ → Bool → Answer ℕ
word_set w x i b = in_width w i (is (with_bit x i (as_bit b)))

-- how many ones
unfoldable pub word_ones : ℕ → ℕ → ℕ
word_ones w x = opens (word_bits w x)

-- of the ones (b true) or the zeros (b false); "index + 1 minus rank_one" is how many zeros stand at or before the index
unfoldable pub word_rank : Bool → ℕ → ℕ → ℕ → Answer ℕ
word_rank b w x i = in_width w i (is (plain_rank (side b (word_bits w x)) i))

unfoldable pub word_select : Bool → ℕ → ℕ → ℕ → Answer ℕ
word_select b w x r = plain_select (side b (word_bits w x)) r

unfoldable pub word_pred : Bool → ℕ → ℕ → ℕ → Answer ℕ
word_pred b w x i = in_width w i (plain_pred (side b (word_bits w x)) i)

unfoldable pub word_succ : Bool → ℕ → ℕ → ℕ → Answer ℕ
word_succ b w x i = in_width w i (plain_succ (side b (word_bits w x)) i)

-- a close that lies in the string, or nothing
unfoldable pub if_inside : ℕ → ℕ → Answer ℕ
if_inside n c = elim (ltb c n) [ true ↦ is c | false ↦ nothing ]

-- "get_close on a close has no sound answer: here CLOSE"; else the matching close, if the word holds it
unfoldable pub word_close : ℕ → ℕ → ℕ → Answer ℕ
word_close w x i = in_width w i (provided (eqb (bit x i) 1) (close i) (if_inside w (close_of (word_bits w x) i)))
