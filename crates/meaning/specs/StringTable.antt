-- Words and bit strings on either side of each edge of modules 1 and 3, in one table, proved by computing.
use Rattle.std.specs.Prelude.{◌≡◌, refl, true, false, List, [], ◌∷◌, ℕ}
use Rattle.meaning.specs.Answers.{is, nothing, refused, place, close, room, broken}
use Rattle.meaning.specs.Word.{word_get, word_set, word_ones, word_rank, word_select, word_pred, word_succ, word_close}
use Rattle.meaning.specs.BitString.{edited, string_get, string_rank, string_select, string_pred, string_succ, string_size, string_set, string_push, string_resize}
use Rattle.meaning.specs.Open.{all}

-- the bits 0101, and a word that has more ones behind them
abbrev four : List ℕ
four = 0xfa ∷ []

pub record StringRows : Type 0 where
  -- a word of 8 bits: 1 0 1 0 0 0 0 0
  word_get_lem : word_get 8 5 2 ≡ is 1
  word_past : word_get 8 5 8 ≡ refused (place 8)
  word_set_lem : word_set 8 5 1 true ≡ is 7
  word_ones_lem : word_ones 8 5 ≡ 2
  -- "rank is inclusive"; a zero's rank is the index + 1 less the ones
  word_rank_lem : word_rank true 8 5 2 ≡ is 2
  word_rank_zero : word_rank false 8 5 2 ≡ is 1
  word_rank_past : word_rank true 8 5 8 ≡ refused (place 8)
  -- "select of rank 0, or past the count, finds nothing"
  word_select_none : word_select true 8 5 0 ≡ nothing
  word_select_lem : word_select true 8 5 2 ≡ is 2
  word_select_past : word_select true 8 5 3 ≡ nothing
  word_select_zero : word_select false 8 5 6 ≡ is 7
  word_pred_lem : word_pred true 8 5 1 ≡ is 0
  word_pred_none : word_pred true 8 4 1 ≡ nothing
  word_succ_lem : word_succ true 8 5 1 ≡ is 2
  word_succ_none : word_succ true 8 5 3 ≡ nothing
  -- 1 1 0 1 0 0 0 0: the open at 0 closes at 5, the one at 1 at 2; a close has none; 0x81 opens at 7 and the word ends
  word_close_lem : word_close 8 0x0b 0 ≡ is 5
  word_close_inner : word_close 8 0x0b 1 ≡ is 2
  word_close_close : word_close 8 0x0b 2 ≡ refused (close 2)
  word_close_none : word_close 8 0x81 7 ≡ nothing
  word_close_past : word_close 8 0x0b 8 ≡ refused (place 8)
  -- "Bits past the length read as zeros, but the zero questions do not count them"
  get_in : string_get four 4 3 ≡ is 1
  get_past : string_get four 4 4 ≡ nothing
  rank_past : string_rank true four 4 9 ≡ is 2
  rank_zero_last : string_rank false four 4 3 ≡ is 2
  rank_zero_past : string_rank false four 4 4 ≡ refused (place 4)
  select_zero_last : string_select false four 4 2 ≡ is 2
  select_zero_past : string_select false four 4 3 ≡ nothing
  select_one_past : string_select true four 4 3 ≡ nothing
  pred_past : string_pred true four 4 9 ≡ is 3
  pred_zero_past : string_pred false four 4 4 ≡ refused (place 4)
  succ_past : string_succ true four 4 4 ≡ nothing
  succ_zero_past : string_succ false four 4 4 ≡ refused (place 4)
  -- a length past the words comes first
  past_words : string_rank false four 65 99 ≡ refused broken
  -- "8 per bit-string word (bits / 64 rounded up)"
  size_whole : string_size four 64 ≡ is 8
  size_empty : string_size four 0 ≡ is 0
  -- "push and resize write every bit they add"; "set is PLACE" past the length
  push_writes : string_push four 4 false ≡ edited (is 5) (0xea ∷ [])
  push_room : string_push four 64 true ≡ edited (refused (room 0)) four
  set_in : string_set four 4 0 true ≡ edited (is 4) (0xfb ∷ [])
  set_past : string_set four 4 4 true ≡ edited (refused (place 4)) four
  -- "A shrinking resize leaves stale bits: here those from the new length up to the old are cleared"
  shrink : string_resize four 4 3 ≡ edited (is 3) (0xf2 ∷ [])
  grow : string_resize four 4 6 ≡ edited (is 6) (0xca ∷ [])
  grow_room : string_resize four 4 65 ≡ edited (refused (room 0)) four

pub string_rows : StringRows
unfolding all
string_rows =
    record {
      word_get_lem = refl;
      word_past = refl;
      word_set_lem = refl;
      word_ones_lem = refl;
      word_rank_lem = refl;
      word_rank_zero = refl;
      word_rank_past = refl;
      word_select_none = refl;
      word_select_lem = refl;
      word_select_past = refl;
      word_select_zero = refl;
      word_pred_lem = refl;
      word_pred_none = refl;
      word_succ_lem = refl;
      word_succ_none = refl;
      word_close_lem = refl;
      word_close_inner = refl;
      word_close_close = refl;
      word_close_none = refl;
      word_close_past = refl;
      get_in = refl;
      get_past = refl;
      rank_past = refl;
      rank_zero_last = refl;
      rank_zero_past = refl;
      select_zero_last = refl;
      select_zero_past = refl;
      select_one_past = refl;
      pred_past = refl;
      pred_zero_past = refl;
      succ_past = refl;
      succ_zero_past = refl;
      past_words = refl;
      size_whole = refl;
      size_empty = refl;
      push_writes = refl;
      push_room = refl;
      set_in = refl;
      set_past = refl;
      shrink = refl;
      grow = refl;
      grow_room = refl;
    }
