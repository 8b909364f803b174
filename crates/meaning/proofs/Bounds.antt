-- The areas that suffice for n nodes suffice: no accepted list of n nodes needs more.
use mathlib.Core.Path.{◌≡◌, sym, subst}
use mathlib.Core.Bool.{Bool, true, false}
use mathlib.Core.Logic.{◌⊎◌, inl, inr}
use mathlib.Core.List.{List, [], ◌∷◌}
use Prim.Native.Nat.{ℕ, zero, suc, ◌+◌, ◌*◌, ◌/◌, ◌≤◌}
use native.Mathlib.Omega.{arith}
use lib.Dec.{leb}
use lib.ListN.{length, length-append}
use Rattle.meaning.specs.Bits.{words_of, word_count}
use Rattle.meaning.specs.String.{string}
use Rattle.meaning.specs.List.{Rule}
use Rattle.meaning.specs.Pioneers.{flags, pioneer_string}
use Rattle.meaning.specs.Dictionary.{block_count, ones_to, byte_pos, dict_of, dict_with, middle_pos, middle_rank, large_pos, large_rank}
use Rattle.meaning.specs.Family.{Level, no_dict, tower}
use Rattle.meaning.specs.Areas.{joined, area_words, area_bytes, area_middle, area_large}
use Rattle.meaning.specs.Bounds.{bits_above, words_above, blocks_in, words_up, bytes_up, middle_up, large_up, words_for, bytes_for, middle_for, large_for}
use Rattle.meaning.proofs.If.{bit, if_true, if_false}
use Rattle.meaning.proofs.Tab.{opens_take}
use Rattle.meaning.proofs.Words.{length_words}
use Rattle.meaning.proofs.String.{Walk, string_walk, string_length}
use Rattle.meaning.proofs.Rank.{length_pair_up}
use Rattle.meaning.proofs.Up.{length_flags, up_walk}
use Rattle.meaning.proofs.Narrow.{bytes_ones, end_le}
use Rattle.meaning.proofs.Deep.{flags_few, up_few}

-- what the four areas have of some levels is not more than so much
pub record Within (t : List Level) (w b m g : ℕ) : Type 0 where
  pub words : length (area_words t) ≤ w
  pub bytes : length (area_bytes t) ≤ b
  pub middle : length (area_middle t) ≤ m
  pub large : length (area_large t) ≤ g

last_within : (l : List Bool) (b : ℕ) → length l ≤ 64 * b → Within (record { bits = l; dict = no_dict } ∷ []) b 0 0 0
unfolding area_words area_bytes area_middle area_large joined
last_within l b h =
    record { words = omega (arith, length-append (words_of l) [], length_words l); bytes = omega arith; middle = omega arith; large = omega arith }

-- the entries of a level's flags
module _ (l : List Bool) (w : Walk 0 l 0) (b : ℕ) (h : length l ≤ 64 * b) where
  blocks_few : block_count (flags l) ≤ blocks_in b
  unfolding block_count
  blocks_few = omega (arith, end_le (flags l), length_flags l)

  bytes_few : length (dict_of (flags l)).bytes ≤ blocks_in b + bits_above b
  unfolding dict_of dict_with byte_pos ones_to
  bytes_few =
      omega (
        arith,
        blocks_few,
        bytes_ones (block_count (flags l)) (flags l),
        opens_take (256 * block_count (flags l)) (flags l),
        flags_few l w b h,
      )

  middle_few : length (dict_of (flags l)).middle ≤ 2 * ((blocks_in b + 7) / 8)
  unfolding dict_of dict_with
  middle_few = omega (arith, blocks_few, length_pair_up (middle_pos (flags l)) (middle_rank (flags l)) 0 ((block_count (flags l) + 7) / 8))

  large_few : length (dict_of (flags l)).large ≤ 2 * ((blocks_in b + 255) / 256)
  unfolding dict_of dict_with
  large_few = omega (arith, blocks_few, length_pair_up (large_pos (flags l)) (large_rank (flags l)) 0 ((block_count (flags l) + 255) / 256))

pub tower_within : (k : ℕ) (l : List Bool) → Walk 0 l 0 → (b : ℕ) → length l ≤ 64 * b → Within (tower k l) (words_up k b) (bytes_up k b) (middle_up k b) (large_up k b)
unfolding tower words_up bytes_up middle_up large_up pioneer_string area_words area_bytes area_middle area_large joined
tower_within zero l w b h = last_within l b h
tower_within (suc k) l w b h =
    go (bit (leb (length l) 64)) (tower_within k (pioneer_string l) (up_walk l w) (words_above b) (omega (arith, up_few l w b h)))
  where
    more : Within (record { bits = l; dict = no_dict } ∷ []) b 0 0 0 → Within (record { bits = l; dict = no_dict } ∷ []) (words_up (suc k) b) (bytes_up (suc k) b) (middle_up (suc k) b) (large_up (suc k) b)
    more r =
        record {
          words = omega (arith, r.words);
          bytes = omega (arith, r.bytes);
          middle = omega (arith, r.middle);
          large = omega (arith, r.large);
        }

    joins : Within (tower k (pioneer_string l)) (words_up k (words_above b)) (bytes_up k (words_above b)) (middle_up k (words_above b)) (large_up k (words_above b))
        → Within (record { bits = l; dict = dict_of (flags l) } ∷ tower k (pioneer_string l)) (words_up (suc k) b) (bytes_up (suc k) b) (middle_up (suc k) b) (large_up (suc k) b)
    joins ih =
        record {
          words = omega (arith, ih.words, length-append (words_of l) (area_words (tower k (pioneer_string l))), length_words l);
          bytes = omega (arith, ih.bytes, length-append (dict_of (flags l)).bytes (area_bytes (tower k (pioneer_string l))), bytes_few l w b h);
          middle = omega (arith, ih.middle, length-append (dict_of (flags l)).middle (area_middle (tower k (pioneer_string l))), middle_few l w b h);
          large = omega (arith, ih.large, length-append (dict_of (flags l)).large (area_large (tower k (pioneer_string l))), large_few l w b h);
        }

    go : (leb (length l) 64 ≡ true) ⊎ (leb (length l) 64 ≡ false)
        → Within (tower k (pioneer_string l)) (words_up k (words_above b)) (bytes_up k (words_above b)) (middle_up k (words_above b)) (large_up k (words_above b))
        → Within (tower (suc k) l) (words_up (suc k) b) (bytes_up (suc k) b) (middle_up (suc k) b) (large_up (suc k) b)
    go (inl e) ih =
        let u : tower (suc k) l ≡ record { bits = l; dict = no_dict } ∷ [] = if_true _ _ e in
        subst (λ t. Within t (words_up (suc k) b) (bytes_up (suc k) b) (middle_up (suc k) b) (large_up (suc k) b)) (sym u) (more (last_within l b h))
    go (inr e) ih =
        let u : tower (suc k) l ≡ record { bits = l; dict = dict_of (flags l) } ∷ tower k (pioneer_string l) = if_false _ _ e in
        subst (λ t. Within t (words_up (suc k) b) (bytes_up (suc k) b) (middle_up (suc k) b) (large_up (suc k) b)) (sym u) (joins ih)

-- so of every list
pub enough_room : (vs : List ℕ) → Rule vs
    → Within (tower 4 (string vs)) (words_for (length vs)) (bytes_for (length vs)) (middle_for (length vs)) (large_for (length vs))
unfolding words_for bytes_for middle_for large_for
enough_room vs r = tower_within 4 (string vs) (string_walk vs r) (word_count (2 * length vs + 2)) (omega (arith, string_length vs r))
