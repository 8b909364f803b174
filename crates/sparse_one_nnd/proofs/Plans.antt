-- From the first pass to the plan: how many entries.
use mathlib.Core.Path.{◌≡◌, sym, ap, ◌∙◌}
use mathlib.Core.List.{List}
use Prim.Native.Nat.{ℕ, ◌+◌, ◌*◌, ◌/◌, ◌≤◌}
use native.Mathlib.Omega.{arith}
use lib.ListN.{length, take, drop, take-append-drop}
use Rattle.meaning.specs.Answers.{is}
use Rattle.meaning.specs.Bits.{opens, bits_of}
use Rattle.meaning.specs.Dictionary.{end_of, bytes_of, byte_pos, ones_to, block_count, dict_of, dict_with, middle_pos, middle_rank, large_pos, large_rank}
use Rattle.meaning.specs.Direct.{entries_of, dict_plan}
use Rattle.meaning.proofs.Tab.{opens_append}
use Rattle.meaning.proofs.Rank.{past_end, length_pair_up}
use Rattle.meaning.proofs.Narrow.{bytes_ones, end_le}
use Rattle.meaning.proofs.Stored.{length_bits}
use Rattle.meaning.proofs.Planned.{plan_is}
use Rattle.sparse_one_nnd.specs.declared.SparseOneNnd.{SparseOneNnd}
use Rattle.sparse_one_nnd.specs.Said.{entries_in}
use Rattle.sparse_one_nnd.specs.Blocks.{Counted, counts_of}
use Rattle.sparse_one_nnd.proofs.Blocks.{opens_le}

-- how many bytes and entries: a byte for each block and each one
module _ {ws : List ℕ} {n blocks ones : ℕ} (c : Counted ws n blocks ones) where
  all_ones : ones_to (bits_of ws n) (block_count (bits_of ws n)) ≡ opens (bits_of ws n)
  unfolding ones_to block_count
  all_ones =
      let k : ℕ = 256 * ((end_of (bits_of ws n) + 255) / 256) in
      omega (
        arith,
        ap opens (take-append-drop (256 * ((end_of (bits_of ws n) + 255) / 256)) (bits_of ws n)),
        opens_append (take (256 * ((end_of (bits_of ws n) + 255) / 256)) (bits_of ws n)) (drop (256 * ((end_of (bits_of ws n) + 255) / 256)) (bits_of ws n)),
        past_end (bits_of ws n) (256 * ((end_of (bits_of ws n) + 255) / 256)) (omega arith),
      )

  pub counts_whole : length (bytes_of (block_count (bits_of ws n)) (bits_of ws n)) ≡ blocks + ones
  unfolding byte_pos
  counts_whole = omega (arith, bytes_ones (block_count (bits_of ws n)) (bits_of ws n), all_ones, c.count, c.total)

  pub counts_bytes : length (dict_of (bits_of ws n)).bytes ≡ blocks + ones
  unfolding dict_of dict_with
  counts_bytes = counts_whole

  pub counts_middle : length (dict_of (bits_of ws n)).middle ≡ 2 * ((blocks + 7) / 8)
  unfolding dict_of dict_with
  counts_middle =
      length_pair_up (middle_pos (bits_of ws n)) (middle_rank (bits_of ws n)) 0 ((block_count (bits_of ws n) + 7) / 8)
      ∙ ap (λ (k : ℕ). 2 * ((k + 7) / 8)) (sym c.count)

  pub counts_large : length (dict_of (bits_of ws n)).large ≡ 2 * ((blocks + 255) / 256)
  unfolding dict_of dict_with
  counts_large =
      length_pair_up (large_pos (bits_of ws n)) (large_rank (bits_of ws n)) 0 ((block_count (bits_of ws n) + 255) / 256)
      ∙ ap (λ (k : ℕ). 2 * ((k + 255) / 256)) (sym c.count)

  pub counts_is : counts_of blocks ones ≡ entries_of (dict_of (bits_of ws n))
  unfolding entries_of
  counts_is = λ i.
      record {
        bytes = sym counts_bytes i;
        middle = middle i;
        large = large i;
      }
    where
      middle : (blocks + 7) / 8 ≡ length (dict_of (bits_of ws n)).middle / 2
      middle = omega (arith, counts_middle)

      large : (blocks + 255) / 256 ≡ length (dict_of (bits_of ws n)).large / 2
      large = omega (arith, counts_large)

  pub counts_blocks : 256 * blocks ≤ n + 255
  unfolding block_count
  counts_blocks = omega (arith, c.count, end_le (bits_of ws n), length_bits ws n)

  pub counts_ones : ones ≤ n
  counts_ones = omega (arith, c.total, opens_le (bits_of ws n), length_bits ws n)

  pub counts_few : (blocks ≤ 2097152) × (ones ≤ 2097152)
  counts_few = (omega (arith, counts_blocks, c.held.few), omega (arith, counts_ones, c.held.few))

-- the plan
pub plan_counted : {ws : List ℕ} {n blocks ones : ℕ} → Counted ws n blocks ones → (c : SparseOneNnd) → entries_in c ≡ counts_of blocks ones → is (entries_in c) ≡ dict_plan ws n
plan_counted {ws} {n} q c f = ap is (f ∙ counts_is q) ∙ sym (plan_is ws n q.held.inside q.held.few q.narrow)
