-- The blocks of 256 places in lent words, as the code goes through them.
use Rattle.std.specs.Prelude.{◌≡◌, Bool, true, false, List, ℕ, ◌+◌, ◌*◌, ◌-◌, ◌/◌, ◌≤◌, ◌<◌, eqb, length, Result, Ok, Err}
use Rattle.std.proofs.Math.Option.{none, some}
use Rattle.meaning.specs.Answers.{refused}
use Rattle.meaning.specs.Bits.{opens, bits_of}
use Rattle.meaning.specs.Dictionary.{block_count}
use Rattle.meaning.specs.Direct.{Entries, DictRooms, most_bits, dict_plan, dict_refusal}
use Rattle.meaning.specs.Refusals.{full_block}
use Rattle.refusal.specs.Said.{refusal_of}
use Rattle.refusal.specs.declared.Refusal.{Refusal}
use Rattle.sparse_one_nnd.specs.declared.first_pass.Stretch.{Stretch}
use Rattle.sparse_one_nnd.specs.declared.first_pass.Found.{Found}

-- a stretch of places from `at` on: zeros, and at its last place what `one` says
pub record StretchIs (f : ℕ → Bool) (at left : ℕ) (s : Stretch) : Type 0 where
  pub some_places : 0 < s.places
  pub within : s.places ≤ left
  pub zeros : (j : ℕ) → j + 1 < s.places → f (at + j) ≡ false
  pub last : f (at + (s.places - 1)) ≡ s.one

-- one past block b if it has ones, else as before
abbrev pub last_of : ℕ → ℕ → ℕ → ℕ
last_of c b blocks = elim (eqb c 0) [ true ↦ blocks | false ↦ b + 1 ]

-- the words hold n bits, and those are not too many
pub record Held (ws : List ℕ) (n : ℕ) : Type 0 where
  pub inside : n ≤ 64 * length ws
  pub few : n ≤ most_bits

-- how many blocks and ones there are, none of the blocks full
pub record Counted (ws : List ℕ) (n blocks ones : ℕ) : Type 0 where
  pub held : Held ws n
  pub narrow : full_block (n / 256 + 1) 0 (bits_of ws n) ≡ none
  pub count : blocks ≡ block_count (bits_of ws n)
  pub total : ones ≡ opens (bits_of ws n)

-- refused by the plan, and by a write whatever the room
pub record Unplanned (ws : List ℕ) (n : ℕ) (r : Refusal) : Type 0 where
  pub plan : dict_plan ws n ≡ refused (refusal_of r)
  pub write : (rooms : DictRooms) → dict_refusal ws n rooms ≡ some (refusal_of r)

-- the first pass
abbrev pub PassIs : List ℕ → ℕ → Result Found Refusal → Type 0
PassIs ws n (Ok f) = Counted ws n f.blocks f.ones
PassIs ws n (Err r) = Unplanned ws n r

-- the counts of a dictionary of so many blocks and ones
abbrev pub counts_of : ℕ → ℕ → Entries
counts_of blocks ones = record { bytes = blocks + ones; middle = (blocks + 7) / 8; large = (blocks + 255) / 256 }
