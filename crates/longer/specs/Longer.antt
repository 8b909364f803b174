-- The string of the list that is longer by a node of level v, from the bit string alone, and what is refused before it stands in scratch.
use Rattle.std.specs.Prelude.{◌≡◌, true, List, [], ◌∷◌, ◌++◌, ℕ, ◌+◌, ◌*◌, ◌≤◌, ◌<◌, length, replicate}
use Rattle.std.proofs.Math.Option.{Option, none, some}
use Rattle.meaning.specs.Answers.{Refusal}
use Rattle.meaning.specs.Bits.{bit_at, bits_of}
use Rattle.meaning.specs.Refusals.{check, first_of}
use Rattle.meaning.specs.Growth.{sound_in, levels_of, grown}
use Rattle.pioneers.specs.Placed.{Placing, placing, holding, list_checks}

-- "BROKEN .., then 2, 3 and so on for the longer list": those of the string, the list and scratch, of k words
unfoldable pub longer_checks : List ℕ → ℕ → ℕ → ℕ → ℕ → List (Option Refusal)
longer_checks ws n m v k = check (sound_in ws n m) 9 (0 ∷ []) ∷ list_checks (levels_of (bits_of ws m) ++ v ∷ []) k

-- where none of them refuses, the longer string stands from word n + 2 on
unfoldable pub longer_in : List ℕ → ℕ → ℕ → ℕ → ℕ → Placing
longer_in ws n m v k =
    elim (first_of (longer_checks ws n m v k)) [
      | none ↦ placing none (holding (n + 2) k (grown (bits_of ws m) v))
      | some r ↦ placing (some r) (replicate k 0)
    ]

-- p is the last one of the first m bits, if they have a one
pub record LastOne (ws : List ℕ) (m p : ℕ) : Type 0 where
  pub one : (j : ℕ) → j < m → bit_at ws j ≡ true → bit_at ws p ≡ true
  pub inside : (j : ℕ) → j < m → bit_at ws j ≡ true → p < m
  pub last : (j : ℕ) → j < m → bit_at ws j ≡ true → j ≤ p

-- words that hold m bits, and a part to copy them into
pub record Copying (ws part : List ℕ) (m : ℕ) : Type 0 where
  pub held : m ≤ 64 * length ws
  pub room : m ≤ 64 * length part

-- and one of them to turn
pub record Turning (ws part : List ℕ) (m v : ℕ) : Type 0 where
  pub copying : Copying ws part m
  pub inside : v < m
