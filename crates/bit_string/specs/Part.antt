-- What the private functions that work by words hold.
use Rattle.std.specs.Prelude.{◌≡◌, Bool, true, false, List, ◌⊎◌, ℕ, suc, ◌+◌, ◌*◌, ◌≤◌, ◌<◌, get_or, take, Result, Ok, Err}
use Rattle.meaning.specs.Bits.{opens, bit}
use Rattle.meaning.specs.Plain.{side}
use Rattle.meaning.specs.Word.{word_bits}

-- the ones of r are the ones of x, or its zeros
pub record Sided (b : Bool) (x r : ℕ) : Type 0 where
  pub bits : word_bits 64 r ≡ side b (word_bits 64 x)

-- the bits of x are those of l from place 64 q on
pub record Marked (l : List Bool) (q x : ℕ) : Type 0 where
  pub bits : (j : ℕ) → j < 64 → get_or (word_bits 64 x) j false ≡ get_or l (64 * q + j) false

-- the place of the k-th one of a word's bits, or what is left of k behind them
abbrev pub NthIn : List Bool → ℕ → Result ℕ ℕ → Type 0
NthIn l k (Ok j) = (j < 64) × (get_or l j false ≡ true) × (suc (opens (take j l)) ≡ k)
NthIn l k (Err m) = (k ≡ 0) ⊎ ((opens l + m ≡ k) × (0 < m))

-- the bits of word q from place a to before place e are zeros in r, the others those of x
pub record Cut (a e q x r : ℕ) : Type 0 where
  pub zero : (j : ℕ) → j < 64 → a ≤ 64 * q + j → 64 * q + j < e → bit r j ≡ 0
  pub kept : (j : ℕ) → j < 64 → (64 * q + j < a) ⊎ (e ≤ 64 * q + j) → bit r j ≡ bit x j
