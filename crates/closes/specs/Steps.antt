-- What the steps of a close give, as the definitions have it.
use Rattle.std.specs.Prelude.{◌≡◌, Bool, true, false, List, ◌∷◌, ℕ, suc, ◌+◌, ◌^◌, ◌<◌, Option as Maybe, None, Some, Result, Ok, Err}
use Rattle.std.proofs.Math.Option.{Option, none, some}
use Rattle.meaning.specs.Dictionary.{Dict}
use Rattle.meaning.specs.Family.{Level}
use Rattle.meaning.specs.Close.{less, far_close, close_at}
use Rattle.meaning.specs.Bits.{bits_of}
use Rattle.refusal.specs.Said.{option_of}
use Rattle.refusal.specs.declared.Refusal.{Refusal}
use Rattle.closes.specs.declared.level.Bits.{Bits}

-- a level's string
abbrev pub string_of : Bits → List Bool
string_of b = bits_of b.words.now b.len

-- a place that has a next one
abbrev pub Small : Maybe ℕ → Type 0
Small (Some n) = n + 1 < 2 ^ 64
Small None = Unit {0}

-- the close that the steps find
pub record Finds (r : Maybe ℕ) (o : Option ℕ) : Type 0 where
  pub is : option_of r ≡ o
  pub small : Small r

-- a count one up or one down; none: below zero
unfoldable pub counted : Bool → ℕ → Option ℕ
counted true n = some (suc n)
counted false n = less n

-- what the word says, or what the family says
abbrev pub or_far : Result (Maybe ℕ) Refusal → Option ℕ → Option ℕ
or_far (Ok (Some c)) far = some c
or_far (Ok None) far = far
or_far (Err r) far = none

-- a place, if the word says one, has a next one
abbrev pub SmallIn : Result (Maybe ℕ) Refusal → Type 0
SmallIn (Ok r) = Small r
SmallIn (Err r) = Unit {0}

-- the close of p at a level of bits l, whatever its dictionary is and whatever levels are above
pub record NearIs (l : List Bool) (p : ℕ) (r : Result (Maybe ℕ) Refusal) : Type 0 where
  pub close : (d : Dict) (up : List Level)
      → close_at (record { bits = l; dict = d } ∷ up) p ≡ or_far r (far_close (record { bits = l; dict = d }) (λ i. close_at up i) p)
  pub small : SmallIn r
