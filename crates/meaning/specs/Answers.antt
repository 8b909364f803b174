-- Answers and refusals. "Every list, number and lent area gets an answer or one of the numbered refusals".
use Rattle.std.specs.Prelude.{Bool, true, false, List, [], ◌∷◌, ℕ}
use Rattle.std.proofs.Math.Option.{Option, none, some}

-- a refusal: its number and what it carries
pub record Refusal : Type 0 where
  pub number : ℕ
  pub carries : List ℕ

-- an operation answers a value, finds nothing, or refuses
pub data Answer {ℓ} (A : Type ℓ) : Type ℓ where
  is : A → Answer A
  nothing : Answer A
  refused : Refusal → Answer A

-- "PLACE", which carries the place
abbrev pub place : ℕ → Refusal
place p = record { number = 7; carries = p ∷ [] }

-- "CLOSE", which carries the place
abbrev pub close : ℕ → Refusal
close p = record { number = 8; carries = p ∷ [] }

-- "ROOM", which carries the area
abbrev pub room : ℕ → Refusal
room a = record { number = 4; carries = a ∷ [] }

-- "BROKEN", which carries 0
abbrev pub broken : Refusal
broken = record { number = 9; carries = 0 ∷ [] }

-- an answer that stands if a test holds, else a refusal
unfoldable pub provided {ℓ} : {A : Type ℓ} → Bool → Refusal → Answer A → Answer A
provided true r a = a
provided false r a = refused r

-- a step that gives nothing is BROKEN
unfoldable pub or_broken {ℓ} : {A : Type ℓ} → Option A → Answer A
or_broken none = refused broken
or_broken (some a) = is a
