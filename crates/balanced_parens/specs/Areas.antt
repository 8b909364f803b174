-- The six lent areas, and what stands in them when the level builder is done.
use Rattle.std.specs.Prelude.{◌≡◌, Bool, List, ◌∷◌, ℕ, length, replicate}
use Rattle.std.proofs.Math.Option.{Option, none, some}
use Rattle.meaning.specs.Answers.{Refusal, Answer, is, refused}
use Rattle.meaning.specs.Family.{tower}
use Rattle.meaning.specs.Areas.{Held, written, counted}
use Rattle.meaning.specs.Refusals.{first_of}
use Rattle.meaning.specs.Build.{Lent, Tree, After}
use Rattle.parentheses.specs.Writes.{held_at, held_in}
use Rattle.parentheses.specs.declared.levels.Areas as lent
use Rattle.parentheses.specs.Raises.{Raising, raising, rooms_at, string_checks}

-- the areas in 01's order
abbrev pub lent_at : List ℕ → List ℕ → List ℕ → List ℕ → List ℕ → List ℕ → Lent
lent_at w b m g u s = record { held = held_at w b m g; labels = u; scratch = s }

-- areas 0 to 3 as a struct lends them, and the two others
abbrev pub lent_in : lent.Areas → List ℕ → List ℕ → Lent
lent_in a u s = record { held = held_in a; labels = u; scratch = s }

-- an answer with the areas as they are left
abbrev pub after : Answer Tree → Lent → After
after r a = record { reply = r; areas = a }

-- the levels of a string of n nodes in areas 0 to 3, unless an earlier check, FULL, DEEP or ROOM for 0 to 4 refuses
unfoldable pub staged_in : Option Refusal → List Bool → ℕ → Held → ℕ → ℕ → Raising
staged_in early l n a labels k =
    elim (first_of (early ∷ string_checks l n (rooms_at a labels k))) [
      | none ↦
          raising (is (record { nodes = n; counts = counted (tower 4 l) })) (written (rooms_at a labels k) (tower 4 l)) (replicate k 0)
      | some r ↦ raising (refused r) a (replicate k 0)
    ]

-- areas 0 to 4 that are zero, to their ends
pub record Blank (w b m g u : List ℕ) : Type 0 where
  pub words : w ≡ replicate (length w) 0
  pub bytes : b ≡ replicate (length b) 0
  pub middle : m ≡ replicate (length m) 0
  pub large : g ≡ replicate (length g) 0
  pub labels : u ≡ replicate (length u) 0

-- zeros in the place of what they held
pub record Cleared (w b m g u w' b' m' g' u' : List ℕ) : Type 0 where
  pub words : w' ≡ replicate (length w) 0
  pub bytes : b' ≡ replicate (length b) 0
  pub middle : m' ≡ replicate (length m) 0
  pub large : g' ≡ replicate (length g) 0
  pub labels : u' ≡ replicate (length u) 0
