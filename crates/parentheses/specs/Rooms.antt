-- ROOM for areas 0 to 4.
use Rattle.std.specs.Prelude.{List, [], ◌∷◌, ℕ, ◌*◌, leb}
use Rattle.std.proofs.Math.Option.{Option}
use Rattle.meaning.specs.Answers.{Refusal}
use Rattle.meaning.specs.Refusals.{check}
use Rattle.parentheses.specs.declared.plans.Sizes.{Sizes}

-- ROOM by sizes
unfoldable pub size_checks : Sizes → ℕ → ℕ → ℕ → ℕ → ℕ → ℕ → List (Option Refusal)
size_checks s n words bytes middle large labels =
    check (leb s.words words) 4 (0 ∷ [])
    ∷ check (leb s.dict.bytes bytes) 4 (1 ∷ [])
    ∷ check (leb (2 * s.dict.middles) middle) 4 (2 ∷ [])
    ∷ check (leb (2 * s.dict.larges) large) 4 (3 ∷ [])
    ∷ check (leb n labels) 4 (4 ∷ [])
    ∷ []
