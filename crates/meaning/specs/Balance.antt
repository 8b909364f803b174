-- The paper's words for a pair: an open and a close with a balanced string strictly between them. Of theorems alone: contracts cite the steps.
use Rattle.std.specs.Prelude.{◌≡◌, Bool, true, false, List, [], ◌∷◌, ◌++◌, ℕ, suc, ◌<◌, length, get_or}
use Rattle.std.proofs.Math.Seq.{slice}

-- balanced: empty, or an open, a balanced string, a close, and a balanced string (`balanced_exactly`: the walk from depth 0 to 0, never below)
pub data Balanced : List Bool → Type 0 where
  empty : Balanced []
  pair : {a b : List Bool} → Balanced a → Balanced b → Balanced (true ∷ a ++ false ∷ b)

-- an open at p and a close at c, and between them a balanced string (`encloses_exactly`: the same as IsClose)
pub record Encloses (l : List Bool) (p c : ℕ) : Type 0 where
  pub after : p < c
  pub inside : c < length l
  pub opening : get_or l p false ≡ true
  pub closing : get_or l c false ≡ false
  pub between : Balanced (slice (suc p) c l)
