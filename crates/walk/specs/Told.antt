-- The lists of levels and labels, on the way.
use Rattle.std.specs.Prelude.{◌≡◌, List, ℕ, ◌+◌, ◌*◌, ◌≤◌, length, replicate}
use Rattle.meaning.specs.Answers.{Answer, is, nothing, refused, broken}
use Rattle.meaning.specs.Walking as walking
use Rattle.meaning.specs.Walking.{unwalked}
use Rattle.walk.specs.Said.{rooms_at}

-- lists made zeros
pub record Cleared (vs bs vs' bs' : List ℕ) : Type 0 where
  pub levels : vs' ≡ replicate (length vs) 0
  pub labels : bs' ≡ replicate (length bs) 0

-- lists of zeros
pub record Zeros (vs bs : List ℕ) : Type 0 where
  pub levels : vs ≡ replicate (length vs) 0
  pub labels : bs ≡ replicate (length bs) 0

-- with room for n nodes
pub record Roomy (n : ℕ) (vs bs s : List ℕ) : Type 0 where
  pub zeros : Zeros vs bs
  pub levels : n ≤ length vs
  pub labels : n ≤ length bs
  pub scratch : 2 * n + 2 ≤ length s

-- what a call comes to once scratch is made zeros, and, refused, the lists
unfoldable pub ended : Answer ℕ → List ℕ → List ℕ → List ℕ → walking.Walked
ended (is n) vs bs s = record { answer = is n; levels = vs; labels = bs; scratch = replicate (length s) 0 }
ended nothing vs bs s = unwalked (rooms_at vs bs s) broken
ended (refused r) vs bs s = unwalked (rooms_at vs bs s) r
