-- "the plain meaning of rank, select, pred and succ", which LinearFid scans: over a list of bits, one place after another.
use Rattle.std.specs.Prelude.{Bool, true, false, not, List, [], ◌∷◌, map, ℕ, zero, suc, take, drop}
use Rattle.meaning.specs.Answers.{Answer, is, nothing}
use Rattle.meaning.specs.Bits.{opens, places}

-- the ones (true), or the zeros as ones (false): each question below is of the ones
unfoldable pub side : Bool → List Bool → List Bool
side true l = l
side false l = map not l

-- the r-th of a list, from 0
unfoldable pub item : ℕ → List ℕ → Answer ℕ
item r [] = nothing
item zero (i ∷ rest) = is i
item (suc r) (i ∷ rest) = item r rest

-- the last of a list
unfoldable pub last : List ℕ → Answer ℕ
last [] = nothing
last (i ∷ []) = is i
last (i ∷ j ∷ rest) = last (j ∷ rest)

-- "rank is inclusive": the ones at or before place i
unfoldable pub plain_rank : List Bool → ℕ → ℕ
plain_rank l i = opens (take (suc i) l)

-- "select of rank 0, or past the count, finds nothing"
unfoldable pub plain_select : List Bool → ℕ → Answer ℕ
plain_select l zero = nothing
plain_select l (suc r) = item r (places 0 l)

-- the last one at or before place i
unfoldable pub plain_pred : List Bool → ℕ → Answer ℕ
plain_pred l i = last (places 0 (take (suc i) l))

-- the first one at or after place i
unfoldable pub plain_succ : List Bool → ℕ → Answer ℕ
plain_succ l i = item 0 (places i (drop i l))
