-- "the plain meaning of rank, select, pred and succ": what each finds in a string of ones and zeros. Rank is `opens (take (suc x) l)`.
-- Of theorems alone: contracts cite the computed forms.
use Rattle.std.specs.Prelude.{◌≡◌, Bool, true, false, ◌⊎◌, List, ℕ, suc, ◌≤◌, ◌<◌, get_or, take}
use Rattle.meaning.specs.Answers.{Answer, is, nothing, refused}
use Rattle.meaning.specs.Bits.{opens}

-- select of r: the one with r - 1 ones before it; "select of rank 0, or past the count, finds nothing" (`select_has`, `select_only`: the plain
-- scan, and nothing else; `select_is`: the dictionary)
unfoldable pub IsSelect : List Bool → ℕ → Answer ℕ → Type 0
IsSelect l r (is i) = (get_or l i false ≡ true) × (suc (opens (take i l)) ≡ r)
IsSelect l r nothing = (r ≡ 0) ⊎ (opens l < r)
IsSelect l r (refused e) = ⊥

-- pred: the greatest one at or before x (`pred_has`, `pred_only`, `pred_is`)
unfoldable pub IsPred : List Bool → ℕ → Answer ℕ → Type 0
IsPred l x (is i) = (get_or l i false ≡ true) × (i ≤ x) × ((j : ℕ) → i < j → j ≤ x → get_or l j false ≡ false)
IsPred l x nothing = (j : ℕ) → j ≤ x → get_or l j false ≡ false
IsPred l x (refused e) = ⊥

-- succ: the least one at or after x (`succ_has`, `succ_only`, `succ_is`)
unfoldable pub IsSucc : List Bool → ℕ → Answer ℕ → Type 0
IsSucc l x (is i) = (get_or l i false ≡ true) × (x ≤ i) × ((j : ℕ) → x ≤ j → j < i → get_or l j false ≡ false)
IsSucc l x nothing = (j : ℕ) → x ≤ j → get_or l j false ≡ false
IsSucc l x (refused e) = ⊥
