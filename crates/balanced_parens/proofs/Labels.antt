-- The labels in area 4.
use mathlib.Core.Path.{◌≡◌, ap, ap₂, ◌∙◌}
use mathlib.Core.List.{List, ◌++◌}
use Prim.Native.Nat.{ℕ}
use native.Mathlib.Nat.{zero-add}
use native.Mathlib.Omega.{arith}
use lib.ListN.{length, drop, replicate}
use lib.Seq.{paste, take_all}
use Rattle.meaning.specs.Areas.{filled}
use Rattle.meaning.proofs.Runs.{drop_zeros}

-- copied over zeros they are what a build leaves
pub labels_filled : (bs u d area : List ℕ) → d ≡ replicate (length u) 0 → area ≡ paste d 0 bs (length bs) → area ≡ filled (length u) bs
unfolding filled
labels_filled bs u d area z e =
    e ∙ ap (λ (x : List ℕ). paste x 0 bs (length bs)) z
    ∙ ap₂ (λ (x y : List ℕ). x ++ y) (take_all (length bs) bs (omega arith))
    (ap (λ (n : ℕ). drop n (replicate {A = ℕ} (length u) 0)) (zero-add (length bs)) ∙ drop_zeros (length bs) (length u))
