-- The close of an open by a scan to the right: with n opens waiting before place j, their last close is the n-th loose one from j on.
use mathlib.Core.Path.{◌≡◌, refl, ap, ◌∙◌}
use mathlib.Core.Bool.{Bool, true, false}
use mathlib.Core.List.{List, ◌∷◌}
use Prim.Native.Nat.{ℕ, suc, ◌≤◌, ◌<◌}
use lib.ListN.{length, get_or, drop, drop_of_length-le}
use lib.Seq.{drop-cons}
use Rattle.meaning.specs.Match.{loose, close_of}
use Rattle.meaning.proofs.Loose.{get_d_tail}

-- the close of the first of n + 1 opens that wait before place j; the length if there is none
unfoldable pub waiting : List Bool → ℕ → ℕ → ℕ
waiting l n j = get_or (loose j (drop j l)) n (length l)

pub scan_start : (l : List Bool) (i : ℕ) → close_of l i ≡ waiting l 0 (suc i)
unfolding close_of waiting
scan_start l i = refl

pub scan_open : (l : List Bool) (n j : ℕ) → j < length l → get_or l j false ≡ true → waiting l n j ≡ waiting l (suc n) (suc j)
unfolding waiting loose
scan_open l n j h e =
    ap (λ s. get_or (loose j s) n (length l)) (drop-cons l j false h ∙ ap (λ b. b ∷ drop (suc j) l) e)
    ∙ get_d_tail (loose (suc j) (drop (suc j) l)) n (length l)

pub scan_shut : (l : List Bool) (n j : ℕ) → j < length l → get_or l j false ≡ false → waiting l (suc n) j ≡ waiting l n (suc j)
unfolding waiting loose
scan_shut l n j h e = ap (λ s. get_or (loose j s) (suc n) (length l)) (drop-cons l j false h ∙ ap (λ b. b ∷ drop (suc j) l) e)

pub scan_found : (l : List Bool) (j : ℕ) → j < length l → get_or l j false ≡ false → waiting l 0 j ≡ j
unfolding waiting loose
scan_found l j h e = ap (λ s. get_or (loose j s) 0 (length l)) (drop-cons l j false h ∙ ap (λ b. b ∷ drop (suc j) l) e)

pub scan_end : (l : List Bool) (n j : ℕ) → length l ≤ j → waiting l n j ≡ length l
unfolding waiting loose
scan_end l n j h = ap (λ s. get_or (loose j s) n (length l)) (drop_of_length-le l h)
