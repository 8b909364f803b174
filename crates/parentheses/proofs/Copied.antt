-- Words copied: what a copy writes, and what it does not touch.
use mathlib.Core.Path.{◌≡◌, sym, ap, ◌∙◌}
use mathlib.Core.List.{List, ◌++◌}
use mathlib.Core.Logic.{◌⊎◌, inl, inr}
use Prim.Native.Nat.{ℕ, ◌+◌, ◌-◌, ◌≤◌, ◌<◌}
use native.Mathlib.Omega.{arith}
use lib.ListN.{length, get_or, take, drop, length-append, get_or-append}
use lib.Seq.{paste, length_paste_head, length-take-le, get_or-take, get_or-drop, get_or-append-add}
use Rattle.std.specs.List.{copy_within}

-- std's copy within a slice, of n words from place a on
pub moved : (d : List ℕ) (a n b : ℕ) → copy_within d a (a + n) b ≡ paste d b (drop a d) n
moved d a n b = let e : a + n - a ≡ n = omega arith in ap (paste d b (drop a d)) e

-- what a copy does not touch
pub paste_else : (d : List ℕ) (b : ℕ) (s : List ℕ) (n x : ℕ) → b + n ≤ length d → n ≤ length s → (x < b) ⊎ (b + n ≤ x) → get_or (paste d b s n) x 0 ≡ get_or d x 0
paste_else d b s n x h g (inl l) =
    let a : length (take b d) ≡ b = length-take-le b d (omega arith) in
    get_or-append (take b d ++ take n s) (drop (b + n) d) 0 x (omega (arith, length-append (take b d) (take n s)))
    ∙ get_or-append (take b d) (take n s) 0 x (omega arith) ∙ get_or-take b d x 0 l
paste_else d b s n x h g (inr l) =
    let a : length (take b d ++ take n s) ≡ b + n = length_paste_head d b s n (omega arith) g in
    let e : x ≡ length (take b d ++ take n s) + (x - (b + n)) = omega arith in
    let f : b + n + (x - (b + n)) ≡ x = omega arith in
    ap (λ (y : ℕ). get_or (paste d b s n) y 0) e ∙ get_or-append-add (take b d ++ take n s) (drop (b + n) d) (x - (b + n)) 0
    ∙ get_or-drop (b + n) d (x - (b + n)) 0 ∙ ap (λ (y : ℕ). get_or d y 0) f

-- and what it does
pub paste_there : (d : List ℕ) (b : ℕ) (s : List ℕ) (n x : ℕ) → b + n ≤ length d → n ≤ length s → x < n → get_or (paste d b s n) (b + x) 0 ≡ get_or s x 0
paste_there d b s n x h g l =
    let a : length (take b d) ≡ b = length-take-le b d (omega arith) in
    let c : length (take n s) ≡ n = length-take-le n s g in
    get_or-append (take b d ++ take n s) (drop (b + n) d) 0 (b + x) (omega (arith, length-append (take b d) (take n s)))
    ∙ ap (λ (y : ℕ). get_or (take b d ++ take n s) (y + x) 0) (sym a) ∙ get_or-append-add (take b d) (take n s) x 0 ∙ get_or-take n s x 0 l
