-- The way back in scratch: its length, its first node, and a node put on it.
use mathlib.Core.Path.{◌≡◌, refl, ap, ap₂, ◌∙◌}
use mathlib.Core.List.{List, ◌∷◌}
use Prim.Native.Nat.{ℕ, zero, suc, ◌+◌, ◌*◌, ◌-◌, ◌≤◌, ◌<◌}
use native.Mathlib.Omega.{arith}
use lib.ListN.{length, get_or, set, length-set}
use lib.Seq.{get_or-set_same, get_or-set_other}
use Rattle.meaning.specs.Child.{Node}
use Rattle.meaning.proofs.Ask.{node_is}
use Rattle.walk.specs.Kept.{node_in, way_in, put_in}

pub way_length : (s : List ℕ) (n : ℕ) → length (way_in s n) ≡ n
unfolding way_in
way_length s zero = refl
way_length s (suc n) = ap suc (way_length s n)

put_other : (s : List ℕ) (d n : ℕ) (m : Node) → n < d → node_in (put_in s d m) n ≡ node_in s n
unfolding put_in
put_other s d n m h =
    node_is (get_or (put_in s d m) (2 * n) 0) (get_or s (2 * n) 0) (get_or (put_in s d m) (2 * n + 1) 0) (get_or s (2 * n + 1) 0)
    (get_or-set_other (set s (2 * d) m.place) (2 * d + 1) (2 * n) m.id 0 (λ e. omega arith) ∙ get_or-set_other s (2 * d) (2 * n) m.place 0 (λ e. omega arith))
    (get_or-set_other (set s (2 * d) m.place) (2 * d + 1) (2 * n + 1) m.id 0 (λ e. omega arith)
    ∙ get_or-set_other s (2 * d) (2 * n + 1) m.place 0 (λ e. omega arith))

put_same : (s : List ℕ) (d : ℕ) (m : Node) → 2 * d + 1 < length s → node_in (put_in s d m) d ≡ m
unfolding put_in
put_same s d m h =
    node_is (get_or (put_in s d m) (2 * d) 0) m.place (get_or (put_in s d m) (2 * d + 1) 0) m.id
    (get_or-set_other (set s (2 * d) m.place) (2 * d + 1) (2 * d) m.id 0 (λ e. omega arith) ∙ get_or-set_same s (2 * d) m.place 0 (omega arith))
    (get_or-set_same (set s (2 * d) m.place) (2 * d + 1) m.id 0 (simp length-set h))

put_under : (s : List ℕ) (d n : ℕ) (m : Node) → n ≤ d → way_in (put_in s d m) n ≡ way_in s n
unfolding way_in
put_under s d zero m h = refl
put_under s d (suc n) m h = ap₂ ◌∷◌ (put_other s d n m h) (put_under s d n m (omega arith))

-- a node put under d others is the path's next
pub way_put : (s : List ℕ) (d : ℕ) (m : Node) → 2 * d + 1 < length s → way_in (put_in s d m) (suc d) ≡ m ∷ way_in s d
unfolding way_in
way_put s d m h = ap₂ ◌∷◌ (put_same s d m h) (put_under s d d m (omega arith))

pub put_length : (s : List ℕ) (d : ℕ) (m : Node) → length (put_in s d m) ≡ length s
unfolding put_in
put_length s d m = simp length-set

-- a path's first node
pub way_first : (s : List ℕ) (n : ℕ) → 0 < n → way_in s n ≡ node_in s (n - 1) ∷ way_in s (n - 1)
unfolding way_in
way_first s zero h = absurd (omega arith)
way_first s (suc n) h = let e : n ≡ suc n - 1 = omega arith in ap (λ k. node_in s k ∷ way_in s k) e
