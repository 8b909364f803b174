-- Any two outcomes that a contract allows agree; and what is put into a record is what is read there.
use mathlib.Core.Path.{◌≡◌, sym, ap, ◌∙◌}
use mathlib.Core.List.{List}
use Prim.Native.Nat.{ℕ, ◌≤◌}
use lib.ListN.{length}
use lib.Seq.{sets, sets-eq}
use Rattle.meaning.specs.Build.{Lent}
use Rattle.record.specs.Record.{tree_in}
use Rattle.record.specs.declared.Counts.{Counts}
use Rattle.flight.specs.Layout.{tree_at, numbers_of}
use Rattle.flight.specs.Calls.{Call, call, Made, make, Toured, tour}

-- a question
pub calls_agree : (x : Call) (n n' : ℕ) (out out' : List ℕ) → call n out ≡ x → call n' out' ≡ x → (n ≡ n') × (out ≡ out')
calls_agree x n n' out out' e f = let g = e ∙ sym f in (ap (λ y. y.returned) g, ap (λ y. y.out) g)

-- a build or a growth
pub makes_agree : (x : Made) (n n' : ℕ) (out out' r r' : List ℕ) (a a' : Lent) → make n out r a ≡ x → make n' out' r' a' ≡ x
    → (n ≡ n') × (out ≡ out') × (r ≡ r') × (a ≡ a')
makes_agree x n n' out out' r r' a a' e f =
    let g = e ∙ sym f in
    (ap (λ y. y.returned) g, ap (λ y. y.out) g, ap (λ y. y.counts) g, ap (λ y. y.areas) g)

-- a walk
pub tours_agree : (x : Toured) (n n' : ℕ) (out out' vs vs' bs bs' s s' : List ℕ) → tour n out vs bs s ≡ x → tour n' out' vs' bs' s' ≡ x
    → (n ≡ n') × (out ≡ out') × (vs ≡ vs') × (bs ≡ bs') × (s ≡ s')
tours_agree x n n' out out' vs vs' bs bs' s s' e f =
    let g = e ∙ sym f in
    (ap (λ y. y.returned) g, ap (λ y. y.out) g, ap (λ y. y.levels) g, ap (λ y. y.labels) g, ap (λ y. y.scratch) g)

-- the record that a build or a growth puts is the one that the next call reads
pub read_back : (r : List ℕ) (c : Counts) → 18 ≤ length r → tree_at (sets r 0 (numbers_of (tree_in c))) ≡ tree_in c
unfolding tree_at numbers_of tree_in
read_back r c h = ap tree_at (sets-eq (numbers_of (tree_in c)) r 0 h)
