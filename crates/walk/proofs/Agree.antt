-- Any two outcomes that the contract allows agree: what is said tells the answer.
use mathlib.Core.Path.{◌≡◌, sym, ap, ◌∙◌}
use mathlib.Core.List.{List}
use Prim.Native.Nat.{ℕ}
use Rattle.std.specs.Prelude.{Result}
use Rattle.meaning.specs.Walking as walking
use Rattle.refusal.specs.declared.Refusal.{Refusal}
use Rattle.refusal.specs.Said.{said_number}
use Rattle.refusal.proofs.Agree.{same_number}
use Rattle.walk.specs.Said.{walked}

-- two calls with the same outcome w
pub walks_agree : (w : walking.Walked) (r r' : Result ℕ Refusal) (vs vs' bs bs' s s' : List ℕ) → walked (said_number r) vs bs s ≡ w → walked (said_number r') vs' bs' s' ≡ w
    → (r ≡ r') × (vs ≡ vs') × (bs ≡ bs') × (s ≡ s')
walks_agree w r r' vs vs' bs bs' s s' e f =
    let g = e ∙ sym f in
    (same_number r r' (ap (λ x. x.answer) g), ap (λ x. x.levels) g, ap (λ x. x.labels) g, ap (λ x. x.scratch) g)
