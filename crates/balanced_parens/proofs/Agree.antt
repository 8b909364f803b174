-- Any two outcomes that the contract of build, or of growth, allows agree: the answer with its counts, and all six areas.
use mathlib.Core.Path.{◌≡◌, sym, ap, ◌∙◌}
use mathlib.Core.List.{List}
use Prim.Native.Nat.{ℕ}
use Rattle.meaning.specs.Build.{Lent, After}
use Rattle.record.specs.Record.{SizedIn}
use Rattle.record.specs.declared.Counts.{Counts}
use Rattle.record.proofs.Agree.{replies_agree}
use Rattle.balanced_parens.specs.Said.{said}
use Rattle.balanced_parens.specs.Areas.{after}
use Rattle.balanced_parens.specs.Contract.{Builds, GrowsTo}
use Rattle.balanced_parens.specs.Demands.{Made}

module _ (z z' : Lent) (r r' : Made) where
  pub answers_agree : SizedIn r → SizedIn r' → said r ≡ said r' → r ≡ r'
  answers_agree c c' e = replies_agree r r' c c' e

  pub outcomes_agree : (x : After) → SizedIn r → SizedIn r' → after (said r) z ≡ x → after (said r') z' ≡ x → (r ≡ r') × (z ≡ z')
  outcomes_agree x c c' e e' =
      let f : after (said r) z ≡ after (said r') z' = e ∙ sym e' in
      (answers_agree c c' (ap (λ (y : After). y.reply) f), ap (λ (y : After). y.areas) f)

  pub builds_agree : (vs bs : List ℕ) (a : Lent) → Builds vs bs a z r → Builds vs bs a z' r' → (r ≡ r') × (z ≡ z')
  builds_agree vs bs a x y = outcomes_agree _ x.sized y.sized x.outcome y.outcome

  pub grows_agree : (c : Counts) (v b : ℕ) (a : Lent) → GrowsTo c v b a z r → GrowsTo c v b a z' r' → (r ≡ r') × (z ≡ z')
  grows_agree c v b a x y = outcomes_agree _ x.sized y.sized x.outcome y.outcome
