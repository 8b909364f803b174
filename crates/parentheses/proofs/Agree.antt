-- Any two outcomes that the level builder's contract allows agree: the answer with its counts, areas 0 to 3 and scratch.
use mathlib.Core.Path.{◌≡◌, sym, ap, ◌∙◌}
use mathlib.Core.List.{List}
use Prim.Native.Nat.{ℕ}
use Rattle.std.specs.Prelude.{Result}
use Rattle.meaning.specs.Areas.{Held}
use Rattle.refusal.specs.declared.Refusal.{Refusal}
use Rattle.record.specs.declared.Counts.{Counts}
use Rattle.record.proofs.Agree.{replies_agree}
use Rattle.parentheses.specs.Raises.{Raising, Raises}

module _ (scr : List ℕ) (n : ℕ) (a : Held) (labels : ℕ) (b b' : Held) (s s' : List ℕ) (r r' : Result Counts Refusal) where
  pub raises_agree : Raises scr n a labels b s r → Raises scr n a labels b' s' r' → (r ≡ r') × (b ≡ b') × (s ≡ s')
  raises_agree x y =
      let e = x.outcome ∙ sym y.outcome in
      (replies_agree r r' x.sized y.sized (ap (λ (z : Raising). z.reply) e), ap (λ (z : Raising). z.held) e, ap (λ (z : Raising). z.scr) e)
