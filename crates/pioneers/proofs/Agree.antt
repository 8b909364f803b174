-- Any two outcomes that a contract allows agree: the answer, and scratch.
use mathlib.Core.Path.{◌≡◌, refl, sym, ap, ◌∙◌}
use mathlib.Core.Bool.{Bool}
use mathlib.Core.List.{List}
use Prim.Native.Nat.{ℕ}
use Rattle.std.specs.Prelude.{Result, Ok, Err}
use Rattle.refusal.specs.Said.{refused_of}
use Rattle.refusal.specs.declared.Refusal.{Refusal}
use Rattle.refusal.proofs.Agree.{same_refusal}
use Rattle.pioneers.specs.Placed.{Placing, placing}
use Rattle.pioneers.specs.Scratch.{Marking, marking}
use Rattle.pioneers.specs.Keep.{Keeping, keeping}

-- yes, or a refusal: what it refuses tells it
pub same_refused : (r q : Result (Unit {0}) Refusal) → refused_of r ≡ refused_of q → r ≡ q
same_refused (Ok a) (Ok b) e = refl
same_refused (Ok a) (Err q) e = absurd cc
same_refused (Err r) (Ok b) e = absurd cc
same_refused (Err r) (Err q) e = ap Err (same_refusal r q cc)

module _ (s t : List ℕ) where
  pub places_agree : (x : Placing) (r q : Result (Unit {0}) Refusal) → placing (refused_of r) s ≡ x → placing (refused_of q) t ≡ x → (r ≡ q) × (s ≡ t)
  places_agree x r q e f =
      let g : placing (refused_of r) s ≡ placing (refused_of q) t = e ∙ sym f in
      (same_refused r q (ap (λ (y : Placing). y.refusal) g), ap (λ (y : Placing). y.scr) g)

  pub marks_agree : (x : Marking) (r q : Bool) → marking r s ≡ x → marking q t ≡ x → (r ≡ q) × (s ≡ t)
  marks_agree x r q e f = (ap (λ (y : Marking). y.done) (e ∙ sym f), ap (λ (y : Marking). y.scr) (e ∙ sym f))

  pub compacts_agree : (x : Keeping) (r q : ℕ) → keeping r s ≡ x → keeping q t ≡ x → (r ≡ q) × (s ≡ t)
  compacts_agree x r q e f = (ap (λ (y : Keeping). y.at) (e ∙ sym f), ap (λ (y : Keeping). y.scr) (e ∙ sym f))
