-- Any two outcomes that the contract allows agree: the answer, and scratch.
use mathlib.Core.Path.{◌≡◌, sym, ap, ◌∙◌}
use mathlib.Core.List.{List}
use Prim.Native.Nat.{ℕ}
use Rattle.std.specs.Prelude.{Result}
use Rattle.refusal.specs.Said.{refused_of}
use Rattle.refusal.specs.declared.Refusal.{Refusal}
use Rattle.pioneers.specs.Placed.{Placing, placing}
use Rattle.pioneers.proofs.Agree.{same_refused}

pub longers_agree : (x : Placing) (r q : Result (Unit {0}) Refusal) (s t : List ℕ) → placing (refused_of r) s ≡ x → placing (refused_of q) t ≡ x → (r ≡ q) × (s ≡ t)
longers_agree x r q s t e f =
    let g : placing (refused_of r) s ≡ placing (refused_of q) t = e ∙ sym f in
    (same_refused r q (ap (λ (y : Placing). y.refusal) g), ap (λ (y : Placing). y.scr) g)
