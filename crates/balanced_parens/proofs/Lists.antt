-- The ways out of `raise_list`.
use mathlib.Core.Path.{◌≡◌}
use mathlib.Core.Option.{none, some}
use mathlib.Core.List.{List}
use Prim.Native.Nat.{ℕ}
use lib.ListN.{length}
use Rattle.std.specs.Prelude.{Err}
use Rattle.meaning.specs.String.{string}
use Rattle.meaning.specs.Areas.{Held}
use Rattle.meaning.specs.Refusals.{first_of}
use Rattle.refusal.specs.Said.{refusal_of}
use Rattle.refusal.specs.declared.Refusal as refusal
use Rattle.pioneers.specs.Placed.{placing, place_in, list_checks}
use Rattle.parentheses.specs.Raises.{raising, Raises}
use Rattle.balanced_parens.specs.Said.{said}
use Rattle.balanced_parens.specs.Areas.{staged_in}
use Rattle.balanced_parens.specs.Contract.{Staged}
use Rattle.balanced_parens.specs.Demands.{Made}
use Rattle.balanced_parens.proofs.Stages.{placed_none, placed_some, listed, stage_refused, list_raised}

module _ (vs : List ℕ) (k : ℕ) (a : Held) (labels : ℕ) (s : List ℕ) where
  pub list_made : placing none s ≡ place_in vs k → (r : Made) (b : Held) (t : List ℕ) → Raises s (length vs) a labels b t r
      → Staged (staged_in (first_of (list_checks vs k)) (string vs) (length vs) a labels k) b t r
  unfolding place_in
  list_made q r b t f =
      let u = placed_none _ _ _ s q in
      record {
        outcome = list_raised (first_of (list_checks vs k)) vs a labels k u.0 (listed vs k u.0) s u.1 (raising (said r) b t) f.outcome;
        sized = f.sized;
      }

  pub list_refused : (x : refusal.Refusal) → placing (some (refusal_of x)) s ≡ place_in vs k
      → Staged (staged_in (first_of (list_checks vs k)) (string vs) (length vs) a labels k) a s (Err x)
  unfolding place_in
  list_refused x q =
      let u = placed_some (first_of (list_checks vs k)) (refusal_of x) _ _ s q in
      record { outcome = stage_refused (first_of (list_checks vs k)) (string vs) (length vs) a labels k (refusal_of x) u.0 s u.1; sized = tt }
