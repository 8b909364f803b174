-- A step of the cursor from what succ_one answers.
use mathlib.Core.Path.{◌≡◌, sym, ap, ◌∙◌}
use mathlib.Core.Bool.{true}
use mathlib.Core.List.{List}
use Prim.Native.Nat.{ℕ, ◌+◌, ◌<◌}
use native.Mathlib.Numerals.{add-one}
use Rattle.std.specs.Prelude.{Option, Some, None, Ok}
use Rattle.meaning.specs.Answers.{is, nothing, refused, Refusal}
use Rattle.meaning.specs.BitString.{string_succ, met_at, one_from}
use Rattle.meaning.proofs.BitString.{one_met, met_before}
use Rattle.refusal.specs.Said.{found_number}

module _ (ws : List ℕ) (n i : ℕ) where
  pub step_refused : (r : Refusal) → refused r ≡ string_succ true ws n i → refused r ≡ one_from ws n i
  unfolding met_at
  step_refused r e = one_met ws n i e

  module _ (s : Option ℕ) (e : found_number (Ok s) ≡ string_succ true ws n i) where
    pub step_lt : (j : ℕ) → s ≡ Some j → j < n
    step_lt j p = met_before ws n i e j (ap (λ t. found_number (Ok t)) p)

    pub step_one : (j : ℕ) → s ≡ Some j → is (record { place = j; next = j + 1 }) ≡ one_from ws n i
    unfolding met_at
    step_one j p = ap (λ k. is (record { place = j; next = k })) (add-one j) ∙ ap (λ t. met_at (found_number (Ok t))) (sym p) ∙ one_met ws n i e

    pub step_end : s ≡ None → nothing ≡ one_from ws n i
    unfolding met_at
    step_end p = ap (λ t. met_at (found_number (Ok t))) (sym p) ∙ one_met ws n i e
