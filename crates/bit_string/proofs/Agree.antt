-- Two outcomes that a contract allows agree; and each question answers what the plain scan answers, whose contract is the same.
use mathlib.Core.Path.{◌≡◌, sym, ap, ◌∙◌}
use mathlib.Core.Bool.{Bool}
use mathlib.Core.List.{List}
use Prim.Native.Nat.{ℕ}
use Rattle.std.specs.Prelude.{Option, Result}
use Rattle.meaning.specs.BitString.{Edited, edited, string_get, string_rank, string_select, string_pred, string_succ, string_size, string_set, string_push, string_resize, one_from}
use Rattle.refusal.specs.declared.Refusal.{Refusal}
use Rattle.refusal.specs.Said.{said_number, found_number, found_bit}
use Rattle.refusal.proofs.Agree.{same_number, same_found_number, same_found_bit, same_found}
use Rattle.bit_string.specs.Said.{met_of, said_step}
use Rattle.bit_string.specs.Indices.{met, moved}
use Rattle.bit_string.specs.declared.Cursor.{Cursor}
use Rattle.bit_string.specs.declared.one_indices.OneIndices.{OneIndices}

-- a question's two answers: of two calls, or one of `BitString` and one of `LinearFid`
module _ (b : Bool) (ws : List ℕ) (n i : ℕ) where
  pub rank_agrees : (r s : Result ℕ Refusal) → said_number r ≡ string_rank b ws n i → said_number s ≡ string_rank b ws n i → r ≡ s
  rank_agrees r s p q = same_number r s (p ∙ sym q)

  pub select_agrees : (r s : Result (Option ℕ) Refusal) → found_number r ≡ string_select b ws n i → found_number s ≡ string_select b ws n i → r ≡ s
  select_agrees r s p q = same_found_number r s (p ∙ sym q)

  pub pred_agrees : (r s : Result (Option ℕ) Refusal) → found_number r ≡ string_pred b ws n i → found_number s ≡ string_pred b ws n i → r ≡ s
  pred_agrees r s p q = same_found_number r s (p ∙ sym q)

  pub succ_agrees : (r s : Result (Option ℕ) Refusal) → found_number r ≡ string_succ b ws n i → found_number s ≡ string_succ b ws n i → r ≡ s
  succ_agrees r s p q = same_found_number r s (p ∙ sym q)

pub get_agrees : (ws : List ℕ) (n i : ℕ) (r s : Result (Option Bool) Refusal) → found_bit r ≡ string_get ws n i → found_bit s ≡ string_get ws n i → r ≡ s
get_agrees ws n i r s p q = same_found_bit r s (p ∙ sym q)

pub size_agrees : (ws : List ℕ) (n : ℕ) (r s : Result ℕ Refusal) → said_number r ≡ string_size ws n → said_number s ≡ string_size ws n → r ≡ s
size_agrees ws n r s p q = same_number r s (p ∙ sym q)

-- a change's answer and the words it leaves
pub edits_agree : (r s : Result ℕ Refusal) (us vs : List ℕ) → edited (said_number r) us ≡ edited (said_number s) vs → (r ≡ s) × (us ≡ vs)
edits_agree r s us vs e = (same_number r s (ap (λ (y : Edited). y.answer) e), ap (λ (y : Edited). y.words) e)

module _ (r s : Result ℕ Refusal) (us vs : List ℕ) where
  pub set_agrees : (ws : List ℕ) (n i : ℕ) (b : Bool) → edited (said_number r) us ≡ string_set ws n i b → edited (said_number s) vs ≡ string_set ws n i b → (r ≡ s) × (us ≡ vs)
  set_agrees ws n i b p q = edits_agree r s us vs (p ∙ sym q)

  pub push_agrees : (ws : List ℕ) (n : ℕ) (b : Bool) → edited (said_number r) us ≡ string_push ws n b → edited (said_number s) vs ≡ string_push ws n b → (r ≡ s) × (us ≡ vs)
  push_agrees ws n b p q = edits_agree r s us vs (p ∙ sym q)

  pub resize_agrees : (ws : List ℕ) (n m : ℕ) → edited (said_number r) us ≡ string_resize ws n m → edited (said_number s) vs ≡ string_resize ws n m → (r ≡ s) × (us ≡ vs)
  resize_agrees ws n m p q = edits_agree r s us vs (p ∙ sym q)

-- a step of the cursor
step_tells : (x y : ℕ × Cursor) → met_of x ≡ met_of y → x ≡ y
step_tells x y e = λ k. ((e k).place, record { next = (e k).next })

pub same_step : (r s : Result (Option (ℕ × Cursor)) Refusal) → said_step r ≡ said_step s → r ≡ s
same_step r s e = same_found met_of step_tells r s e

pub step_agrees : (ws : List ℕ) (n i : ℕ) (r s : Result (Option (ℕ × Cursor)) Refusal) → said_step r ≡ one_from ws n i → said_step s ≡ one_from ws n i → r ≡ s
step_agrees ws n i r s p q = same_step r s (p ∙ sym q)

-- a step of the struct: its answer, and the struct after it
pub next_agrees : (x y z : OneIndices) (r s : Result (Option ℕ) Refusal) → found_number r ≡ met x → found_number s ≡ met x → y ≡ moved x → z ≡ moved x
    → (r ≡ s) × (y ≡ z)
next_agrees x y z r s p q e f = (same_found_number r s (p ∙ sym q), e ∙ sym f)
