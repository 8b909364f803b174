-- What the dictionary of a level's flags answers, as a step.
use mathlib.Core.Path.{◌≡◌, refl, sym, ap, ap₂, ◌∙◌}
use mathlib.Core.Bool.{◌&&◌}
use mathlib.Core.Option.{Option, none, some}
use Prim.Native.Nat.{ℕ, ◌/◌, ◌<◌, ◌≤◌}
use lib.Dec.{leb, eqb}
use borrow.Author.Tests.{le-leb, lt-leb, eq-eqb, ne_eqb}
use Rattle.meaning.specs.Dictionary.{Dict}
use Rattle.meaning.specs.Close.{and_then, found, test}
use Rattle.meaning.specs.Direct.{Entries, dict_past, dict_rank, dict_select, dict_pred}
use Rattle.meaning.proofs.If.{and_true}
use Rattle.std.specs.Prelude.{Option as Maybe, None, Some, Result, Ok, Err}
use Rattle.std.specs.Result.{result_ok}
use Rattle.refusal.specs.declared.Refusal.{Refusal}
use Rattle.refusal.specs.Said.{option_of, said_number, found_number}

rank_part : (r : Result ℕ Refusal) → option_of (result_ok r) ≡ found (said_number r)
unfolding found
rank_part (Ok n) = refl
rank_part (Err x) = refl

found_part : (r : Result (Maybe ℕ) Refusal) (y : Maybe ℕ) → result_ok r ≡ Some y → option_of y ≡ found (found_number r)
unfolding found
found_part (Ok (Some n)) y e = let z : y ≡ Some n = cc in ap option_of z
found_part (Ok None) y e = let z : y ≡ None = cc in ap option_of z
found_part (Err x) y e = absurd cc

lost_part : (r : Result (Maybe ℕ) Refusal) → result_ok r ≡ None → none ≡ found (found_number r)
unfolding found
lost_part (Ok x) e = absurd cc
lost_part (Err x) e = refl

-- the counts that the code reads are the level's, and the areas the catalogue's
module _ (e f h : Entries) (d a : Dict) (x : ℕ) (same : e ≡ f) (areas : d ≡ a) where
  pub rank_is : (r : Result ℕ Refusal) → said_number r ≡ dict_rank e (dict_past h d) x → (z : Maybe ℕ) → z ≡ result_ok r
      → option_of z ≡ found (dict_rank f (dict_past h a) x)
  rank_is r g z k = ap option_of k ∙ rank_part r ∙ ap found (g ∙ ap₂ (λ y w. dict_rank y (dict_past h w) x) same areas)

  module _ (r : Result (Maybe ℕ) Refusal) (g : found_number r ≡ dict_select e (dict_past h d) x) (o : Maybe (Maybe ℕ)) (k : o ≡ result_ok r) where
    sought : found_number r ≡ dict_select f (dict_past h a) x
    sought = g ∙ ap₂ (λ y w. dict_select y (dict_past h w) x) same areas

    pub select_lost : (z : Maybe ℕ) → o ≡ None → z ≡ None → option_of z ≡ found (dict_select f (dict_past h a) x)
    select_lost z i j = ap option_of j ∙ lost_part r (sym k ∙ i) ∙ ap found sought

    pub select_is : (y : Maybe ℕ) → o ≡ Some y → option_of y ≡ found (dict_select f (dict_past h a) x)
    select_is y i = found_part r y (sym k ∙ i) ∙ ap found sought

  module _ (r : Result (Maybe ℕ) Refusal) (g : found_number r ≡ dict_pred e (dict_past h d) x) (o : Maybe (Maybe ℕ)) (k : o ≡ result_ok r) where
    before : found_number r ≡ dict_pred f (dict_past h a) x
    before = g ∙ ap₂ (λ y w. dict_pred y (dict_past h w) x) same areas

    in_block : Option ℕ → Option ℕ
    in_block y = and_then y (λ q. test (leb q x && eqb (q / 64) (x / 64)) (some q))

    pub pred_lost : (z : Maybe ℕ) → o ≡ None → z ≡ None
        → option_of z ≡ and_then (found (dict_pred f (dict_past h a) x)) (λ q. test (leb q x && eqb (q / 64) (x / 64)) (some q))
    unfolding and_then in_block
    pred_lost z i j = ap option_of j ∙ ap in_block (lost_part r (sym k ∙ i) ∙ ap found before)

    module _ (y : Maybe ℕ) (i : o ≡ Some y) where
      pub pred_none : (z : Maybe ℕ) → y ≡ None → z ≡ None
          → option_of z ≡ and_then (found (dict_pred f (dict_past h a) x)) (λ q. test (leb q x && eqb (q / 64) (x / 64)) (some q))
      unfolding and_then in_block
      pred_none z j l = ap option_of l ∙ ap in_block (sym (ap option_of j) ∙ found_part r y (sym k ∙ i) ∙ ap found before)

      pub pred_is : (q : ℕ) → y ≡ Some q → (z : Maybe ℕ) → option_of z ≡ test (leb q x && eqb (q / 64) (x / 64)) (some q)
          → option_of z ≡ and_then (found (dict_pred f (dict_past h a) x)) (λ q. test (leb q x && eqb (q / 64) (x / 64)) (some q))
      unfolding and_then in_block
      pred_is q j z l = l ∙ ap in_block (sym (ap option_of j) ∙ found_part r y (sym k ∙ i) ∙ ap found before)

-- in p's own block
module _ (q p : ℕ) where
  pub block_after : p < q → none ≡ test (leb q p && eqb (q / 64) (p / 64)) (some q)
  unfolding test
  block_after h = rw (lt-leb q p h)

  pub block_own : q ≤ p → q / 64 ≡ p / 64 → some q ≡ test (leb q p && eqb (q / 64) (p / 64)) (some q)
  unfolding test
  block_own h e = rw (and_true (le-leb q p h) (eq-eqb (q / 64) (p / 64) e))

  pub block_other : q ≤ p → ¬ (q / 64 ≡ p / 64) → none ≡ test (leb q p && eqb (q / 64) (p / 64)) (some q)
  unfolding test
  block_other h e = rw (le-leb q p h, ne_eqb (q / 64) (p / 64) e)
