-- "the naive pred and succ": pred is select of the rank; succ the place itself if that finds it, else select of one more.
use mathlib.Core.Path.{◌≡◌, sym, ap, ◌∙◌, subst}
use mathlib.Core.Bool.{Bool, true, false}
use mathlib.Core.List.{List}
use mathlib.Core.Logic.{◌⊎◌, inl, inr}
use Prim.Native.Nat.{ℕ, suc, ◌+◌, min}
use native.Mathlib.Numerals.{add-one}
use native.Mathlib.Omega.{arith}
use lib.ListN.{get_or, take}
use lib.Dec.{eqb}
use borrow.Author.Tests.{eqb-true, eq-eqb}
use Rattle.std.specs.Prelude.{Option, None, Some}
use Rattle.std.specs.Option.{option_eq}
use Rattle.meaning.specs.Answers.{Answer, is}
use Rattle.meaning.specs.Bits.{opens, as_bit, bits_of}
use Rattle.meaning.specs.Plain.{side, plain_rank, plain_select, plain_pred, plain_succ}
use Rattle.meaning.specs.Nearest.{IsSelect}
use Rattle.meaning.proofs.If.{clash, bit}
use Rattle.meaning.proofs.Plain.{select_only}
use Rattle.meaning.proofs.Sought.{ones_next, select_has, pred_select, succ_select, succ_here}
use Rattle.meaning.proofs.BitString.{marks_upto}
use Rattle.refusal.specs.Said.{only_found}

module _ (l : List Bool) (i : ℕ) where
  -- select of the rank finds the place itself, and then there is a one
  one_there : is i ≡ plain_select l (opens (take (suc i) l)) → get_or l i false ≡ true
  unfolding IsSelect
  one_there e = (subst (IsSelect l (opens (take (suc i) l))) (sym e) (select_has l (opens (take (suc i) l)))).0

  -- or it does not, and there is none
  none_there : (is i ≡ plain_select l (opens (take (suc i) l)) → ⊥) → get_or l i false ≡ false
  unfolding IsSelect
  none_there h = go (bit (get_or l i false))
    where
      go : (get_or l i false ≡ true) ⊎ (get_or l i false ≡ false) → get_or l i false ≡ false
      go (inl t) = absurd (h (select_only l (opens (take (suc i) l)) (is i) (t, omega (arith, ones_next l i, ap as_bit t))))
      go (inr z) = z

  module _ (k : ℕ) (r : k ≡ opens (take (i + 1) l)) where
    rank : k ≡ opens (take (suc i) l)
    rank = r ∙ ap (λ j. opens (take j l)) (add-one i)

    -- what select of the rank finds, and whether it is the place itself
    module _ (s : Option ℕ) (q : only_found s ≡ plain_select l k) (t : Bool) (e : t ≡ option_eq eqb s (Some i)) where
      found : only_found s ≡ plain_select l (opens (take (suc i) l))
      found = q ∙ ap (plain_select l) rank

      same : (o : Option ℕ) → option_eq eqb o (Some i) ≡ true → is i ≡ only_found o
      same (Some j) h = ap is (sym (eqb-true j i h))
      same None h = absurd cc

      other : (o : Option ℕ) → option_eq eqb o (Some i) ≡ false → is i ≡ only_found o → ⊥
      other (Some j) h p = let z : i ≡ j = cc in absurd (clash (eq-eqb j i (sym z)) h)
      other None h p = absurd cc

      pub naive_here : t ≡ true → only_found s ≡ plain_succ l i
      naive_here h = let p = same s (sym e ∙ h) in sym p ∙ succ_here l i (one_there (p ∙ found))

      still : t ≡ false → opens (take (suc i) l) ≡ opens (take i l)
      still h = omega (arith, ones_next l i, ap as_bit (none_there (λ p. other s (sym e ∙ h) (p ∙ sym found))))

      -- one more than the rank is no more than the places
      pub naive_few : t ≡ false → k ≡ opens (take i l)
      naive_few h = rank ∙ still h

      pub naive_next : t ≡ false → (a : Answer ℕ) → a ≡ plain_select l (k + 1) → a ≡ plain_succ l i
      naive_next h a p =
          let u : k + 1 ≡ suc (opens (take i l)) = omega (arith, naive_few h) in
          p ∙ ap (plain_select l) u ∙ succ_select l i

-- the rank counts no place past the length.
pub naive_pred : (b : Bool) (ws : List ℕ) (n i k m : ℕ) → m ≡ min (i + 1) n → k ≡ opens (take m (side b (bits_of ws n)))
    → (a : Answer ℕ) → a ≡ plain_select (side b (bits_of ws n)) k → a ≡ plain_pred (side b (bits_of ws n)) i
unfolding plain_rank
naive_pred b ws n i k m p r a q =
    let l : List Bool = side b (bits_of ws n) in
    let u : k ≡ opens (take (suc i) l) = r ∙ ap (λ j. opens (take j l)) p ∙ marks_upto b ws n (i + 1) ∙ ap (λ j. opens (take j l)) (add-one i) in
    q ∙ ap (plain_select l) u ∙ pred_select l i
