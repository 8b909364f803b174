-- Over a dictionary of a string, select, pred and succ by the steps find what they mean.
use mathlib.Core.Path.{◌≡◌, refl, sym, ap, ◌∙◌, subst}
use mathlib.Core.Bool.{Bool, true, false}
use mathlib.Core.Logic.{◌⊎◌, inl, inr}
use mathlib.Core.List.{List}
use Prim.Native.Nat.{ℕ, zero, suc, ◌^◌, ◌≤◌, ◌<◌}
use native.Mathlib.Omega.{arith}
use lib.ListN.{length, get_or, take}
use borrow.Author.Tests.{eq-eqb, ne_eqb, lt-ltb}
use Rattle.meaning.specs.Answers.{Answer, is, nothing, refused}
use Rattle.meaning.specs.Bits.{opens, as_bit}
use Rattle.meaning.specs.Plain.{plain_select, plain_pred, plain_succ}
use Rattle.meaning.specs.Dictionary.{dict_of, select_of, pred_of, select_next, succ_by, succ_of}
use Rattle.meaning.specs.Nearest.{IsSelect, IsPred, IsSucc}
use Rattle.meaning.proofs.If.{clash, bit, if_true, if_false}
use Rattle.meaning.proofs.Tab.{opens_take, opens_closes}
use Rattle.meaning.proofs.Depth.{O}
use Rattle.meaning.proofs.Count.{O-true}
use Rattle.meaning.proofs.Plain.{select_only, pred_only, succ_only}
use Rattle.meaning.proofs.Sought.{ones_next, select_has, as_pred, as_succ}
use Rattle.meaning.proofs.Rank.{rank_of_lem}
use Rattle.meaning.proofs.Select.{select_of_lem, select_at}

module _ (l : List Bool) (small : length l < 2 ^ 64) where
  pub select_is : (r : ℕ) → IsSelect l r (select_of (dict_of l) r)
  unfolding select_of plain_select
  select_is zero = select_has l 0
  select_is (suc r) = subst (IsSelect l (suc r)) (sym (select_of_lem l r small)) (select_has l (suc r))

  ones : opens l < 2 ^ 64
  ones = omega (arith, opens_closes l)

  total : (k : ℕ) → O l k ≤ opens l
  unfolding O
  total k = opens_take k l

  pub pred_is : (x : ℕ) → IsPred l x (pred_of (dict_of l) x)
  unfolding pred_of O
  pred_is x = subst (IsPred l x) (sym step) (as_pred l x (select_of (dict_of l) (O l (suc x))) (select_is (O l (suc x))))
    where
      step : pred_of (dict_of l) x ≡ select_of (dict_of l) (O l (suc x))
      step = rw (rank_of_lem l x ones, pred_of)

  -- one more than the count does not overflow either
  module _ (room : suc (length l) < 2 ^ 64) (x : ℕ) where
    rank_more : suc (O l (suc x)) < 2 ^ 64
    rank_more = omega (arith, total (suc x), opens_closes l)

    after : get_or l x false ≡ false → (f : Answer ℕ) → IsSelect l (suc (O l (suc x))) f → IsSucc l x f
    unfolding O
    after z f s =
        let e : opens (take (suc x) l) ≡ opens (take x l) = omega (arith, ones_next l x, ap as_bit z) in
        as_succ l x f (subst (λ k. IsSelect l (suc k) f) e s)

    step : succ_of (dict_of l) x ≡ succ_by (dict_of l) x (O l (suc x)) (select_of (dict_of l) (O l (suc x)))
    unfolding succ_of O
    step = rw (rank_of_lem l x ones, succ_of)

    pub succ_is : IsSucc l x (succ_of (dict_of l) x)
    unfolding succ_by select_next IsSelect IsSucc O
    succ_is = go (bit (get_or l x false))
      where
        -- select of the rank does not find x
        other : get_or l x false ≡ false → (f : Answer ℕ) → IsSelect l (O l (suc x)) f → succ_by (dict_of l) x (O l (suc x)) f ≡ select_of (dict_of l) (suc (O l (suc x)))
        other z (is i) s =
            if_false _ _ (ne_eqb i x (λ e. clash s.0 (ap (λ k. get_or l k false) e ∙ z))) ∙ if_true _ _ (lt-ltb _ _ rank_more)
        other z nothing s = if_true _ _ (lt-ltb _ _ rank_more)
        other z (refused e) s = absurd s

        here : get_or l x false ≡ true → succ_by (dict_of l) x (O l (suc x)) (select_of (dict_of l) (O l (suc x))) ≡ is x
        here t =
            ap (λ f. succ_by (dict_of l) x (O l (suc x)) f) (ap (select_of (dict_of l)) (O-true l x t) ∙ select_at l x small t)
            ∙ if_true _ _ (eq-eqb x x refl)

        go : (get_or l x false ≡ true) ⊎ (get_or l x false ≡ false) → IsSucc l x (succ_of (dict_of l) x)
        go (inl t) = subst (IsSucc l x) (sym (step ∙ here t)) (t, omega arith, λ j a b. absurd (omega arith))
        go (inr z) =
            subst (IsSucc l x) (sym (step ∙ other z (select_of (dict_of l) (O l (suc x))) (select_is (O l (suc x)))))
            (after z (select_of (dict_of l) (suc (O l (suc x)))) (select_is (suc (O l (suc x)))))

    -- so each is the plain answer
    pub succ_plain : succ_of (dict_of l) x ≡ plain_succ l x
    succ_plain = succ_only l x (succ_of (dict_of l) x) succ_is

  pub select_plain : (r : ℕ) → select_of (dict_of l) r ≡ plain_select l r
  select_plain r = select_only l r (select_of (dict_of l) r) (select_is r)

  pub pred_plain : (x : ℕ) → pred_of (dict_of l) x ≡ plain_pred l x
  pred_plain x = pred_only l x (pred_of (dict_of l) x) (pred_is x)
