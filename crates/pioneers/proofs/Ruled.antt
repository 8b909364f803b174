-- The list rule, one level at a time.
use mathlib.Core.Path.{◌≡◌, refl, sym, ap, ◌∙◌}
use mathlib.Core.Option.{Option, none, some}
use mathlib.Core.List.{List, ◌∷◌}
use Prim.Native.Nat.{ℕ, suc, ◌+◌, ◌≤◌, ◌<◌}
use native.Mathlib.Numerals.{add-one}
use lib.ListN.{length, get_or, drop, drop_of_length-le}
use lib.Seq.{drop-cons}
use borrow.Author.Tests.{le-leb, lt-leb}
use Rattle.meaning.specs.List.{offending_from, offending, Rule}
use Rattle.meaning.proofs.Offending.{offending_none}
use Rattle.pioneers.specs.Placed.{rule_of}
use Rattle.std.specs.Prelude.{Ok, Err}
use Rattle.refusal.specs.declared.Refusal.{Refusal}
use Rattle.refusal.specs.declared.Refusal.TheVariants.{Level}

module _ (vs : List ℕ) (i most v : ℕ) (inv : offending_from i most (drop i vs) ≡ offending vs) (h : i < length vs) (e : v ≡ get_or vs i 0) where
  at : drop i vs ≡ v ∷ drop (suc i) vs
  at = drop-cons vs i 0 h ∙ ap (λ (x : ℕ). x ∷ drop (suc i) vs) (sym e)

  pub off_next : v ≤ most → offending_from (i + 1) (v + 1) (drop (i + 1) vs) ≡ offending vs
  unfolding offending_from
  off_next l = rw (add-one i, add-one v) (sym (ap (offending_from i most) at ∙ step) ∙ inv)
    where
      step : offending_from i most (v ∷ drop (suc i) vs) ≡ offending_from (suc i) (suc v) (drop (suc i) vs)
      step = rw (le-leb v most l, offending_from)

  pub off_here : most < v → some i ≡ offending vs
  unfolding offending_from
  off_here l = sym (ap (offending_from i most) at ∙ step) ∙ inv
    where
      step : offending_from i most (v ∷ drop (suc i) vs) ≡ some i
      step = rw (lt-leb v most l, offending_from)

pub off_none : (vs : List ℕ) (i most : ℕ) → offending_from i most (drop i vs) ≡ offending vs → length vs ≤ i → none ≡ offending vs
unfolding offending_from
off_none vs i most inv h = sym (ap (offending_from i most) (drop_of_length-le vs h)) ∙ inv

-- the rule's answer, and what it was made of
pub kept_none : (o : Option ℕ) → Ok tt ≡ rule_of o → o ≡ none
kept_none none e = refl
kept_none (some k) e = absurd cc

pub broken_some : (r : Refusal) (o : Option ℕ) → Err r ≡ rule_of o → (k : ℕ) × (o ≡ some k) × (r ≡ Level k)
broken_some r none e = absurd cc
broken_some r (some k) e = (k, refl, cc)

pub rule_of_lem : (vs : List ℕ) → Ok tt ≡ rule_of (offending vs) → Rule vs
rule_of_lem vs e = (offending_none vs).0 (kept_none (offending vs) e)
