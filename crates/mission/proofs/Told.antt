-- What a definition of an outcome may refuse, step by step.
use mathlib.Core.Path.{◌≡◌, refl, sym, subst}
use mathlib.Core.Bool.{Bool, true, false}
use mathlib.Core.Option.{Option, none, some}
use mathlib.Core.Logic.{inl}
use mathlib.Core.List.{List, [], ◌∷◌}
use Prim.Native.Nat.{ℕ}
use native.Mathlib.Omega.{arith}
use Rattle.meaning.specs.Answers.{Refusal, Answer, is, refused, broken, provided, or_broken}
use Rattle.meaning.specs.Refusals.{check, first_of, level_rule, full_at}
use Rattle.mission.specs.Numbered as numbered
use Rattle.mission.specs.Numbered.{Numbered}
use Rattle.mission.specs.FirstDemand.{Told, value, none_found, refusal_of, Broken}

-- a refusal with a number, of those that R lets a call give
pub record Given (R : Refusal → Type 0) (r : Refusal) : Type 0 where
  pub has_number : Numbered r
  pub of_these : R r

abbrev pub given : {R : Refusal → Type 0} {r : Refusal} → Numbered r → R r → Given R r
given n h = record { has_number = n; of_these = h }

module _ {A : Type 0} {R : Refusal → Type 0} where
  pub told_as : {x d : Answer A} → x ≡ d → Told R d → Told R x
  told_as e t = subst (Told R) (sym e) t

  pub refused_told : {q : Refusal} → Given R q → Told {A = A} R (refused q)
  refused_told g = refusal_of g.has_number g.of_these

  pub if_told : (b : Bool) {x y : Answer A} → Told R x → Told R y → Told {A = A} R (elim b [ true ↦ x | false ↦ y ])
  if_told true t u = t
  if_told false t u = u

  pub provided_told : (b : Bool) {q : Refusal} {x : Answer A} → Given R q → Told R x → Told R (provided b q x)
  unfolding provided
  provided_told true g t = t
  provided_told false g t = refused_told g

  pub or_broken_told : Given R broken → (o : Option A) → Told R (or_broken o)
  unfolding or_broken
  or_broken_told g none = refused_told g
  or_broken_told g (some v) = value v

-- of fewer refusals
pub widen : {A : Type 0} {R S : Refusal → Type 0} → ((r : Refusal) → R r → S r) → {x : Answer A} → Told R x → Told S x
widen f (value v) = value v
widen f none_found = none_found
widen f (refusal_of n h) = refusal_of n (f _ h)

-- what a check refuses, if it refuses
pub data Refuses (P : Refusal → Type 0) : Option Refusal → Type 0 where
  passes : Refuses P none
  refuses : {r : Refusal} → P r → Refuses P (some r)

pub data AllRefuse (P : Refusal → Type 0) : List (Option Refusal) → Type 0 where
  no_more : AllRefuse P []
  then : {o : Option Refusal} {os : List (Option Refusal)} → Refuses P o → AllRefuse P os → AllRefuse P (o ∷ os)

module _ {P : Refusal → Type 0} where
  pub first_refuses : {os : List (Option Refusal)} → AllRefuse P os → Refuses P (first_of os)
  unfolding first_of
  first_refuses no_more = passes
  first_refuses (then passes os) = first_refuses os
  first_refuses (then (refuses p) os) = refuses p

  pub check_refuses : (b : Bool) (n : ℕ) (l : List ℕ) → P (record { number = n; carries = l }) → Refuses P (check b n l)
  unfolding check
  check_refuses true n l p = passes
  check_refuses false n l p = refuses p

  pub level_refuses : ((k : ℕ) → P (record { number = 3; carries = k ∷ [] })) → (o : Option ℕ) → Refuses P (level_rule o)
  unfolding level_rule
  level_refuses p none = passes
  level_refuses p (some k) = refuses (p k)

  pub full_at_refuses : (v : ℕ) (o : Option ℕ) {r : Option Refusal} → ((b : ℕ) → P (record { number = 5; carries = v ∷ b ∷ [] })) → Refuses P r
      → Refuses P (full_at v o r)
  unfolding full_at
  full_at_refuses v none p q = q
  full_at_refuses v (some b) p q = refuses (p b)

  pub refuses_some : {o : Option Refusal} → Refuses P o → (r : Refusal) → o ≡ some r → P r
  refuses_some {o} h r e = given_some (subst (Refuses P) e h)
    where
      given_some : {r : Refusal} → Refuses P (some r) → P r
      given_some (refuses p) = p

pub option_told : {A : Type 0} {R : Refusal → Type 0} {o : Option Refusal} {x : Answer A} → Refuses (Given R) o → Told R x
    → Told {A = A} R (elim o [ none ↦ x | some r ↦ refused r ])
option_told passes t = t
option_told (refuses g) t = refused_told g

pub only_broken : Given Broken broken
only_broken = given numbered.broken (inl refl)

-- what is told, and what is left where it refuses
pub record Sound {A L : Type 0} (R : Refusal → Type 0) (unmade : L) (x : Answer A) (left : L) : Type 0 where
  pub told : Told R x
  pub refuses : (r : Refusal) → x ≡ refused r → left ≡ unmade

pub answered : {A L : Type 0} {R : Refusal → Type 0} {unmade : L} (v : A) (left : L) → Sound R unmade (is v) left
answered {A} v left = record { told = value v; refuses = λ r e. absurd (not_refused e) }
  where
    not_refused : {v : A} {r : Refusal} → ◌≡◌ {A = Answer A} (is v) (refused r) → ⊥
    not_refused e = let z : ◌≡◌ {A = ℕ} 0 1 = cc in omega arith

pub unmade_sound : {A L : Type 0} {R : Refusal → Type 0} {r : Refusal} (unmade : L) → Given R r → Sound {A = A} R unmade (refused r) unmade
unmade_sound unmade g = record { told = refused_told g; refuses = λ r e. refl }
