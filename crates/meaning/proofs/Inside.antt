-- What the steps find: a close lies before the length.
use mathlib.Core.Path.{◌≡◌, refl}
use mathlib.Core.Bool.{Bool, true, false}
use mathlib.Core.Option.{Option, none, some}
use mathlib.Core.Logic.{◌⊎◌, inl, inr}
use mathlib.Core.List.{List, [], ◌∷◌}
use Prim.Native.Nat.{ℕ, zero, suc, ◌+◌, ◌*◌, ◌-◌, ◌/◌, ◌%◌, ◌≤◌, ◌<◌}
use native.Mathlib.Omega.{arith}
use lib.Dec.{ltb, eqb}
use lib.ListN.{length, get_or}
use borrow.Author.Tests.{ltb-true}
use Rattle.meaning.specs.Answers.{or_broken}
use Rattle.meaning.specs.Family.{Level}
use Rattle.meaning.specs.Close.{in_word, left_bit, left_from, from_close, and_then, found, test, far_close, close_at}
use Rattle.meaning.specs.Walk.{lowest}

-- the walk to the left ends before its start, or with what it started with
left_inside : (l : List Bool) (s d k e : ℕ) (best : Option ℕ) (j : ℕ) → left_from l s d k e best ≡ some j → (best ≡ some j) ⊎ (j < s + k)
unfolding left_from left_bit
left_inside l s d zero e best j f = inl f
left_inside l s d (suc k) e best j f = go (get_or l (s + k) false) e f (λ e b. left_inside l s d k e b j)
  where
    Ends : Option ℕ → ℕ → Type 0
    Ends b n = (b ≡ some j) ⊎ (j < s + n)

    more : (b : Option ℕ) → Ends b k → Ends b (suc k)
    more b (inl z) = inl z
    more b (inr z) = inr (omega arith)

    here : (b : Bool) → Ends (elim b [ true ↦ some (s + k) | false ↦ best ]) k → Ends best (suc k)
    here true (inl z) = let u : s + k ≡ j = cc in inr (omega arith)
    here true (inr z) = inr (omega arith)
    here false z = more best z

    go : (b : Bool) (e : ℕ) → left_bit l s d k e best b (λ e b. left_from l s d k e b) ≡ some j
        → ((e : ℕ) (b : Option ℕ) → left_from l s d k e b ≡ some j → Ends b k) → Ends best (suc k)
    go false e f ih = here (eqb (suc e) d) (ih (suc e) _ f)
    go true zero f ih = let z : ◌≡◌ {A = ℕ} 0 1 = cc in absurd (omega arith)
    go true (suc e) f ih = more best (ih e best f)

pub from_inside : (l : List Bool) (d c j : ℕ) → from_close l d c ≡ some j → j ≤ c
unfolding from_close
from_inside l zero c j f = let z : c ≡ j = cc in omega arith
from_inside l (suc d) c j f = go (left_inside l (c / 64 * 64) (suc d) (c % 64) 0 none j f)
  where
    go : (◌≡◌ {A = Option ℕ} none (some j)) ⊎ (j < c / 64 * 64 + c % 64) → j ≤ c
    go (inl z) = let u : ◌≡◌ {A = ℕ} 0 1 = cc in absurd (omega arith)
    go (inr z) = omega arith

pub test_some : (b : Bool) (o : Option ℕ) (j : ℕ) → test b o ≡ some j → (b ≡ true) × (o ≡ some j)
unfolding test
test_some true o j e = (refl, e)
test_some false o j e = let u : ◌≡◌ {A = ℕ} 0 1 = cc in absurd (omega arith)

pub test_none : (b : Bool) (i : ℕ) → test b (some i) ≡ none → b ≡ false
unfolding test
test_none true i e = let u : ◌≡◌ {A = ℕ} 0 1 = cc in absurd (omega arith)
test_none false i e = refl

then_some : (o : Option ℕ) (f : ℕ → Option ℕ) (j : ℕ) → and_then o f ≡ some j → (i : ℕ) × (o ≡ some i) × (f i ≡ some j)
unfolding and_then
then_some none f j e = let u : ◌≡◌ {A = ℕ} 0 1 = cc in absurd (omega arith)
then_some (some i) f j e = (i, refl, e)

far_inside : (v : Level) (up : ℕ → Option ℕ) (p j : ℕ) → far_close v up p ≡ some j → j < length v.bits
unfolding far_close
far_inside v up p j e =
    let a = then_some _ _ j e in
    let b = test_some _ _ j a.2 in
    let c = then_some _ _ j b.1 in
    let d = test_some _ _ j c.2 in
    let f = then_some _ _ j d.1 in
    omega (arith, ltb-true c.0 (length v.bits) d.0, from_inside v.bits f.0 c.0 j f.2)

pub close_inside : (t : List Level) (p j : ℕ) → close_at t p ≡ some j → j < length (lowest t)
unfolding close_at lowest
close_inside [] p j e = let u : ◌≡◌ {A = ℕ} 0 1 = cc in absurd (omega arith)
close_inside (v ∷ up) p j e = go (in_word v.bits 0 (suc p) (63 - p % 64)) (test_some (get_or v.bits p false) _ j e).1
  where
    go : (o : Option ℕ)
        → elim o [ some c ↦ test (ltb c (length v.bits)) (some c) | none ↦ far_close v (λ i. close_at up i) p ] ≡ some j
        → j < length v.bits
    go none f = far_inside v (λ i. close_at up i) p j f
    go (some c) f =
        let a = test_some (ltb c (length v.bits)) (some c) j f in
        let u : c ≡ j = cc a.1 in
        omega (arith, ltb-true c (length v.bits) a.0)

-- a step that is found is the step
pub found_or : (o : Option ℕ) → found (or_broken o) ≡ o
unfolding found or_broken
found_or none = refl
found_or (some n) = refl
