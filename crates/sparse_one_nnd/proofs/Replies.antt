-- What a `?` and an `ok_or` answer.
use mathlib.Core.Path.{◌≡◌, refl, sym, ap, ◌∙◌}
use mathlib.Core.Bool.{true, false}
use mathlib.Core.List.{List}
use Prim.Native.Nat.{ℕ, ◌^◌, ◌≤◌, ◌<◌}
use native.Mathlib.Omega.{arith}
use lib.Dec.{eqb}
use lib.ListN.{length, get_or}
use borrow.Author.Tests.{eq-eqb}
use denote.Bor.{Bor}
use Rattle.std.specs.Prelude.{◌⊎◌, slice_range, Option, None, Some, Result, Ok, Err, ok_or}
use Rattle.std.proofs.lemmas.Bool.{eqb-true}
use Rattle.std.specs.Option.{SomeIff, option_eq}
use Rattle.std.specs.Result.{IsErrAnd}
use Rattle.std.specs.Slice.{IsItemAt, IsGetRangeResult}
use Rattle.std.proofs.Math.Option as maybe
use Rattle.meaning.specs.Answers.{or_broken}
use Rattle.meaning.specs.Dictionary.{limit}
use Rattle.refusal.specs.Said.{said_number, option_of}
use Rattle.refusal.specs.declared.Refusal.{Refusal}
use Rattle.refusal.specs.declared.Refusal.TheVariants.{Broken}
use Rattle.sparse_one_nnd.proofs.Ranks.{limit_is, limit_over}

-- nothing is BROKEN
pub said_or : (r : Option ℕ) (o : maybe.Option ℕ) → option_of r ≡ o → said_number (ok_or r Broken) ≡ or_broken o
unfolding or_broken
said_or r o e = go r ∙ ap or_broken e
  where
    go : (r : Option ℕ) → said_number (ok_or r Broken) ≡ or_broken (option_of r)
    go (Some x) = refl
    go None = refl

-- a refusal that a `?` passes on
pub passed_on : {A : Type 0} (r : Result A Refusal) (x : Refusal) → IsErrAnd r (λ y. y ≡ x) → r ≡ Err x
passed_on (Ok z) x h = absurd h
passed_on (Err y) x h = ap Err h

-- one that an `ok_or` made of nothing
pub broken_of : {A B : Type 0} (r : Option A) (k : Result B Refusal) (x : Refusal) → Err x ≡ ok_or r Broken → IsErrAnd k (λ y. y ≡ x) → (r ≡ None) × (k ≡ Err Broken)
broken_of (Some z) k x e h = absurd cc
broken_of None k x e h = let q : x ≡ Broken = cc in (refl, passed_on k x h ∙ ap Err q)

-- a value that it let through
pub value_of : {A : Type 0} (r : Option A) (x : A) → Ok x ≡ ok_or r Broken → r ≡ Some x
value_of (Some y) x e = let q : x ≡ y = cc in ap Some (sym q)
value_of None x e = absurd cc

-- an element that is there, or not
module _ (B : List ℕ) (i : ℕ) (r : Option (Bor ℕ)) (h : IsItemAt B i r) where
  pub item_none : r ≡ None → length B ≤ i
  item_none e = go r h e
    where
      go : (r : Option (Bor ℕ)) → IsItemAt B i r → r ≡ None → length B ≤ i
      go None h e = h.3
      go (Some x) h e = absurd cc

  pub item_some : (x : Bor ℕ) → r ≡ Some x → (i < length B) × (x.now ≡ get_or B i 0)
  item_some x e = go r h e
    where
      go : (r : Option (Bor ℕ)) → IsItemAt B i r → r ≡ Some x → (i < length B) × (x.now ≡ get_or B i 0)
      go None h e = absurd cc
      go (Some y) h e = let q : y ≡ x = cc in (h.3.0, ap (λ (y : Bor ℕ). y.now) (sym q) ∙ h.4 (omega arith) 0)

-- a number that does not overflow, and one that does
pub sum_over : (n : ℕ) → (n < 2 ^ 64 → ⊥) → maybe.none ≡ limit (maybe.some n)
unfolding limit
sum_over n h = sym (limit_over (maybe.some n) (λ k e. let q : n ≡ k = cc in omega arith))

pub sum_is : (n m : ℕ) → n < 2 ^ 64 → m ≡ n → maybe.some m ≡ limit (maybe.some n)
sum_is n m h e = ap maybe.some e ∙ sym (limit_is n h)

pub sum_or : (r : Option ℕ) (m n : ℕ) → SomeIff r (m < 2 ^ 64) m → m ≡ n → option_of r ≡ limit (maybe.some n)
sum_or r m n h e = go r h ∙ ap (λ (n : ℕ). limit (maybe.some n)) e
  where
    go : (r : Option ℕ) → SomeIff r (m < 2 ^ 64) m → option_of r ≡ limit (maybe.some m)
    go None h = sum_over m h
    go (Some x) h = sum_is m x h.0 h.1

-- what is from a place on, or not
module _ (B : List ℕ) (i : ℕ) (r : Option (Bor (List ℕ))) (h : IsGetRangeResult B i (length B) r) where
  pub part_none : r ≡ None → (length B < i) ⊎ (length B < length B)
  part_none e = go r h e
    where
      go : (r : Option (Bor (List ℕ))) → IsGetRangeResult B i (length B) r → r ≡ None → (length B < i) ⊎ (length B < length B)
      go None h e = h.0
      go (Some x) h e = absurd cc

  pub part_some : (x : Bor (List ℕ)) → r ≡ Some x → (i ≤ length B) × (x.now ≡ slice_range B i (length B))
  part_some x e = go r h e
    where
      go : (r : Option (Bor (List ℕ))) → IsGetRangeResult B i (length B) r → r ≡ Some x → (i ≤ length B) × (x.now ≡ slice_range B i (length B))
      go None h e = absurd cc
      go (Some y) h e = let q : y ≡ x = cc in (h.0.0, ap (λ (y : Bor (List ℕ)). y.now) (sym q) ∙ h.0.2)

-- a checked sum that gave nothing, and one that gave a value
pub over_of : (P : Type 0) (v : ℕ) (r : Option ℕ) → SomeIff r P v → r ≡ None → P → ⊥
over_of P v None h e = h
over_of P v (Some x) h e = absurd cc

pub sum_of : (P : Type 0) (v : ℕ) (r : Option ℕ) (x : ℕ) → SomeIff r P v → r ≡ Some x → P × (x ≡ v)
sum_of P v None x h e = absurd cc
sum_of P v (Some y) x h e = let q : y ≡ x = cc in (h.0, sym q ∙ h.1)

-- whether it is the place
pub is_place : (o : Option ℕ) (x : ℕ) → true ≡ option_eq eqb o (Some x) → o ≡ Some x
is_place None x e = absurd cc
is_place (Some i) x e = ap Some (eqb-true i x (sym e))

pub not_place : (o : Option ℕ) (x : ℕ) → false ≡ option_eq eqb o (Some x) → o ≡ Some x → ⊥
not_place None x e f = absurd cc
not_place (Some i) x e f = let q : i ≡ x = cc in let r : eqb i x ≡ true = eq-eqb i x q in cc
