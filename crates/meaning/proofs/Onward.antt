-- One step of the walk as an operation, on any record of counts and any content of the areas.
use mathlib.Core.Path.{◌≡◌, refl, ap, ◌∙◌}
use mathlib.Core.Bool.{Bool, true, false}
use mathlib.Core.List.{List, [], ◌∷◌}
use Prim.Native.Nat.{ℕ, zero, suc, pred, ◌^◌, ◌≤◌, ◌<◌}
use native.Mathlib.Omega.{arith}
use lib.Dec.{ltb}
use lib.ListN.{length}
use borrow.Author.Tests.{lt-ltb, le-ltb}
use Rattle.meaning.specs.Answers.{Refusal, Answer, is, nothing, refused, broken, provided}
use Rattle.meaning.specs.Child.{Node}
use Rattle.meaning.specs.Walk.{Told}
use Rattle.meaning.specs.Build.{Tree, Lent}
use Rattle.meaning.specs.Questions.{Edge, first_child, next_sibling}
use Rattle.meaning.specs.Walking.{Step, step_to, or_else, back_by, onward_by, told_first, telling, walk_by}

or_else_length : (ns : List Node) (k : ℕ) (e : Answer Edge) (x : Answer Step) (s : Step) → or_else ns e x ≡ is s → suc (length ns) ≤ k
    → (x ≡ is s → length s.path ≤ k) → length s.path ≤ k
unfolding or_else step_to
or_else_length ns k (is e) x s h l f = let p : e.node ∷ ns ≡ s.path = cc in omega (arith, ap length p)
or_else_length ns k nothing x s h l f = f h
or_else_length ns k (refused r) x s h l f = let z : ◌≡◌ {A = ℕ} 0 1 = cc in absurd (omega arith)

module _ (t : Tree) (a : Lent) where
  pub back_length : (ns : List Node) (s : Step) → back_by t a ns ≡ is s → length s.path ≤ length ns
  unfolding back_by
  back_length [] s e = let z : ◌≡◌ {A = ℕ} 0 1 = cc in absurd (omega arith)
  back_length (n ∷ ns) s e =
      or_else_length ns (suc (length ns)) (next_sibling t a n) (back_by t a ns) s e (omega arith) (λ h. omega (arith, back_length ns s h))

  -- a step makes a path longer by one node at most
  pub onward_length : (ns : List Node) (s : Step) → onward_by t a ns ≡ is s → length s.path ≤ suc (length ns)
  unfolding onward_by
  onward_length [] s e = let z : ◌≡◌ {A = ℕ} 0 1 = cc in absurd (omega arith)
  onward_length (n ∷ ns) s e =
      or_else_length (n ∷ ns) (suc (suc (length ns))) (first_child t a n) (back_by t a (n ∷ ns)) s e (omega arith)
      (λ h. omega (arith, back_length (n ∷ ns) s h))

  pub walk_end : (k : ℕ) (p : List Node) → onward_by t a p ≡ nothing → walk_by t a k p ≡ is []
  unfolding walk_by telling
  walk_end zero p e = ap (λ x. telling x (λ q. refused broken)) e
  walk_end (suc k) p e = ap (λ x. telling x (λ q. walk_by t a k q)) e

  pub walk_refused : (k : ℕ) (p : List Node) (r : Refusal) → onward_by t a p ≡ refused r → walk_by t a k p ≡ refused r
  unfolding walk_by telling
  walk_refused zero p r e = ap (λ x. telling x (λ q. refused broken)) e
  walk_refused (suc k) p r e = ap (λ x. telling x (λ q. walk_by t a k q)) e

  module _ (n : Node) (ns : List Node) (b : ℕ) where
    provided_broken : (x : Answer (List Told)) → 2 ^ 32 < length ns → provided (ltb (pred (length ns)) (2 ^ 32)) broken x ≡ refused broken
    unfolding provided
    provided_broken x h = ap (λ y. provided y broken x) (le-ltb (pred (length ns)) (2 ^ 32) (omega arith))

    -- a level past 2^32 - 1
    pub walk_deep : (k : ℕ) (p : List Node) → onward_by t a p ≡ is (record { path = n ∷ ns; label = b }) → 2 ^ 32 < length ns → walk_by t a k p ≡ refused broken
    unfolding walk_by telling
    walk_deep zero p e h = ap (λ x. telling x (λ q. refused broken)) e ∙ provided_broken (told_first n ns b (refused broken)) h
    walk_deep (suc k) p e h = ap (λ x. telling x (λ q. walk_by t a k q)) e ∙ provided_broken (told_first n ns b (walk_by t a k (n ∷ ns))) h

    -- a node more than the record counts
    pub walk_many : (p : List Node) → onward_by t a p ≡ is (record { path = n ∷ ns; label = b }) → walk_by t a 0 p ≡ refused broken
    unfolding walk_by telling told_first provided
    walk_many p e = ap (λ x. telling x (λ q. refused broken)) e ∙ either (ltb (pred (length ns)) (2 ^ 32))
      where
        either : (y : Bool) → ◌≡◌ {A = Answer (List Told)} (provided y broken (refused broken)) (refused broken)
        either true = refl
        either false = refl

    pub walk_on : (k : ℕ) (p : List Node) → onward_by t a p ≡ is (record { path = n ∷ ns; label = b }) → length ns ≤ 2 ^ 32
        → walk_by t a (suc k) p ≡ told_first n ns b (walk_by t a k (n ∷ ns))
    unfolding walk_by telling provided
    walk_on k p e h =
        ap (λ x. telling x (λ q. walk_by t a k q)) e
        ∙ ap (λ y. provided y broken (told_first n ns b (walk_by t a k (n ∷ ns)))) (lt-ltb (pred (length ns)) (2 ^ 32) (omega arith))
