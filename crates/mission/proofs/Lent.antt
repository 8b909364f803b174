-- No question looks at scratch, and a walk has its own.
use mathlib.Core.Path.{◌≡◌, refl, ap, ◌∙◌}
use mathlib.Core.Option.{Option, none, some}
use mathlib.Core.List.{List, [], ◌∷◌}
use Prim.Native.Nat.{ℕ, zero, suc, pred, ◌^◌}
use lib.Dec.{ltb}
use lib.ListN.{length}
use Rattle.meaning.specs.Answers.{Answer, is, nothing, refused, broken, provided}
use Rattle.meaning.specs.Child.{Node, root}
use Rattle.meaning.specs.Walk.{Told}
use Rattle.meaning.specs.Build.{Lent, Tree, levels_in}
use Rattle.meaning.specs.Close.{close_at}
use Rattle.meaning.specs.Questions.{counts_fit, at_bit, close_in, node_refusal, label_of, label_in, leaves_by, leaves_below, nodes_in, bytes_held}
use Rattle.meaning.specs.Walking.{Step, or_else, back_by, onward_by, told_first, telling, walk_by, WalkRooms, walk_refusal, unwalked, walked_by, walking}
use Rattle.questions.proofs.Built.{child_lent, sibling_lent}
use Rattle.mission.specs.Allowed.{catalogue}

module _ (t : Tree) (a : Lent) where
  pub close_lent : (p : ℕ) → close_in t (catalogue a) p ≡ close_in t a p
  unfolding close_in at_bit counts_fit
  close_lent p = refl

  back_lent : (p : List Node) → back_by t (catalogue a) p ≡ back_by t a p
  unfolding back_by
  back_lent [] = refl
  back_lent (n ∷ ns) = λ i. or_else ns (sibling_lent t a n i) (back_lent ns i)

  onward_lent : (p : List Node) → onward_by t (catalogue a) p ≡ onward_by t a p
  unfolding onward_by
  onward_lent [] = refl
  onward_lent (n ∷ ns) = λ i. or_else (n ∷ ns) (child_lent t a n i) (back_lent (n ∷ ns) i)

  telling_lent : (s : Answer Step) (f g : List Node → Answer (List Told)) → ((q : List Node) → f q ≡ g q) → telling s f ≡ telling s g
  unfolding telling
  telling_lent nothing f g h = refl
  telling_lent (refused r) f g h = refl
  telling_lent (is s) f g h = go s.path
    where
      go : (p : List Node) → telling (is (record { path = p; label = s.label })) f ≡ telling (is (record { path = p; label = s.label })) g
      go [] = refl
      go (n ∷ ns) = ap (λ x. provided (ltb (pred (length ns)) (2 ^ 32)) broken (told_first n ns s.label x)) (h (n ∷ ns))

  walk_by_lent : (k : ℕ) (p : List Node) → walk_by t (catalogue a) k p ≡ walk_by t a k p
  unfolding walk_by
  walk_by_lent zero p = ap (λ s. telling s (λ q. refused broken)) (onward_lent p)
  walk_by_lent (suc k) p =
      ap (λ s. telling s (λ q. walk_by t (catalogue a) k q)) (onward_lent p)
      ∙ telling_lent (onward_by t a p) (λ q. walk_by t (catalogue a) k q) (λ q. walk_by t a k q) (walk_by_lent k)

  pub walk_lent : (w : WalkRooms) → walking t (catalogue a) w ≡ walking t a w
  unfolding walking walk_refusal counts_fit
  walk_lent w = ap (λ x. elim (walk_refusal t a w) [ none ↦ walked_by w x | some r ↦ unwalked w r ]) (walk_by_lent t.nodes (root ∷ []))

  label_of_lent : (k : ℕ) → label_of t (catalogue a) k ≡ label_of t a k
  unfolding label_of
  label_of_lent zero = refl
  label_of_lent (suc k) = refl

  pub label_lent : (n : Node) → label_in t (catalogue a) n ≡ label_in t a n
  unfolding label_in node_refusal counts_fit
  label_lent n = ap (λ x. elim (node_refusal t a n) [ none ↦ x | some r ↦ refused r ]) (label_of_lent n.id)

  leaves_by_lent : (n : Node) (o : Option ℕ) → leaves_by t (catalogue a) n o ≡ leaves_by t a n o
  unfolding leaves_by
  leaves_by_lent n none = refl
  leaves_by_lent n (some c) = refl

  pub leaves_lent : (n : Node) → leaves_below t (catalogue a) n ≡ leaves_below t a n
  unfolding leaves_below node_refusal counts_fit
  leaves_lent n = ap (λ x. elim (node_refusal t a n) [ none ↦ x | some r ↦ refused r ]) (leaves_by_lent n (close_at (levels_in t a) n.place))

  pub nodes_lent : nodes_in t (catalogue a) ≡ nodes_in t a
  unfolding nodes_in counts_fit
  nodes_lent = refl

  pub size_lent : bytes_held t (catalogue a) ≡ bytes_held t a
  unfolding bytes_held counts_fit
  size_lent = refl
