-- One step over the way back in scratch: the ways out of the loop over it, and of the step.
use mathlib.Core.Path.{◌≡◌, refl, sym, ap, ◌∙◌}
use mathlib.Core.List.{List}
use Prim.Native.Nat.{ℕ, zero, suc, ◌-◌, ◌≤◌, ◌<◌}
use native.Mathlib.Omega.{arith}
use Rattle.meaning.specs.Answers.{Answer, refused}
use Rattle.meaning.specs.Build.{Tree, Lent}
use Rattle.meaning.specs.Questions.{first_child, next_sibling}
use Rattle.meaning.specs.Walking.{step_to, or_else, back_by, onward_by}
use Rattle.meaning.specs.Walking as walking
use Rattle.std.specs.Prelude.{Option, None, Some, Result, Ok, Err}
use Rattle.refusal.specs.declared.Refusal.{Refusal}
use Rattle.refusal.specs.Said.{refusal_of}
use Rattle.questions.specs.declared.Edge.{Edge}
use Rattle.questions.specs.declared.Node.{Node}
use Rattle.questions.specs.Said.{node_of, said_edge}
use Rattle.walk.specs.declared.onward.Step.{Step}
use Rattle.walk.specs.Kept.{node_in, way_in, step_in}
use Rattle.walk.proofs.Paths.{way_first}

-- the way back still to look at
pub record Left (t : Tree) (a : Lent) (s : List ℕ) (n left : ℕ) : Type 0 where
  pub few : left ≤ n
  pub same : back_by t a (way_in s left) ≡ back_by t a (way_in s n)

module _ (t : Tree) (a : Lent) (s : List ℕ) (n : ℕ) where
  pub back_start : Left t a s n n
  back_start = record { few = omega arith; same = refl }

  pub back_none : (left : ℕ) → left ≤ 0 → Left t a s n left → step_in s (Ok None) ≡ back_by t a (way_in s n)
  unfolding back_by way_in
  back_none zero h l = l.same
  back_none (suc k) h l = absurd (omega arith)

  -- the question of the sibling of the first of `left` nodes, m, is answered e
  module _ (left : ℕ) (h : 0 < left) (l : Left t a s n left) (m : Node) (i : node_of m ≡ node_in s (left - 1)) (e : Result (Option Edge) Refusal)
      (q : said_edge e ≡ next_sibling t a (node_of m)) where
    abbrev sibling : Result (Option Edge) Refusal → Answer walking.Step
    sibling x = or_else (way_in s (left - 1)) (said_edge x) (back_by t a (way_in s (left - 1)))

    back_first : sibling e ≡ back_by t a (way_in s n)
    unfolding back_by
    back_first =
        ap (λ x. or_else (way_in s (left - 1)) x (back_by t a (way_in s (left - 1)))) (q ∙ ap (next_sibling t a) i)
        ∙ ap (back_by t a) (sym (way_first s left h))
        ∙ l.same

    pub back_is : (y : Option Edge) (x : Edge) → e ≡ Ok y → y ≡ Some x → step_in s (Ok (Some (record { under = left - 1; edge = x }))) ≡ back_by t a (way_in s n)
    unfolding or_else step_to
    back_is y x f g = ap sibling (sym (f ∙ ap Ok g)) ∙ back_first

    pub back_refused : (r : Refusal) → e ≡ Err r → refused (refusal_of r) ≡ back_by t a (way_in s n)
    unfolding or_else
    back_refused r f = ap sibling (sym f) ∙ back_first

    pub back_on : (y : Option Edge) → e ≡ Ok y → y ≡ None → Left t a s n (left - 1)
    unfolding or_else
    back_on y f g = record { few = omega (arith, l.few); same = ap sibling (sym (f ∙ ap Ok g)) ∙ back_first }

  pub onward_none : n ≡ 0 → step_in s (Ok None) ≡ onward_by t a (way_in s n)
  unfolding onward_by way_in
  onward_none e = ap (λ k. onward_by t a (way_in s k)) (sym e)

  -- the question of the first child of the first of n nodes, m, is answered e
  module _ (h : ¬ (n ≡ 0)) (m : Node) (i : node_of m ≡ node_in s (n - 1)) (e : Result (Option Edge) Refusal) (q : said_edge e ≡ first_child t a (node_of m)) where
    abbrev child : Result (Option Edge) Refusal → Answer walking.Step
    child x = or_else (way_in s n) (said_edge x) (back_by t a (way_in s n))

    onward_first : child e ≡ onward_by t a (way_in s n)
    unfolding onward_by
    onward_first =
        let w = way_first s n (omega arith) in
        ap (λ x. or_else (way_in s n) x (back_by t a (way_in s n))) (q ∙ ap (first_child t a) i)
        ∙ ap (λ p. or_else p (first_child t a (node_in s (n - 1))) (back_by t a p)) w
        ∙ ap (onward_by t a) (sym w)

    pub onward_is : (y : Option Edge) (x : Edge) → e ≡ Ok y → y ≡ Some x → step_in s (Ok (Some (record { under = n; edge = x }))) ≡ onward_by t a (way_in s n)
    unfolding or_else step_to
    onward_is y x f g = ap child (sym (f ∙ ap Ok g)) ∙ onward_first

    pub onward_refused : (r : Refusal) → e ≡ Err r → refused (refusal_of r) ≡ onward_by t a (way_in s n)
    unfolding or_else
    onward_refused r f = ap child (sym f) ∙ onward_first

    pub onward_back : (r : Result (Option Step) Refusal) (y : Option Edge) → e ≡ Ok y → y ≡ None → step_in s r ≡ back_by t a (way_in s n) → step_in s r ≡ onward_by t a (way_in s n)
    unfolding or_else
    onward_back r y f g j = j ∙ ap child (sym (f ∙ ap Ok g)) ∙ onward_first
