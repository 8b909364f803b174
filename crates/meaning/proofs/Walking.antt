-- THE END of the walk: over the areas that a build leaves it meets every node of the list, with its level and its label.
use mathlib.Core.Path.{◌≡◌, refl, sym, ap, ◌∙◌, subst}
use mathlib.Core.Bool.{Bool}
use mathlib.Core.Option.{Option, none, some}
use mathlib.Core.List.{List, [], ◌∷◌, map, append-nil}
use Prim.Native.Nat.{ℕ, zero, suc, pred, ◌+◌, ◌*◌, ◌^◌, ◌≤◌}
use native.Mathlib.Omega.{arith}
use lib.ListN.{length, get_or, replicate, length-map}
use borrow.Author.Tests.{le-leb}
use Rattle.meaning.specs.Answers.{Answer, is, nothing}
use Rattle.meaning.specs.String.{string}
use Rattle.meaning.specs.Child.{Node, root, child}
use Rattle.meaning.specs.Sibling.{next}
use Rattle.meaning.specs.Walk.{plain, back, onward, visits, tell, Tells, visited}
use Rattle.meaning.specs.Areas.{Rooms, filled}
use Rattle.meaning.specs.Refusals.{Accepted}
use Rattle.meaning.specs.Build.{Tree, Lent, tree_of, lent_of}
use Rattle.meaning.specs.Questions.{edge_of}
use Rattle.meaning.specs.Walking.{Step, step_to, or_else, back_by, onward_by, told_first, walk_by, WalkRooms, Walked, walk_refusal, walked_by, walking}
use Rattle.meaning.proofs.If.{if_none}
use Rattle.meaning.proofs.Accepted.{check_true, done, and, all_none}
use Rattle.meaning.proofs.Walk.{back_some, back_none, onward_child, onward_back, visits_more, visits_end, walk_from, visited_tells}
use Rattle.meaning.proofs.WalkBy.{AllNodes, onward_nodes}
use Rattle.meaning.proofs.Kin.{root_kin}
use Rattle.meaning.proofs.Questions.{first_child_lem, next_sibling_lem}
use Rattle.meaning.proofs.Lent.{counts_fit_lem}
use Rattle.meaning.proofs.Onward.{onward_length, walk_end, walk_on}

length_visited : (i : ℕ) (vs : List ℕ) → length (visited i vs) ≡ length vs
unfolding visited
length_visited i [] = refl
length_visited i (v ∷ vs) = ap suc (length_visited (suc i) vs)

module _ (vs bs : List ℕ) (rooms : Rooms) (a : Accepted vs bs rooms) where
  abbrev T : Tree
  T = tree_of vs

  abbrev A : Lent
  A = lent_of vs bs rooms

  abbrev S : List Bool
  S = string vs

  -- the step to the first node of a path, with its label
  step_of : List Node → Answer Step
  step_of [] = nothing
  step_of (n ∷ ns) = is (record { path = n ∷ ns; label = get_or bs (pred n.id) 0 })

  back_by_lem : (ns : List Node) → AllNodes S ns → back_by T A ns ≡ step_of (back (plain S) ns)
  unfolding back_by back AllNodes step_of or_else step_to edge_of
  back_by_lem [] o = refl
  back_by_lem (n ∷ ns) o = go (next S n) refl (back_by_lem ns o.1)
    where
      go : (x : Option Node) → next S n ≡ x → back_by T A ns ≡ step_of (back (plain S) ns) → back_by T A (n ∷ ns) ≡ step_of (back (plain S) (n ∷ ns))
      go (some m) e ih =
          ap (λ x. or_else ns x (back_by T A ns)) (next_sibling_lem vs bs rooms a n o.0 ∙ ap (edge_of bs) e) ∙ ap step_of (sym (back_some (plain S) n m ns e))
      go none e ih =
          ap (λ x. or_else ns x (back_by T A ns)) (next_sibling_lem vs bs rooms a n o.0 ∙ ap (edge_of bs) e)
          ∙ ih ∙ ap step_of (sym (back_none (plain S) n ns e))

  onward_by_lem : (ns : List Node) → AllNodes S ns → onward_by T A ns ≡ step_of (onward (plain S) ns)
  unfolding onward_by onward AllNodes step_of or_else step_to edge_of
  onward_by_lem [] o = refl
  onward_by_lem (n ∷ ns) o = go (child S n) refl
    where
      go : (x : Option Node) → child S n ≡ x → onward_by T A (n ∷ ns) ≡ step_of (onward (plain S) (n ∷ ns))
      go (some m) e =
          ap (λ x. or_else (n ∷ ns) x (back_by T A (n ∷ ns))) (first_child_lem vs bs rooms a n o.0 ∙ ap (edge_of bs) e)
          ∙ ap step_of (sym (onward_child (plain S) n m ns e))
      go none e =
          ap (λ x. or_else (n ∷ ns) x (back_by T A (n ∷ ns))) (first_child_lem vs bs rooms a n o.0 ∙ ap (edge_of bs) e)
          ∙ back_by_lem (n ∷ ns) o ∙ ap step_of (sym (onward_back (plain S) n ns e))

  -- a walk that k nodes end
  walk_by_steps : (k : ℕ) (p : List Node) → AllNodes S p → length (visits (plain S) (suc k) p) ≤ k → k + length p ≤ 2 ^ 32
      → walk_by T A k p ≡ is (tell bs (visits (plain S) k p))
  unfolding step_of visits tell told_first
  walk_by_steps zero p o h d = go (onward (plain S) p) refl
    where
      go : (q : List Node) → onward (plain S) p ≡ q → walk_by T A zero p ≡ is (tell bs (visits (plain S) zero p))
      go [] e = walk_end T A zero p (onward_by_lem p o ∙ ap step_of e)
      go (m ∷ ms) e = absurd (omega (arith, ap length (visits_more (plain S) zero p m ms e)))
  walk_by_steps (suc k) p o h d = go (onward (plain S) p) refl (walk_by_steps k)
    where
      go : (q : List Node) → onward (plain S) p ≡ q
          → ((r : List Node) → AllNodes S r → length (visits (plain S) (suc k) r) ≤ k → k + length r ≤ 2 ^ 32 → walk_by T A k r ≡ is (tell bs (visits (plain S) k r)))
          → walk_by T A (suc k) p ≡ is (tell bs (visits (plain S) (suc k) p))
      go [] e ih = walk_end T A (suc k) p (onward_by_lem p o ∙ ap step_of e) ∙ ap (λ v. is (tell bs v)) (sym (visits_end (plain S) (suc k) p e))
      go (m ∷ ms) e ih =
          let b = get_or bs (pred m.id) 0 in
          let f : onward_by T A p ≡ is (record { path = m ∷ ms; label = b }) = onward_by_lem p o ∙ ap step_of e in
          let l : suc (length ms) ≤ suc (length p) = onward_length T A p (record { path = m ∷ ms; label = b }) f in
          walk_on T A m ms b k p f (omega arith)
          ∙ ap (told_first m ms b)
          (ih (m ∷ ms) (subst (AllNodes S) e (onward_nodes vs a.rule (plain S) (record { kid = λ n i. refl; sib = λ n i. refl }) p o))
          (omega (arith, ap length (visits_more (plain S) (suc k) p m ms e))) (omega arith))
          ∙ ap (λ v. is (tell bs v)) (sym (visits_more (plain S) k p m ms e))

  -- what is told is the list
  pub walk_told : walk_by T A (length vs) (root ∷ []) ≡ is (tell bs (visited 1 vs))
  unfolding AllNodes
  walk_told =
      walk_by_steps (length vs) (root ∷ []) ((root_kin vs a.rule).is, tt)
      (omega (arith, ap length (walk_from vs a.rule (suc (length vs)) (omega arith)), length_visited 1 vs)) (omega (arith, a.few))
      ∙ ap (λ v. is (tell bs v)) (walk_from vs a.rule (length vs) (omega arith))

  pub told_tells : Tells vs bs (tell bs (visited 1 vs))
  told_tells = subst (λ l. Tells vs bs (tell l (visited 1 vs))) (append-nil bs) (visited_tells vs bs [] a.same)

  -- "walking the built tree returns exactly the levels and labels it was built from"
  pub walk_returns : (w : WalkRooms) → 2 * length vs + 2 ≤ w.scratch → length vs ≤ w.levels → length vs ≤ w.labels
      → walking T A w
      ≡ record {
        answer = is (length vs);
        levels = filled w.levels vs;
        labels = filled w.labels bs;
        scratch = replicate w.scratch 0;
      }
  unfolding walking walk_refusal walked_by tree_of
  walk_returns w h i j =
      if_none _ _
      (all_none
      (and (check_true _ _ (counts_fit_lem vs bs rooms a))
      (and (check_true _ _ (le-leb _ _ h))
      (and (check_true _ _ (le-leb _ _ i))
      (and (check_true _ _ (le-leb _ _ j))
      done)))))
      ∙ ap (walked_by w) walk_told
      ∙ lists (length (tell bs (visited 1 vs))) (map (λ x. x.level) (tell bs (visited 1 vs))) (map (λ x. x.label) (tell bs (visited 1 vs)))
      (sym (length-map (tell bs (visited 1 vs)) (λ x. x.level)) ∙ ap length told_tells.levels) told_tells.levels told_tells.labels
    where
      lists : (n : ℕ) (x y : List ℕ) → n ≡ length vs → x ≡ vs → y ≡ bs
          → ◌≡◌ {A = Walked} (record { answer = is n; levels = filled w.levels x; labels = filled w.labels y; scratch = replicate w.scratch 0 })
          (record { answer = is (length vs); levels = filled w.levels vs; labels = filled w.labels bs; scratch = replicate w.scratch 0 })
      lists n x y e f g = cc
