-- Growth on any record and any content of the areas: what it answers and leaves, and what that follows from.
use mathlib.Core.Path.{◌≡◌, refl, sym, ap, ◌∙◌}
use mathlib.Core.Bool.{Bool, true, false, ◌&&◌}
use mathlib.Core.Logic.{◌⊎◌, inl, inr}
use mathlib.Core.Option.{Option, none, some}
use mathlib.Core.List.{List, [], ◌∷◌, ◌++◌}
use Prim.Native.Nat.{ℕ, suc, ◌+◌, ◌*◌}
use lib.Dec.{leb, eqb}
use lib.ListN.{length, get_or, set, replicate}
use Rattle.meaning.specs.Answers.{Refusal, is}
use Rattle.meaning.specs.Bits.{word_count}
use Rattle.meaning.specs.String.{string}
use Rattle.meaning.specs.Family.{tower}
use Rattle.meaning.specs.Areas.{Rooms, written, counted}
use Rattle.meaning.specs.Refusals.{check, checks, first_of}
use Rattle.meaning.specs.Build.{Lent, Tree, After, rooms_of}
use Rattle.meaning.specs.Growth.{levels_of, one_root, grown, grown_tower, first_bits, sound_in, sound, grow_refusal, grow}
use Rattle.record.specs.Record.{tree_in}
use Rattle.record.specs.declared.Counts.{Counts}
use Rattle.std.specs.Prelude.{is_ok}
use Rattle.refusal.specs.Said.{refused_of}
use Rattle.balanced_parens.specs.Said.{said}
use Rattle.balanced_parens.specs.Areas.{after}
use Rattle.balanced_parens.specs.Contract.{GrowsTo}
use Rattle.balanced_parens.specs.Demands.{Made, string_at, tower_at, GrowthAnswers, SameString, SameGrowth}
use Rattle.balanced_parens.proofs.Builds.{which}
use Rattle.balanced_parens.proofs.Agree.{answers_agree}
use Rattle.balanced_parens.proofs.Outcome.{outcome_of, Says, says, either_way, no_refusal, if_made, if_not}

-- the tree and the areas of the longer list; the areas as they stood
new_tree : Counts → Lent → ℕ → Tree
new_tree c a v = record { nodes = suc c.nodes; counts = counted (tower_at c a v) }

new_areas : Counts → Lent → ℕ → ℕ → Lent
new_areas c a v b = record { held = written (rooms_of a) (tower_at c a v); labels = set a.labels c.nodes b; scratch = replicate (length a.scratch) 0 }

as_stood : Lent → Lent
as_stood a = record { held = a.held; labels = a.labels; scratch = replicate (length a.scratch) 0 }

module _ (c : Counts) (v b : ℕ) (a z : Lent) (r : Made) (g : GrowsTo c v b a z r) where
  abbrev first : Option Refusal
  first = grow_refusal (tree_in c) a v

  outcome : after (said r) z ≡ outcome_of (new_tree c a v) (new_areas c a v b) (as_stood a) first
  unfolding grow grown_tower grown tree_in first_bits new_tree new_areas as_stood
  outcome = g.outcome

  tells : Says (new_tree c a v) (new_areas c a v b) (as_stood a) z r first
  tells = says (new_tree c a v) (new_areas c a v b) (as_stood a) z r first outcome

  reply : (o : Option Refusal) → first ≡ o → said r ≡ (outcome_of (new_tree c a v) (new_areas c a v b) (as_stood a) o).reply
  reply o e = ap (λ (x : After). x.reply) (outcome ∙ ap (outcome_of (new_tree c a v) (new_areas c a v b) (as_stood a)) e)

  made : is_ok r ≡ true → first ≡ none
  made = if_made (new_tree c a v) (new_areas c a v b) (as_stood a) z r first tells

  not_made : is_ok r ≡ false → (x : Refusal) × (refused_of r ≡ some x) × (first ≡ some x)
  not_made = if_not (new_tree c a v) (new_areas c a v b) (as_stood a) z r first tells

  -- Demand 1, of growth
  pub growth_answers : GrowthAnswers c v b a z r
  unfolding new_tree new_areas as_stood
  growth_answers =
      record {
        made = (made, λ e. no_refusal r (tells.first ∙ e));
        first = λ x. (λ e. sym tells.first ∙ e, λ e. tells.first ∙ e);
        record_of = λ f. tells.tree (made f);
        areas = λ f. ap (λ (x : Lent). x.held) (tells.areas (made f));
        labels = λ f. ap (λ (x : Lent). x.labels) (tells.areas (made f));
        kept = λ f.
            let q = not_made f in
            (ap (λ (x : Lent). x.held) (tells.kept q.0 q.2), ap (λ (x : Lent). x.labels) (tells.kept q.0 q.2));
        scratch =
            either_way (new_tree c a v) (new_areas c a v b) (as_stood a) z r (λ x. x.scratch ≡ replicate (length a.scratch) 0) refl refl first outcome;
      }

-- the checks, from what growth works from: n nodes, m bits, the string l and the lengths
checks_of : ℕ → ℕ → ℕ → List Bool → Rooms → Option Refusal
checks_of v n m l rooms =
    first_of (check (leb (word_count m) rooms.words && eqb m (2 * n + 2) && one_root l) 9 (0 ∷ []) ∷ checks (levels_of l ++ v ∷ []) rooms)

checks_are : (c : Counts) (a : Lent) (v : ℕ) → grow_refusal (tree_in c) a v ≡ checks_of v c.nodes (get_or c.bits 0 0) (string_at c a) (rooms_of a)
unfolding grow_refusal sound sound_in tree_in first_bits rooms_of checks_of
checks_are c a v = refl

-- "the outcome follows from the record, the string in area 0, the level, the label and the lengths alone"
module _ (c c' : Counts) (v b : ℕ) (a a' z z' : Lent) (r r' : Made) (s : SameString c c' a a') (g : GrowsTo c v b a z r) (g' : GrowsTo c' v b a' z' r') where
  same_checks : grow_refusal (tree_in c) a v ≡ grow_refusal (tree_in c') a' v
  same_checks =
      checks_are c a v ∙ (λ i. checks_of v (s.nodes i) (s.bits i) (s.string i) (s.lengths i)) ∙ sym (checks_are c' a' v)

  same_tree : new_tree c a v ≡ new_tree c' a' v
  unfolding new_tree
  same_tree = λ i. record { nodes = suc (s.nodes i); counts = counted (tower 4 (string (levels_of (s.string i) ++ v ∷ []))) }

  replies : (grow_refusal (tree_in c) a v ≡ none) ⊎ ((x : Refusal) × (grow_refusal (tree_in c) a v ≡ some x)) → said r ≡ said r'
  replies (inl e) = reply c v b a z r g none e ∙ ap is same_tree ∙ sym (reply c' v b a' z' r' g' none (sym same_checks ∙ e))
  replies (inr e) = reply c v b a z r g (some e.0) e.1 ∙ sym (reply c' v b a' z' r' g' (some e.0) (sym same_checks ∙ e.1))

  same_answer : r ≡ r'
  same_answer = answers_agree z z' r r' g.sized g'.sized (replies (which (grow_refusal (tree_in c) a v)))

  labels_in : a.labels ≡ a'.labels → (grow_refusal (tree_in c) a v ≡ none) ⊎ ((x : Refusal) × (grow_refusal (tree_in c) a v ≡ some x)) → z.labels ≡ z'.labels
  unfolding new_areas as_stood
  labels_in h (inl e) =
      ap (λ (x : Lent). x.labels) ((tells c v b a z r g).areas e) ∙ (λ i. set (h i) (s.nodes i) b)
      ∙ sym (ap (λ (x : Lent). x.labels) ((tells c' v b a' z' r' g').areas (sym same_checks ∙ e)))
  labels_in h (inr e) =
      ap (λ (x : Lent). x.labels) ((tells c v b a z r g).kept e.0 e.1) ∙ h
      ∙ sym (ap (λ (x : Lent). x.labels) ((tells c' v b a' z' r' g').kept e.0 (sym same_checks ∙ e.1)))

  pub growth_follows : SameGrowth a a' z z' r r'
  unfolding rooms_of
  growth_follows =
      let here = growth_answers c v b a z r g in
      let there = growth_answers c' v b a' z' r' g' in
      record {
        answer = same_answer;
        areas = λ f.
            here.areas f ∙ (λ i. written (s.lengths i) (tower 4 (string (levels_of (s.string i) ++ v ∷ []))))
            ∙ sym (there.areas (sym (ap (λ (x : Made). is_ok x) same_answer) ∙ f));
        labels = λ h. labels_in h (which (grow_refusal (tree_in c) a v));
        scratch = here.scratch ∙ ap (λ (x : Rooms). replicate x.scratch 0) s.lengths ∙ sym there.scratch;
      }
