-- THE END: the demands about the outcomes of the code, from the contracts of build and growth alone.
use mathlib.Core.Path.{◌≡◌, refl, sym, ap, ap₂, ◌∙◌, subst}
use mathlib.Core.Bool.{true, false}
use mathlib.Core.Logic.{◌⊎◌, inl, inr}
use mathlib.Core.Option.{none, some}
use mathlib.Core.List.{List, [], ◌∷◌, ◌++◌, append_assoc, append-nil}
use Prim.Native.Nat.{ℕ, suc, ◌≤◌}
use native.Mathlib.Omega.{arith}
use lib.ListN.{length, take, replicate, length-replicate}
use Rattle.meaning.specs.Answers.{Refusal, Answer, is, refused}
use Rattle.meaning.specs.Areas.{Rooms}
use Rattle.meaning.specs.Refusals.{refusal, Accepted}
use Rattle.meaning.specs.Build.{Lent, Tree, After, rooms_of, tree_of, lent_of, zeroed, build}
use Rattle.meaning.specs.Growth.{grow}
use Rattle.meaning.specs.Demands.{AnsweredLabels, grow_on, GrowsLabels}
use Rattle.meaning.proofs.Accepted.{accepted_exactly}
use Rattle.meaning.proofs.Lent.{rooms_of_lem}
use Rattle.meaning.proofs.Growth as growth
use Rattle.meaning.proofs.Demands.{answered, grows}
use Rattle.meaning.proofs.EdgesGrow.{answered_labels, grows_labels}
use Rattle.std.specs.Prelude.{Ok, is_ok}
use Rattle.refusal.specs.Said.{refused_of}
use Rattle.record.specs.Record.{tree_in}
use Rattle.record.specs.declared.Counts.{Counts}
use Rattle.balanced_parens.specs.Said.{said}
use Rattle.balanced_parens.specs.Areas.{after}
use Rattle.balanced_parens.specs.Contract.{Builds, GrowsTo}
use Rattle.balanced_parens.specs.Demands.{Made, BuildAnswers, TreeAnswers, Growth, GrowthRefused, Grown, none_more, one_more, tree_at}
use Rattle.balanced_parens.proofs.Builds.{which}
use Rattle.balanced_parens.proofs.Agree.{builds_agree, answers_agree}
use Rattle.balanced_parens.proofs.Outcome.{outcome_of, Says, says, either_way, made_none, no_refusal, if_not}

-- ---- build

module _ (vs bs : List ℕ) (a z : Lent) (r : Made) (b : Builds vs bs a z r) where
  abbrev rooms : Rooms
  rooms = rooms_of a

  outcome : after (said r) z ≡ outcome_of (tree_of vs) (lent_of vs bs rooms) (zeroed rooms) (refusal vs bs rooms)
  unfolding build
  outcome = b.outcome

  tells : Says (tree_of vs) (lent_of vs bs rooms) (zeroed rooms) z r (refusal vs bs rooms)
  tells = says (tree_of vs) (lent_of vs bs rooms) (zeroed rooms) z r (refusal vs bs rooms) outcome

  -- all areas keep their lengths
  zeroed_rooms : rooms_of (zeroed rooms) ≡ rooms
  unfolding rooms_of zeroed
  zeroed_rooms = λ i.
      record {
        words = length-replicate {A = ℕ} rooms.words 0 i;
        bytes = length-replicate {A = ℕ} rooms.bytes 0 i;
        middle = length-replicate {A = ℕ} rooms.middle 0 i;
        large = length-replicate {A = ℕ} rooms.large 0 i;
        labels = length-replicate {A = ℕ} rooms.labels 0 i;
        scratch = length-replicate {A = ℕ} rooms.scratch 0 i;
      }

  keeps : (refusal vs bs rooms ≡ none) ⊎ ((x : Refusal) × (refusal vs bs rooms ≡ some x)) → rooms_of z ≡ rooms_of a
  keeps (inl e) = ap rooms_of (tells.areas e) ∙ rooms_of_lem vs bs rooms ((accepted_exactly vs bs rooms).0 e)
  keeps (inr e) = ap rooms_of (tells.kept e.0 e.1) ∙ zeroed_rooms

  zero_scratch : z.scratch ≡ replicate (length a.scratch) 0
  unfolding lent_of zeroed rooms_of
  zero_scratch =
      either_way (tree_of vs) (lent_of vs bs rooms) (zeroed rooms) z r (λ x. x.scratch ≡ replicate (length a.scratch) 0) refl refl (refusal vs bs rooms) outcome

  not_made : is_ok r ≡ false → (x : Refusal) × (refused_of r ≡ some x) × (refusal vs bs rooms ≡ some x)
  not_made = if_not (tree_of vs) (lent_of vs bs rooms) (zeroed rooms) z r (refusal vs bs rooms) tells

  -- Demand 1
  pub build_answers : BuildAnswers vs bs a z r
  build_answers =
      record {
        made = (λ m. (accepted_exactly vs bs rooms).0 (sym tells.first ∙ made_none r m), λ x. no_refusal r (tells.first ∙ (accepted_exactly vs bs rooms).1 x));
        first = λ x. (λ e. sym tells.first ∙ e, λ e. tells.first ∙ e);
        zeros = λ f. let g = not_made f in tells.kept g.0 g.2;
        scratch = zero_scratch;
        lengths = keeps (which (refusal vs bs rooms));
      }

  -- Demand 2
  module _ (acc : Accepted vs bs rooms) where
    none_refuses : refusal vs bs rooms ≡ none
    none_refuses = (accepted_exactly vs bs rooms).1 acc

    pub built_made : is_ok r ≡ true
    built_made = no_refusal r (tells.first ∙ none_refuses)

    pub tree_answers : TreeAnswers vs bs z r
    tree_answers = record { made = built_made; answered = answered vs bs rooms acc (tree_at r z) b.outcome }

    -- and its labels
    pub tree_labels : AnsweredLabels vs bs (tree_at r z)
    tree_labels = answered_labels vs bs rooms acc (tree_at r z) b.outcome

-- in areas of the same lengths
elsewhere : (vs bs : List ℕ) (a a' z : Lent) (r : Made) → rooms_of a' ≡ rooms_of a → Builds vs bs a' z r → Builds vs bs a z r
elsewhere vs bs a a' z r e b = record { outcome = b.outcome ∙ ap (build vs bs) e; sized = b.sized }

-- ---- growth of what a build left

module _ (vs bs : List ℕ) (v b : ℕ) (a z₁ : Lent) (c₁ : Counts) (acc : Accepted vs bs (rooms_of a)) (p₁ : Builds vs bs a z₁ (Ok c₁)) (z₂ : Lent) (r₂ : Made) (p₂ : GrowsTo c₁ v b z₁ z₂ r₂) where
  abbrev vs⁺ : List ℕ
  vs⁺ = vs ++ v ∷ []

  abbrev bs⁺ : List ℕ
  bs⁺ = bs ++ b ∷ []

  grow_from : after (said r₂) z₂ ≡ grow (tree_of vs) (lent_of vs bs (rooms_of a)) v b
  grow_from =
      let t = tells vs bs a z₁ (Ok c₁) p₁ in
      let n = none_refuses vs bs a z₁ (Ok c₁) p₁ acc in
      let i : ◌≡◌ {A = Answer Tree} (is (tree_in c₁)) (is (tree_of vs)) = t.tree n in
      let e : tree_in c₁ ≡ tree_of vs = cc in
      p₂.outcome ∙ ap₂ (λ x y. grow x y v b) e (t.areas n)

  -- its outcome is one of a build of the longer list
  pub grow_builds : Accepted vs⁺ bs⁺ (rooms_of a) → Builds vs⁺ bs⁺ a z₂ r₂
  grow_builds acc⁺ =
      record { outcome = grow_from ∙ growth.grow_is vs bs (rooms_of a) acc v b ((accepted_exactly vs⁺ bs⁺ (rooms_of a)).1 acc⁺); sized = p₂.sized }

  module _ (a' z₃ : Lent) (r₃ : Made) (e : rooms_of a' ≡ rooms_of a) (p₃ : Builds vs⁺ bs⁺ a' z₃ r₃) where
    -- Demand 3
    pub growth_demand : Accepted vs⁺ bs⁺ (rooms_of a) → Growth vs bs v b z₁ z₂ z₃ (Ok c₁) r₂ r₃
    unfolding grow_on
    growth_demand acc⁺ =
        let q₂ = grow_builds acc⁺ in
        let q₃ = elsewhere vs⁺ bs⁺ a a' z₃ r₃ e p₃ in
        let s = builds_agree z₂ z₃ r₂ r₃ vs⁺ bs⁺ a q₂ q₃ in
        let m = built_made vs⁺ bs⁺ a z₂ r₂ q₂ acc⁺ in
        record {
          areas = s.1;
          counts = s.0;
          made = m;
          answers =
              grows vs bs v b (rooms_of a) acc acc⁺ (tree_at (Ok c₁) z₁) (tree_at r₂ z₂) (tree_at r₃ z₃) p₁.outcome
              p₂.outcome
              q₃.outcome;
        }

    -- it leaves what a build of the longer list leaves
    pub growth_equal : Accepted vs⁺ bs⁺ (rooms_of a) → (r₂ ≡ r₃) × (z₂ ≡ z₃)
    growth_equal acc⁺ = builds_agree z₂ z₃ r₂ r₃ vs⁺ bs⁺ a (grow_builds acc⁺) (elsewhere vs⁺ bs⁺ a a' z₃ r₃ e p₃)

    -- and of the answers of its tree, with their labels, one differs
    pub growth_labels : Accepted vs⁺ bs⁺ (rooms_of a) → GrowsLabels vs bs v b (tree_at (Ok c₁) z₁) (tree_at r₂ z₂) (tree_at r₃ z₃)
    unfolding grow_on
    growth_labels acc⁺ =
        grows_labels vs bs v b (rooms_of a) acc acc⁺ (tree_at (Ok c₁) z₁) (tree_at r₂ z₂) (tree_at r₃ z₃) p₁.outcome
        p₂.outcome
        (elsewhere vs⁺ bs⁺ a a' z₃ r₃ e p₃).outcome

    pub growth_refused : (x : Refusal) → refusal vs⁺ bs⁺ (rooms_of a) ≡ some x → GrowthRefused z₁ z₂ r₂ r₃
    growth_refused x f =
        let q₃ = elsewhere vs⁺ bs⁺ a a' z₃ r₃ e p₃ in
        let n = none_refuses vs bs a z₁ (Ok c₁) p₁ acc in
        let g = grow_from ∙ growth.grow_refused vs bs (rooms_of a) acc v b x f in
        let h : said r₃ ≡ refused x = ap (λ (y : After). y.reply) (outcome vs⁺ bs⁺ a z₃ r₃ q₃ ∙ ap (outcome_of (tree_of vs⁺) (lent_of vs⁺ bs⁺ (rooms_of a)) (zeroed (rooms_of a))) f) in
        record {
          answer = answers_agree z₂ z₃ r₂ r₃ p₂.sized p₃.sized (ap (λ (y : After). y.reply) g ∙ sym h);
          areas = ap (λ (y : After). y.areas) g ∙ sym ((tells vs bs a z₁ (Ok c₁) p₁).areas n);
        }

-- ---- any number of growths

accept_at : (us cs us' cs' : List ℕ) (rooms : Rooms) → us ≡ us' → cs ≡ cs' → Accepted us cs rooms → Accepted us' cs' rooms
accept_at us cs us' cs' rooms e f h = subst (λ x. Accepted x cs' rooms) e (subst (λ y. Accepted us y rooms) f h)

build_at : (us cs us' cs' : List ℕ) (a z : Lent) (r : Made) → us ≡ us' → cs ≡ cs' → Builds us cs a z r → Builds us' cs' a z r
build_at us cs us' cs' a z r e f h = subst (λ x. Builds x cs' a z r) e (subst (λ y. Builds us y a z r) f h)

-- where each list on the way is accepted in the areas, the outcome of growing one node after another is one of a build of the whole list
pub growths_build : (a : Lent) (us cs : List ℕ) {vs bs : List ℕ} {r₀ r : Made} {z₀ z : Lent} → Builds us cs a z₀ r₀ → Grown r₀ z₀ vs bs r z
    → ((k : ℕ) → k ≤ length vs → Accepted (us ++ take k vs) (cs ++ take k bs) (rooms_of a)) → Builds (us ++ vs) (cs ++ bs) a z r
growths_build a us cs {r₀ = r₀} {z₀ = z₀} p none_more h = build_at us cs (us ++ []) (cs ++ []) a z₀ r₀ (sym (append-nil us)) (sym (append-nil cs)) p
growths_build a us cs {r₀ = r₀} {r = r} {z₀ = z₀} {z = z} p (one_more {q = q} {c = c} {b = y} {v = v} {l = l} {vs = vs} {bs = bs} o g rest) h =
    let here = accept_at (us ++ []) (cs ++ []) us cs (rooms_of a) (append-nil us) (append-nil cs) (h 0 (omega arith)) in
    build_at ((us ++ v ∷ []) ++ vs) ((cs ++ l ∷ []) ++ bs) (us ++ v ∷ vs) (cs ++ l ∷ bs) a z r (append_assoc us (v ∷ []) vs) (append_assoc cs (l ∷ []) bs)
    (growths_build a (us ++ v ∷ []) (cs ++ l ∷ []) (grow_builds us cs v l a z₀ c here (subst (Builds us cs a z₀) o p) y q g (h 1 (omega arith))) rest
    (λ k i.
    accept_at (us ++ v ∷ take k vs) (cs ++ l ∷ take k bs) ((us ++ v ∷ []) ++ take k vs) ((cs ++ l ∷ []) ++ take k bs) (rooms_of a)
    (sym (append_assoc us (v ∷ []) (take k vs)))
    (sym (append_assoc cs (l ∷ []) (take k bs)))
    (h (suc k) (omega arith))))

-- from the empty tree, n growths equal one build of n nodes: the answer with its counts, and all six areas
pub growths_equal : (a a' : Lent) (vs bs : List ℕ) (r₀ r r' : Made) (z₀ z z' : Lent) → Builds [] [] a z₀ r₀ → Grown r₀ z₀ vs bs r z
    → ((k : ℕ) → k ≤ length vs → Accepted (take k vs) (take k bs) (rooms_of a)) → rooms_of a' ≡ rooms_of a → Builds vs bs a' z' r' → (r ≡ r') × (z ≡ z')
growths_equal a a' vs bs r₀ r r' z₀ z z' p g h e q =
    builds_agree z z' r r' vs bs a (growths_build a [] [] p g h) (elsewhere vs bs a a' z' r' e q)
