-- The ways out of `build`.
use mathlib.Core.Path.{◌≡◌, refl, sym, ap, ◌∙◌, subst}
use mathlib.Core.Bool.{true, false}
use mathlib.Core.Logic.{◌⊎◌, inl, inr}
use mathlib.Core.Option.{Option, none, some}
use mathlib.Core.List.{List, [], ◌∷◌, ◌++◌}
use Prim.Native.Nat.{ℕ, ◌≤◌}
use native.Mathlib.Omega.{arith}
use lib.ListN.{length, replicate, length-replicate}
use lib.Seq.{paste}
use borrow.Author.Tests.{eq-eqb, ne_eqb}
use Rattle.meaning.specs.Answers.{Refusal, is, refused}
use Rattle.meaning.specs.String.{string}
use Rattle.meaning.specs.Family.{tower}
use Rattle.meaning.specs.Areas.{Rooms, written}
use Rattle.meaning.specs.Refusals.{check, checks, first_of, refusal}
use Rattle.meaning.specs.Build.{Lent, rooms_of, tree_of, lent_of, zeroed, build}
use Rattle.meaning.proofs.If.{if_none, if_some}
use Rattle.meaning.proofs.Accepted.{accepted_exactly}
use Rattle.pioneers.specs.Placed.{list_checks}
use Rattle.parentheses.specs.Writes.{held_at}
use Rattle.parentheses.specs.Raises.{Raising, raising, string_checks}
use Rattle.std.specs.Prelude.{Err, is_ok}
use Rattle.refusal.specs.declared.Refusal.TheVariants.{Lengths}
use Rattle.balanced_parens.specs.Said.{said}
use Rattle.balanced_parens.specs.Areas.{lent_at, after, staged_in, Blank, Cleared}
use Rattle.balanced_parens.specs.Contract.{Builds, Staged}
use Rattle.balanced_parens.specs.Demands.{Made}
use Rattle.balanced_parens.proofs.Outcome.{made_tree, not_tree}
use Rattle.balanced_parens.proofs.Labels.{labels_filled}

-- one check after another, some of them first
pub first_append : (xs ys : List (Option Refusal)) → first_of (xs ++ ys) ≡ first_of (first_of xs ∷ ys)
unfolding first_of
first_append [] ys = refl
first_append (none ∷ xs) ys = first_append xs ys
first_append (some r ∷ xs) ys = refl

pub which : (o : Option Refusal) → (o ≡ none) ⊎ ((r : Refusal) × (o ≡ some r))
which none = inl refl
which (some r) = inr (r, refl)

-- the checks of a list, parted where its string stands
pub parted : (vs : List ℕ) (rooms : Rooms) → first_of (checks vs rooms) ≡ first_of (first_of (list_checks vs rooms.scratch) ∷ string_checks (string vs) (length vs) rooms)
unfolding checks list_checks string_checks
parted vs rooms = first_append (list_checks vs rooms.scratch) (string_checks (string vs) (length vs) rooms)

-- a build into areas that are zero
module _ (vs bs w b m g u s : List ℕ) (h : (length vs ≡ length bs) × Blank w b m g u) (o : Made) (w' b' m' g' s' : List ℕ)
    (q : Staged (staged_in (first_of (list_checks vs (length s))) (string vs) (length vs) (held_at w b m g) (length u) (length s)) (held_at w' b' m' g') s' o) where
  abbrev lent : Lent
  lent = lent_at w b m g u s

  abbrev rooms : Rooms
  rooms = rooms_of lent

  refusal_is : refusal vs bs rooms ≡ first_of (first_of (list_checks vs (length s)) ∷ string_checks (string vs) (length vs) rooms)
  unfolding refusal first_of check rooms_of
  refusal_is = ap (λ x. first_of (check x 1 (0 ∷ []) ∷ checks vs rooms)) (eq-eqb _ _ h.0) ∙ parted vs rooms

  stage : Option Refusal → Raising
  stage o =
      elim o [
        | none ↦ raising (is (tree_of vs)) (written rooms (tower 4 (string vs))) (replicate (length s) 0)
        | some r ↦ raising (refused r) (held_at w b m g) (replicate (length s) 0)
      ]

  staged : raising (said o) (held_at w' b' m' g') s' ≡ stage (refusal vs bs rooms)
  unfolding staged_in stage tree_of rooms_of
  staged = q.outcome ∙ ap stage (sym refusal_is)

  pub build_refused : is_ok o ≡ false → Builds vs bs lent (lent_at w' b' m' g' u s') o
  unfolding build stage zeroed rooms_of
  build_refused f = record { outcome = go (which (refusal vs bs rooms)); sized = q.sized }
    where
      go : (refusal vs bs rooms ≡ none) ⊎ ((r : Refusal) × (refusal vs bs rooms ≡ some r)) → after (said o) (lent_at w' b' m' g' u s') ≡ build vs bs rooms
      go (inl n) = absurd (not_tree o f (tree_of vs) (ap (λ (x : Raising). x.reply) (staged ∙ if_none _ _ n)))
      go (inr n) =
          ap (λ (x : Raising). after x.reply (record { held = x.held; labels = u; scratch = x.scr })) (staged ∙ if_some _ _ n.0 n.1)
          ∙ (λ i. after (refused n.0) (lent_at (h.1.words i) (h.1.bytes i) (h.1.middle i) (h.1.large i) (h.1.labels i) (replicate (length s) 0)))
          ∙ sym (if_some _ _ n.0 n.1)

  module _ (f : is_ok o ≡ true) where
    none_refuses : refusal vs bs rooms ≡ none
    unfolding stage
    none_refuses = go (which (refusal vs bs rooms))
      where
        go : (refusal vs bs rooms ≡ none) ⊎ ((r : Refusal) × (refusal vs bs rooms ≡ some r)) → refusal vs bs rooms ≡ none
        go (inl n) = n
        go (inr n) = absurd (made_tree o f n.0 (ap (λ (x : Raising). x.reply) (staged ∙ if_some _ _ n.0 n.1)))

    pub build_labels : length bs ≤ length u
    unfolding rooms_of
    build_labels = omega (arith, h.0, ((accepted_exactly vs bs rooms).0 none_refuses).label)

    pub build_made : (u' : List ℕ) → u' ≡ paste u 0 bs (length bs) → Builds vs bs lent (lent_at w' b' m' g' u' s') o
    unfolding build stage lent_of rooms_of
    build_made u' c =
        record {
          outcome =
              ap (λ (x : Raising). after x.reply (record { held = x.held; labels = u'; scratch = x.scr })) (staged ∙ if_none _ _ none_refuses)
              ∙ ap (λ (y : List ℕ). after (is (tree_of vs)) (record { held = written rooms (tower 4 (string vs)); labels = y; scratch = replicate (length s) 0 }))
              (labels_filled bs u u u' h.1.labels c)
              ∙ sym (if_none _ _ none_refuses);
          sized = q.sized;
        }

-- a build, once areas 0 to 4 are zeroed
module _ (vs bs w b m g u s w' b' m' g' u' : List ℕ) (z : Cleared w b m g u w' b' m' g' u') where
  pub build_lengths : ¬ (length vs ≡ length bs) → (s' : List ℕ) → s' ≡ replicate (length s) 0
      → Builds vs bs (lent_at w b m g u s) (lent_at w' b' m' g' u' s') (Err Lengths)
  unfolding build zeroed refusal first_of check rooms_of
  build_lengths h s' zs =
      record {
        outcome =
            (λ i. after (said (Err Lengths)) (lent_at (z.words i) (z.bytes i) (z.middle i) (z.large i) (z.labels i) (zs i)))
            ∙ sym (if_some _ _ _ (ap (λ x. first_of (check x 1 (0 ∷ []) ∷ checks vs (rooms_of (lent_at w b m g u s)))) (ne_eqb _ _ h)));
        sized = tt;
      }

  kept : (k : ℕ) (x : List ℕ) → x ≡ replicate k 0 → length x ≡ k
  kept k x e = ap length e ∙ length-replicate k 0

  zeros : (k : ℕ) (x : List ℕ) → x ≡ replicate k 0 → x ≡ replicate (length x) 0
  zeros k x e = e ∙ ap (λ (n : ℕ). replicate n 0) (sym (kept k x e))

  pub build_ready : length vs ≡ length bs → (length vs ≡ length bs) × Blank w' b' m' g' u'
  build_ready e =
      (e, record { words = zeros (length w) w' z.words; bytes = zeros (length b) b' z.bytes; middle = zeros (length m) m' z.middle; large = zeros (length g) g' z.large; labels = zeros (length u) u' z.labels })

  pub build_whole : (x y : Lent) (o : Made) → Builds vs bs (lent_at w' b' m' g' u' s) x o → x ≡ y → Builds vs bs (lent_at w b m g u s) y o
  unfolding rooms_of
  build_whole x y o q r =
      subst (λ t. Builds vs bs (lent_at w b m g u s) t o) r (
      let same : rooms_of (lent_at w' b' m' g' u' s) ≡ rooms_of (lent_at w b m g u s) = λ i.
      record {
        words = kept (length w) w' z.words i;
        bytes = kept (length b) b' z.bytes i;
        middle = kept (length m) m' z.middle i;
        large = kept (length g) g' z.large i;
        labels = kept (length u) u' z.labels i;
        scratch = length s;
      } in
      record { outcome = q.outcome ∙ ap (build vs bs) same; sized = q.sized }
      )
