-- The ways out of `raise_longer` and of `grow`.
use mathlib.Core.Path.{◌≡◌, subst, refl, sym, ap, ◌∙◌}
use mathlib.Core.Bool.{true, false}
use mathlib.Core.Logic.{◌⊎◌, inl, inr}
use mathlib.Core.Option.{Option, none, some}
use mathlib.Core.List.{List, [], ◌∷◌, ◌++◌}
use Prim.Native.Nat.{ℕ, suc, ◌+◌, ◌≤◌}
use native.Mathlib.Omega.{arith}
use lib.ListN.{length, get_or, set, replicate, length-append}
use Rattle.meaning.specs.Answers.{Refusal, is, refused}
use Rattle.meaning.specs.Bits.{bits_of}
use Rattle.meaning.specs.List.{greatest}
use Rattle.meaning.specs.String.{string}
use Rattle.meaning.specs.Areas.{Held, Rooms, written, counted}
use Rattle.meaning.specs.Refusals.{check, checks, first_of}
use Rattle.meaning.specs.Build.{Lent, Tree, rooms_of}
use Rattle.meaning.specs.Growth.{levels_of, grown, grown_tower, first_bits, bits_in, sound_in, sound, grow_refusal, grow}
use Rattle.meaning.proofs.If.{if_none, if_some}
use Rattle.meaning.proofs.Accepted.{check_none, first_none}
use Rattle.meaning.proofs.Stored.{length_bits}
use Rattle.meaning.proofs.FromString.{count_of}
use Rattle.record.specs.Record.{tree_in}
use Rattle.record.specs.declared.Counts.{Counts}
use Rattle.pioneers.specs.Placed.{placing, holding, list_checks}
use Rattle.longer.specs.Longer.{longer_checks, longer_in}
use Rattle.longer.proofs.Growing.{Sound, sound_is}
use Rattle.parentheses.specs.Writes.{held_at}
use Rattle.parentheses.specs.Raises.{Raising, raising, raise_in, Raises, string_checks}
use Rattle.std.specs.Prelude.{Err, is_ok}
use Rattle.refusal.specs.Said.{refusal_of}
use Rattle.refusal.specs.declared.Refusal as refusal
use Rattle.balanced_parens.specs.Said.{said}
use Rattle.balanced_parens.specs.Areas.{lent_at, after, staged_in}
use Rattle.balanced_parens.specs.Contract.{GrowsTo, Staged}
use Rattle.balanced_parens.specs.Demands.{Made}
use Rattle.balanced_parens.proofs.Outcome.{made_tree, not_tree}
use Rattle.balanced_parens.proofs.Stages.{placed_none, placed_some, Listed, listed, stage_refused, list_raised}
use Rattle.balanced_parens.proofs.Builds.{first_append, which}

-- the longer list
abbrev longest : List ℕ → ℕ → ℕ → List ℕ
longest ws m v = levels_of (bits_of ws m) ++ v ∷ []

-- where no check of the string, the list and scratch refuses, it has n + 1 nodes
module _ (ws : List ℕ) (n m v k : ℕ) (e : first_of (longer_checks ws n m v k) ≡ none) where
  pub longer_listed : Listed (longest ws m v) k
  unfolding longer_checks
  longer_listed = listed (longest ws m v) k (first_none _ _ e).1

  pub longer_count : length (longest ws m v) ≡ suc n
  unfolding longer_checks
  longer_count =
      let s : Sound ws n m = sound_is ws n m (sound_in ws n m) refl (check_none _ _ _ (first_none _ _ e).0) in
      omega (arith, count_of (bits_of ws m) s.root, length_bits ws m, s.count, length-append (levels_of (bits_of ws m)) (v ∷ []))

module _ (ws : List ℕ) (n m v k : ℕ) (s : List ℕ) (q : placing none s ≡ longer_in ws n m v k) where
  placed : (first_of (longer_checks ws n m v k) ≡ none) × (s ≡ holding (n + 2) k (grown (bits_of ws m) v))
  unfolding longer_in
  placed = placed_none _ _ _ s q

  pub longer_few : n + 1 ≤ greatest
  longer_few = omega (arith, (longer_listed ws n m v k placed.0).few, longer_count ws n m v k placed.0)

  pub longer_raised : (a : Held) (labels : ℕ) (r : Made) (b : Held) (t : List ℕ) → Raises s (n + 1) a labels b t r
      → Staged (staged_in (first_of (longer_checks ws n m v k)) (grown (bits_of ws m) v) (suc n) a labels k) b t r
  unfolding grown
  longer_raised a labels r b t f =
      let l : length (longest ws m v) ≡ suc n = longer_count ws n m v k placed.0 in
      let u : n + 2 ≡ length (longest ws m v) + 1 = omega (arith, l) in
      let w : n + 1 ≡ length (longest ws m v) = omega (arith, l) in
      record {
        outcome =
            list_raised (first_of (longer_checks ws n m v k)) (longest ws m v) a labels k placed.0 (longer_listed ws n m v k placed.0) s
            (placed.1 ∙ ap (λ x. holding x k (string (longest ws m v))) u)
            (raising (said r) b t)
            (f.outcome ∙ ap (λ x. raise_in s x a labels) w)
            ∙ ap (λ x. staged_in (first_of (longer_checks ws n m v k)) (string (longest ws m v)) x a labels k) l;
        sized = f.sized;
      }

pub longer_refused : (ws : List ℕ) (n m v k : ℕ) (a : Held) (labels : ℕ) (s : List ℕ) (x : refusal.Refusal) → placing (some (refusal_of x)) s ≡ longer_in ws n m v k
    → Staged (staged_in (first_of (longer_checks ws n m v k)) (grown (bits_of ws m) v) (suc n) a labels k) a s (Err x)
unfolding longer_in
longer_refused ws n m v k a labels s x q =
    let u = placed_some (first_of (longer_checks ws n m v k)) (refusal_of x) _ _ s q in
    record { outcome = stage_refused (first_of (longer_checks ws n m v k)) (grown (bits_of ws m) v) (suc n) a labels k (refusal_of x) u.0 s u.1; sized = tt }

-- growth's checks, parted where the longer string stands
module _ (ws : List ℕ) (n m v : ℕ) (rooms : Rooms) where
  early : Option Refusal
  early = first_of (longer_checks ws n m v rooms.scratch)

  pub grow_parted : first_of (check (sound_in ws n m) 9 (0 ∷ []) ∷ checks (longest ws m v) rooms)
      ≡ first_of (first_of (longer_checks ws n m v rooms.scratch) ∷ string_checks (grown (bits_of ws m) v) (suc n) rooms)
  unfolding checks list_checks string_checks longer_checks grown early first_of
  grow_parted =
      first_append (longer_checks ws n m v rooms.scratch) (string_checks (string (longest ws m v)) (length (longest ws m v)) rooms)
      ∙ go (which early)
    where
      go : (early ≡ none) ⊎ ((r : Refusal) × (early ≡ some r))
          → first_of (early ∷ string_checks (string (longest ws m v)) (length (longest ws m v)) rooms) ≡ first_of (early ∷ string_checks (string (longest ws m v)) (suc n) rooms)
      go (inl e) = ap (λ x. first_of (early ∷ string_checks (string (longest ws m v)) x rooms)) (longer_count ws n m v rooms.scratch e)
      go (inr e) =
          ap (λ o. first_of (o ∷ string_checks (string (longest ws m v)) (length (longest ws m v)) rooms)) e.1
          ∙ sym (ap (λ o. first_of (o ∷ string_checks (string (longest ws m v)) (suc n) rooms)) e.1)

-- growth
module _ (w b m g u s : List ℕ) (c : Counts) (v : ℕ) (o : Made) (w' b' m' g' s' : List ℕ)
    (q : Staged
    (staged_in (first_of (longer_checks w c.nodes (get_or c.bits 0 0) v (length s))) (grown (bits_of w (get_or c.bits 0 0)) v) (suc c.nodes) (held_at w b m g) (length u) (length s))
    (held_at w' b' m' g') s' o) where
  abbrev lent : Lent
  lent = lent_at w b m g u s

  new : Tree
  new = record { nodes = suc c.nodes; counts = counted (grown_tower w (bits_in (tree_in c)) v) }

  stage : Option Refusal → Raising
  stage r =
      elim r [
        | none ↦ raising (is new) (written (rooms_of lent) (grown_tower w (bits_in (tree_in c)) v)) (replicate (length s) 0)
        | some r ↦ raising (refused r) (held_at w b m g) (replicate (length s) 0)
      ]

  staged : raising (said o) (held_at w' b' m' g') s' ≡ stage (grow_refusal (tree_in c) lent v)
  unfolding staged_in stage new grown_tower grow_refusal sound rooms_of tree_in first_bits
  staged =
      q.outcome ∙ ap stage (sym (grow_parted w c.nodes (bits_in (tree_in c)) v (rooms_of lent)))

  grow_refused : (x : ℕ) → is_ok o ≡ false → GrowsTo c v x lent (lent_at w' b' m' g' u s') o
  unfolding grow stage
  grow_refused x f = record { outcome = go (which (grow_refusal (tree_in c) lent v)); sized = q.sized }
    where
      go : (grow_refusal (tree_in c) lent v ≡ none) ⊎ ((r : Refusal) × (grow_refusal (tree_in c) lent v ≡ some r))
          → after (said o) (lent_at w' b' m' g' u s') ≡ grow (tree_in c) lent v x
      go (inl e) = absurd (not_tree o f new (ap (λ (y : Raising). y.reply) (staged ∙ if_none _ _ e)))
      go (inr e) =
          ap (λ (y : Raising). after y.reply (record { held = y.held; labels = u; scratch = y.scr })) (staged ∙ if_some _ _ e.0 e.1)
          ∙ sym (if_some _ _ e.0 e.1)

  module _ (f : is_ok o ≡ true) where
    none_refuses : grow_refusal (tree_in c) lent v ≡ none
    unfolding stage
    none_refuses = go (which (grow_refusal (tree_in c) lent v))
      where
        go : (grow_refusal (tree_in c) lent v ≡ none) ⊎ ((r : Refusal) × (grow_refusal (tree_in c) lent v ≡ some r)) → grow_refusal (tree_in c) lent v ≡ none
        go (inl e) = e
        go (inr e) = absurd (made_tree o f e.0 (ap (λ (y : Raising). y.reply) (staged ∙ if_some _ _ e.0 e.1)))

    grow_made : (x : ℕ) (u' : List ℕ) → u' ≡ set u c.nodes x → GrowsTo c v x lent (lent_at w' b' m' g' u' s') o
    unfolding grow stage new tree_in
    grow_made x u' l =
        record {
          outcome =
              ap (λ (y : Raising). after y.reply (record { held = y.held; labels = u'; scratch = y.scr })) (staged ∙ if_none _ _ none_refuses)
              ∙ ap (λ (y : List ℕ). after (is new) (record { held = written (rooms_of lent) (grown_tower w (bits_in (tree_in c)) v); labels = y; scratch = replicate (length s) 0 }))
              l
              ∙ sym (if_none _ _ none_refuses);
          sized = q.sized;
        }

    pub made_at : (x : ℕ) (u' : List ℕ) → u' ≡ set u c.nodes x → (y : Lent) → lent_at w' b' m' g' u' s' ≡ y → GrowsTo c v x lent y o
    made_at x u' l y e = subst (λ t. GrowsTo c v x lent t o) e (grow_made x u' l)

  -- the areas at the end, by another name
  pub refused_at : (x : ℕ) → is_ok o ≡ false → (y : Lent) → lent_at w' b' m' g' u s' ≡ y → GrowsTo c v x lent y o
  refused_at x f y e = subst (λ t. GrowsTo c v x lent t o) e (grow_refused x f)
