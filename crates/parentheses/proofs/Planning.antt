-- The ways out of `plan_levels`: one law for each.
use mathlib.Core.Path.{◌≡◌, sym, ap, ap₂, ◌∙◌, subst}
use mathlib.Core.Bool.{Bool, true, false}
use mathlib.Core.Option.{none, some}
use mathlib.Core.List.{List, [], ◌∷◌}
use Prim.Native.Nat.{ℕ, zero, suc, ◌+◌, ◌-◌, ◌/◌, ◌≤◌, ◌<◌}
use native.Mathlib.Numerals.{add-one}
use native.Mathlib.Omega.{arith}
use lib.Dec.{leb}
use lib.ListN.{length}
use borrow.Author.Tests.{le-leb, lt-leb}
use Rattle.meaning.specs.Pioneers.{flags, pioneer_string}
use Rattle.meaning.specs.Dictionary.{dict_of}
use Rattle.meaning.specs.Family.{tower}
use Rattle.meaning.specs.Areas.{counted}
use Rattle.meaning.specs.Refusals.{check, full_block, full_at, full_from}
use Rattle.meaning.specs.Direct.{entries_of}
use Rattle.meaning.proofs.If.{if_true, if_false}
use Rattle.meaning.proofs.Root.{root_walk}
use Rattle.meaning.proofs.Bounds.{Within}
use Rattle.sparse_one_nnd.specs.Said.{entries_in}
use Rattle.pioneers.specs.Scratch.{text_of}
use Rattle.pioneers.specs.declared.flags.Layout.{Layout}
use Rattle.pioneers.proofs.Parts.{text_length}
use Rattle.std.specs.Prelude.{Ok, Err}
use Rattle.refusal.specs.Said.{refusal_of}
use Rattle.refusal.specs.declared.Refusal as refusal
use Rattle.refusal.specs.declared.Refusal.TheVariants.{Deep}
use Rattle.parentheses.specs.Plans.{alone_of, sizes_of, above_of, Small, SizesAre, Takes, PlanIs, Standing, FamilyIs}
use Rattle.parentheses.specs.declared.plans.Plan.{Plan}
use Rattle.parentheses.specs.declared.plans.Family.{Family}
use Rattle.parentheses.proofs.Holds.{level_root, standing_next}
use Rattle.parentheses.proofs.Counting.{famous, tower_short, tower_long, counts_last, counts_more, sizes_last, sizes_more, sizes_small, few_areas}

-- "until one has 64 bits or fewer"
short_none : (left level : ℕ) (l : List Bool) → leb (length l) 64 ≡ true → full_from left level l ≡ none
unfolding full_from check
short_none zero level l e = ap (λ b. check b 6 (0 ∷ [])) e
short_none (suc left) level l e = if_true _ _ e

pub long_next : (left level : ℕ) (l : List Bool) → leb (length l) 64 ≡ false
    → full_from (suc left) level l ≡ full_at level (full_block (length l / 256 + 1) 0 (flags l)) (full_from left (suc level) (pioneer_string l))
unfolding full_from
long_next left level l e = if_false _ _ e

module _ (scr : List ℕ) (lay : Layout) (left level : ℕ) (s : Standing scr lay × (left ≤ 4) × (left + level ≤ 5)) where
  abbrev l : List Bool
  l = text_of scr lay

  pub plan_last : lay.bits ≤ 64 → (p : Plan) → (p.counts ≡ alone_of lay.bits) × (p.sizes ≡ sizes_of lay.bits) → PlanIs (Ok p) left level l
  plan_last h p q =
      let e : leb (length l) 64 ≡ true = le-leb (length l) 64 (omega (arith, text_length scr lay)) in
      let t = tower_short left l e in
      record {
        narrow = short_none left level l e;
        counts = counts_last l p.counts (q.0 ∙ ap alone_of (sym (text_length scr lay))) ∙ ap counted (sym t);
        sizes = subst (SizesAre p.sizes) (sym t) (sizes_last l p.sizes (q.1 ∙ ap sizes_of (sym (text_length scr lay))));
      }

  module _ (long : 64 < lay.bits) where
    far : leb (length l) 64 ≡ false
    far = lt-leb (length l) 64 (omega (arith, text_length scr lay))

    pub plan_deep : left ≡ 0 → PlanIs (Err Deep) left level l
    unfolding full_from check
    plan_deep z = ap (λ n. full_from n level l) z ∙ ap (λ b. check b 6 (0 ∷ [])) far

    module _ (n : left ≡ 0 → ⊥) where
      rest : full_from left level l ≡ full_at level (full_block (lay.bits / 256 + 1) 0 (flags l)) (full_from (left - 1) (level + 1) (pioneer_string l))
      rest =
          let u : left ≡ suc (left - 1) = omega arith in
          ap (λ k. full_from k level l) u ∙ long_next (left - 1) level l far
          ∙ ap₂ (λ m v. full_at level (full_block (m / 256 + 1) 0 (flags l)) (full_from (left - 1) v (pioneer_string l))) (text_length scr lay) (sym (add-one level))

      -- FULL at this level
      pub plan_refused : (r : refusal.Refusal) (m : List ℕ) → FamilyIs (Err r) level scr lay m → PlanIs (Err r) left level l
      unfolding full_at FamilyIs
      plan_refused r m i =
          rest ∙ ap (λ o. full_at level o (full_from (left - 1) (level + 1) (pioneer_string l))) i.1 ∙ ap (λ x. some (refusal_of x)) (sym i.2)

      module _ (f : Family) (m : List ℕ) (i : FamilyIs (Ok f) level scr lay m) where
        abbrev next : Layout
        next = record { text = lay.text; flags = lay.flags; bits = f.bits }

        stands : Standing m next × (text_of m next ≡ pioneer_string l) × (length m ≡ length scr)
        unfolding FamilyIs
        stands = standing_next scr lay s.0 long m f.bits i.2 i.3

        pub plan_next : Standing m next × (left - 1 ≤ 4) × (left - 1 + (level + 1) ≤ 5)
        plan_next = (stands.0, omega (arith, s.1), omega (arith, s.2))

        pub plan_length : length m ≡ length scr
        plan_length = stands.2

        tower_is : tower left l ≡ famous l ∷ tower (left - 1) (pioneer_string l)
        tower_is =
            let u : left ≡ suc (left - 1) = omega arith in
            ap (λ k. tower k l) u ∙ tower_long (left - 1) l far

        same : full_from left level l ≡ full_from (left - 1) (level + 1) (pioneer_string l)
        unfolding full_at FamilyIs
        same = rest ∙ ap (λ o. full_at level o (full_from (left - 1) (level + 1) (pioneer_string l))) i.0

        entries : entries_in f.dict ≡ entries_of (dict_of (flags l))
        unfolding FamilyIs
        entries = i.1

        -- FULL or DEEP above it
        pub plan_above_refused : (r : refusal.Refusal) → PlanIs (Err r) (left - 1) (level + 1) (text_of m next) → PlanIs (Err r) left level l
        plan_above_refused r p = same ∙ ap (full_from (left - 1) (level + 1)) (sym stands.1) ∙ p

        module _ (t : Plan) (q : PlanIs (Ok t) (left - 1) (level + 1) (text_of m next)) where
          p : Takes t (left - 1) (level + 1) (pioneer_string l)
          p = subst (Takes t (left - 1) (level + 1)) stands.1 q

          pub plan_small : Small t.sizes f.dict
          plan_small =
              sizes_small l (tower (left - 1) (pioneer_string l)) lay.bits f.dict t.sizes (sym (text_length scr lay)) entries p.sizes
              (subst (λ x. Within x 4000000 4000000 4000000 4000000) tower_is
              (few_areas left l (omega (arith, s.1)) (root_walk l (level_root scr lay s.0 long)) (omega (arith, text_length scr lay, s.0.few))))

          pub plan_above : (r : Plan) → r ≡ above_of lay.bits f.dict t → PlanIs (Ok r) left level l
          plan_above r e =
              subst (λ x. Takes x left level l) (sym e)
              (record {
                narrow = same ∙ p.narrow;
                counts =
                    counts_more (left - 1) l (pioneer_string l) lay.bits f.dict t.counts (omega (arith, s.1)) (sym (text_length scr lay)) entries p.counts
                    ∙ ap counted (sym tower_is);
                sizes =
                    subst (SizesAre _) (sym tower_is)
                    (sizes_more l (tower (left - 1) (pioneer_string l)) lay.bits f.dict t.sizes (sym (text_length scr lay)) entries p.sizes);
              })
