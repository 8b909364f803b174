-- The ways out of `room`, `fill`, `raise_string` and `raise`: one law for each.
use mathlib.Core.Path.{◌≡◌, refl, sym, ap, ap₂, ◌∙◌, subst}
use mathlib.Core.Bool.{Bool, true, false, ◌&&◌}
use mathlib.Core.Option.{Option, none, some}
use mathlib.Core.List.{List, [], ◌∷◌}
use Prim.Native.Nat.{ℕ, ◌+◌, ◌-◌, ◌*◌, ◌≤◌, ◌<◌}
use native.Mathlib.Omega.{arith}
use lib.Dec.{leb}
use lib.ListN.{length, take, drop, replicate, length-replicate}
use lib.Seq.{sets}
use borrow.Author.Tests.{le-leb, lt-leb, leb-true}
use Rattle.meaning.specs.Answers.{Refusal, is, refused}
use Rattle.meaning.specs.Bits.{bits_of}
use Rattle.meaning.specs.List.{greatest}
use Rattle.meaning.specs.Family.{tower}
use Rattle.meaning.specs.Areas.{Rooms, Held, area_words, area_bytes, area_middle, area_large, written, counted}
use Rattle.meaning.specs.Refusals.{check, full_from, first_of}
use Rattle.meaning.specs.Growth.{one_root}
use Rattle.meaning.specs.Direct.{Entries}
use Rattle.meaning.proofs.If.{if_true, if_false, if_none, if_some, and_true, clash}
use Rattle.meaning.proofs.Accepted.{check_none, first_none}
use Rattle.meaning.proofs.Runs.{sets_zeros}
use Rattle.meaning.proofs.OneRoot.{one_root_test}
use Rattle.meaning.proofs.Root.{root_walk}
use Rattle.record.specs.Record.{tree_in, Sized, said_tree}
use Rattle.record.specs.declared.Counts.{Counts}
use Rattle.refusal.specs.Said.{refusal_of}
use Rattle.refusal.specs.declared.Refusal as refusal
use Rattle.refusal.specs.declared.Refusal.TheVariants.{Broken}
use Rattle.std.specs.Prelude.{Result, Ok, Err}
use Rattle.sparse_one_nnd.specs.Said.{entries_in}
use Rattle.sparse_one_nnd.specs.declared.SparseOneNnd.{SparseOneNnd}
use Rattle.pioneers.specs.Placed.{holding}
use Rattle.pioneers.specs.Scratch.{text_of}
use Rattle.pioneers.specs.declared.flags.Layout.{Layout}
use Rattle.pioneers.proofs.Parts.{part_is}
use Rattle.parentheses.specs.Plans.{alone_of, sizes_of, SizesAre, Takes, PlanIs, Standing}
use Rattle.parentheses.specs.Rooms.{size_checks}
use Rattle.parentheses.specs.Writes.{held_at, put, Writing, WrittenIs}
use Rattle.parentheses.specs.Raises.{lay_of, string_in, rooms_at, string_checks, raising, raise_in, Raises, Raised, Stands, Holds, Fills}
use Rattle.parentheses.specs.declared.plans.Sizes.{Sizes}
use Rattle.parentheses.specs.declared.plans.Plan.{Plan}
use Rattle.parentheses.proofs.Counting.{few_areas}
use Rattle.parentheses.proofs.Planning.{plan_last}
use Rattle.parentheses.proofs.Written.{held_ext}
use Rattle.parentheses.proofs.Standing.{string_size, string_text, holds_standing, tidy_holds}

-- the counts of n nodes
abbrev made_of : Counts → ℕ → Counts
made_of c n = record { nodes = n; bits = c.bits; bytes = c.bytes; middles = c.middles; larges = c.larges }

-- ---- the areas filled

module _ (scr : List ℕ) (n : ℕ) (w b m g : List ℕ) (s : Fills scr n (held_at w b m g)) (w₀ b₀ m₀ g₀ : List ℕ)
    (ew : w₀ ≡ replicate (length w) 0) (eb : b₀ ≡ replicate (length b) 0) (em : m₀ ≡ replicate (length m) 0) (eg : g₀ ≡ replicate (length g) 0)
    (d : SparseOneNnd) (ed : entries_in d ≡ record { bytes = 0; middle = 0; large = 0 }) (lay : Layout) (el : lay ≡ lay_of n) where
  abbrev l : List Bool
  l = string_in scr n

  abbrev at : Sizes
  at = record { words = 0; dict = d }

  no_bytes : d.bytes ≡ 0
  no_bytes = ap (λ (x : Entries). x.bytes) ed

  no_middles : d.middles ≡ 0
  no_middles = ap (λ (x : Entries). x.middle) ed

  no_larges : d.larges ≡ 0
  no_larges = ap (λ (x : Entries). x.large) ed

  text_is : text_of scr lay ≡ l
  text_is = ap (text_of scr) el ∙ sym (string_text scr n)

  size : (x y : List ℕ) → x ≡ replicate (length y) 0 → length x ≡ length y
  size x y e = ap length e ∙ length-replicate (length y) 0

  pub fill_writing : Writing scr lay 4 (record { words = 0; dict = d }) (held_at w₀ b₀ m₀ g₀)
  fill_writing =
      let f = few_areas 4 l (omega arith) (root_walk l ((one_root_test l).0 s.holds.stands.root)) (omega (arith, string_size scr n, s.holds.stands.few)) in
      let kw = ap (λ x. length (area_words (tower 4 x))) text_is in
      let kb = ap (λ x. length (area_bytes (tower 4 x))) text_is in
      let km = ap (λ x. length (area_middle (tower 4 x))) text_is in
      let kg = ap (λ x. length (area_large (tower 4 x))) text_is in
      record {
        standing = subst (Standing scr) (sym el) (holds_standing scr n s.holds);
        few = omega arith;
        level = 1;
        narrow = ap (full_from 4 1) text_is ∙ s.narrow;
        words = omega (arith, s.words, kw, size w₀ w ew);
        bytes = omega (arith, s.bytes, kb, size b₀ b eb, no_bytes);
        middle = omega (arith, s.middle, km, size m₀ m em, no_middles);
        large = omega (arith, s.large, kg, size g₀ g eg, no_larges);
        small = (
          omega (arith, f.words, kw),
          omega (arith, f.bytes, kb, no_bytes),
          omega (arith, f.middle, km, no_middles),
          omega (arith, f.large, kg, no_larges),
        );
      }

  pub fill_written : (w' b' m' g' exit : List ℕ) → WrittenIs scr lay 4 (record { words = 0; dict = d }) (held_at w₀ b₀ m₀ g₀) (held_at w' b' m' g') exit
      → (held_at w' b' m' g' ≡ written (rooms_at (held_at w b m g) 0 0) (tower 4 l)) × (exit ≡ replicate (length scr) 0)
  unfolding written
  fill_written w' b' m' g' exit r =
      let a : held_at w' b' m' g' ≡ put at (tower 4 l) (held_at w₀ b₀ m₀ g₀) = r.areas ∙ ap (λ x. put at (tower 4 x) (held_at w₀ b₀ m₀ g₀)) text_is in
      let z : 2 * d.middles ≡ 0 = omega (arith, no_middles) in
      let y : 2 * d.larges ≡ 0 = omega (arith, no_larges) in (
        a
            ∙ held_ext (put at (tower 4 l) (held_at w₀ b₀ m₀ g₀)) (written (rooms_at (held_at w b m g) 0 0) (tower 4 l))
            (ap (λ (x : List ℕ). sets x 0 (area_words (tower 4 l))) ew ∙ sets_zeros (length w) 0 (area_words (tower 4 l)) refl s.words)
            (ap (λ (x : List ℕ). sets x d.bytes (area_bytes (tower 4 l))) eb ∙ sets_zeros (length b) d.bytes (area_bytes (tower 4 l)) no_bytes s.bytes)
            (ap (λ (x : List ℕ). sets x (2 * d.middles) (area_middle (tower 4 l))) em ∙ sets_zeros (length m) (2 * d.middles) (area_middle (tower 4 l)) z s.middle)
            (ap (λ (x : List ℕ). sets x (2 * d.larges) (area_large (tower 4 l))) eg ∙ sets_zeros (length g) (2 * d.larges) (area_large (tower 4 l)) y s.large),
        r.zeros,
      )

-- ---- a string that stands in scratch

first_some : (o : Option Refusal) (rs : List (Option Refusal)) (x : Refusal) → o ≡ some x → first_of (o ∷ rs) ≡ some x
unfolding first_of
first_some o rs x e = ap (λ p. first_of (p ∷ rs)) e

first_skip : (o : Option Refusal) (rs : List (Option Refusal)) → o ≡ none → first_of (o ∷ rs) ≡ first_of rs
unfolding first_of
first_skip o rs e = ap (λ p. first_of (p ∷ rs)) e

-- the string is the one that was looked at
module _ (scr : List ℕ) (n : ℕ) (t : Bool) (q : t ≡ one_root (bits_of (take (length scr - (n + 1)) (drop (n + 1) scr)) (2 * n + 2))) where
  root_is : t ≡ one_root (string_in scr n)
  unfolding string_in
  root_is = q ∙ ap (λ (x : List ℕ). one_root (bits_of x (2 * n + 2))) (part_is scr (n + 1))

  pub raise_stands : n ≤ greatest → 2 * n + 2 ≤ length scr → t ≡ true → Stands scr n
  raise_stands few room h = record { few = few; room = room; root = sym root_is ∙ h }

-- a string without a family
pub plan_short : (scr : List ℕ) (n : ℕ) → Holds scr n → n < 32 → (p : Plan) → (p.counts ≡ alone_of (2 * n + 2)) × (p.sizes ≡ sizes_of (2 * n + 2))
    → PlanIs (Ok p) 4 1 (string_in scr n)
plan_short scr n h l p q =
    subst (Takes p 4 1) (sym (string_text scr n)) (plan_last scr (lay_of n) 4 1 (holds_standing scr n h, omega arith, omega arith) (omega arith) p q)

module _ (scr : List ℕ) (n : ℕ) (a : Held) (labels : ℕ) where
  abbrev S : List Bool
  S = string_in scr n

  abbrev rooms : Rooms
  rooms = rooms_at a labels (length scr)

  module _ (s : Stands scr n) where
    within : raise_in scr n a labels
        ≡ elim (first_of (string_checks S n rooms)) [
          | none ↦ raising (is (record { nodes = n; counts = counted (tower 4 S) })) (written rooms (tower 4 S)) (replicate (length scr) 0)
          | some r ↦ raising (refused r) a (replicate (length scr) 0)
        ]
    unfolding raise_in
    within = if_true _ _ (and_true (le-leb n greatest s.few) (and_true (le-leb (2 * n + 2) (length scr) s.room) s.root))

    refused_is : (x : refusal.Refusal) → first_of (string_checks S n rooms) ≡ some (refusal_of x) → (exit : List ℕ) → Raised scr n a labels a exit (Err x)
    refused_is x e exit = record { outcome = sym (if_some _ _ (refusal_of x) e) ∙ sym within; zeros = λ f. absurd (clash refl f); sized = tt }

    -- the plan
    module _ (one : List ℕ) (q : one ≡ holding (n + 1) (length scr) S) where
      held : Holds one n × (string_in one n ≡ S) × (length one ≡ length scr)
      held = tidy_holds scr one n s q

      pub raise_refused : (r : refusal.Refusal) → PlanIs (Err r) 4 1 (string_in one n) → (exit : List ℕ) → Raised scr n a labels a exit (Err r)
      unfolding string_checks
      raise_refused r p exit = refused_is r (first_some _ _ (refusal_of r) (ap (full_from 4 1) (sym held.1) ∙ p)) exit

      module _ (p : Plan) (two : List ℕ) (k : PlanIs (Ok p) 4 1 (string_in one n) × (two ≡ one)) where
        plan_is : Takes p 4 1 S
        plan_is = subst (Takes p 4 1) held.1 k.0

        raise_length : length two ≡ length scr
        raise_length = ap length k.1 ∙ held.2

        narrow : full_from 4 1 S ≡ none
        narrow = plan_is.narrow

        sizes : SizesAre p.sizes (tower 4 S)
        sizes = plan_is.sizes

        -- by the sizes
        same_checks : first_of (string_checks S n rooms) ≡ first_of (size_checks p.sizes n (length a.words) (length a.bytes) (length a.middle) (length a.large) labels)
        unfolding string_checks size_checks
        same_checks =
            first_skip _ _ narrow
            ∙ ap₂ (λ i j. first_of (check (leb i (length a.words)) 4 (0 ∷ []) ∷ check (leb j (length a.bytes)) 4 (1 ∷ []) ∷ check (leb (length (area_middle (tower 4 S))) (length a.middle)) 4 (2 ∷ []) ∷ check (leb (length (area_large (tower 4 S))) (length a.large)) 4 (3 ∷ []) ∷ check (leb n labels) 4 (4 ∷ []) ∷ []))
            (sym sizes.words) (sym sizes.bytes)
            ∙ ap₂ (λ i j. first_of (check (leb p.sizes.words (length a.words)) 4 (0 ∷ []) ∷ check (leb p.sizes.dict.bytes (length a.bytes)) 4 (1 ∷ []) ∷ check (leb i (length a.middle)) 4 (2 ∷ []) ∷ check (leb j (length a.large)) 4 (3 ∷ []) ∷ check (leb n labels) 4 (4 ∷ []) ∷ []))
            (sym sizes.middle) (sym sizes.large)

        pub raise_room : (r : refusal.Refusal) → some (refusal_of r) ≡ first_of (size_checks p.sizes n (length a.words) (length a.bytes) (length a.middle) (length a.large) labels)
            → (exit : List ℕ) → Raised scr n a labels a exit (Err r)
        raise_room r c exit = refused_is r (same_checks ∙ sym c) exit

        module _ (c : none ≡ first_of (size_checks p.sizes n (length a.words) (length a.bytes) (length a.middle) (length a.large) labels)) where
          none_refuses : first_of (string_checks S n rooms) ≡ none
          none_refuses = same_checks ∙ sym c

          pub raise_fills : Fills two n a
          unfolding string_checks
          raise_fills =
              let t : string_in two n ≡ S = ap (λ y. string_in y n) k.1 ∙ held.1 in
              let r₀ = first_none _ _ none_refuses in
              let r₁ = first_none _ _ r₀.1 in
              let r₂ = first_none _ _ r₁.1 in
              let r₃ = first_none _ _ r₂.1 in
              let r₄ = first_none _ _ r₃.1 in
              record {
                holds = subst (λ y. Holds y n) (sym k.1) held.0;
                narrow = ap (full_from 4 1) t ∙ narrow;
                words = subst (λ y. length (area_words (tower 4 y)) ≤ length a.words) (sym t) (leb-true _ _ (check_none _ _ _ r₁.0));
                bytes = subst (λ y. length (area_bytes (tower 4 y)) ≤ length a.bytes) (sym t) (leb-true _ _ (check_none _ _ _ r₂.0));
                middle = subst (λ y. length (area_middle (tower 4 y)) ≤ length a.middle) (sym t) (leb-true _ _ (check_none _ _ _ r₃.0));
                large = subst (λ y. length (area_large (tower 4 y)) ≤ length a.large) (sym t) (leb-true _ _ (check_none _ _ _ r₄.0));
              }

          pub raise_made : (b : Held) (exit : List ℕ) → (b ≡ written (rooms_at a 0 0) (tower 4 (string_in two n))) × (exit ≡ replicate (length two) 0)
              → Sized (made_of p.counts n) → Raised scr n a labels b exit (Ok (made_of p.counts n))
          unfolding written tree_in
          raise_made b exit h z =
              let t : string_in two n ≡ S = ap (λ y. string_in y n) k.1 ∙ held.1 in
              record {
                outcome =
                    (λ j. raising (is (record { nodes = n; counts = plan_is.counts j })) ((h.0 ∙ ap (λ y. written rooms (tower 4 y)) t) j) (replicate (length scr) 0))
                    ∙ sym (if_none _ _ none_refuses) ∙ sym within;
                zeros = λ f. h.1 ∙ ap (λ y. replicate y 0) raise_length;
                sized = z;
              }

  -- no string of n nodes
  broken_is : (leb n greatest && (leb (2 * n + 2) (length scr) && one_root S)) ≡ false → (exit : List ℕ) → Raised scr n a labels a exit (Err Broken)
  unfolding raise_in
  broken_is e exit = record { outcome = sym (if_false _ _ e); zeros = λ f. absurd (clash refl f); sized = tt }

  pub broken_many : greatest < n → (exit : List ℕ) → Raised scr n a labels a exit (Err Broken)
  broken_many h = broken_is (ap (λ b. b && (leb (2 * n + 2) (length scr) && one_root S)) (lt-leb n greatest h))

  module _ (few : n ≤ greatest) where
    pub broken_room : length scr < 2 * n + 2 → (exit : List ℕ) → Raised scr n a labels a exit (Err Broken)
    broken_room h = broken_is (ap₂ (λ b c. b && (c && one_root S)) (le-leb n greatest few) (lt-leb (2 * n + 2) (length scr) h))

    module _ (room : 2 * n + 2 ≤ length scr) (t : Bool) (q : t ≡ one_root (bits_of (take (length scr - (n + 1)) (drop (n + 1) scr)) (2 * n + 2))) where
      pub broken_root : t ≡ false → (exit : List ℕ) → Raised scr n a labels a exit (Err Broken)
      broken_root h = broken_is (ap₂ (λ b c. b && (c && one_root S)) (le-leb n greatest few) (le-leb (2 * n + 2) (length scr) room) ∙ sym (root_is scr n t q) ∙ h)

  -- and scratch cleared
  pub raises : (b : Held) (exit : List ℕ) (r : Result Counts refusal.Refusal) → Raised scr n a labels b exit r → (end : List ℕ) → end ≡ replicate (length scr) 0
      → Raises scr n a labels b end r
  raises b exit r x end z = record { outcome = ap (raising (said_tree r) b) z ∙ x.outcome; sized = x.sized }
