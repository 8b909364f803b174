-- The ways out of `plan_family`: what the dictionary's plan says of the flags of a level.
use mathlib.Core.Path.{◌≡◌, refl, sym, ap, ◌∙◌}
use mathlib.Core.Bool.{Bool, false}
use mathlib.Core.Option.{Option, none, some}
use mathlib.Core.List.{List}
use Prim.Native.Nat.{ℕ, ◌+◌, ◌-◌, ◌*◌, ◌/◌, ◌≤◌, ◌<◌}
use native.Mathlib.Omega.{arith}
use lib.ListN.{length, take, drop}
use Rattle.meaning.specs.Answers.{refused}
use Rattle.meaning.specs.Bits.{bits_of}
use Rattle.meaning.specs.Pioneers.{flags}
use Rattle.meaning.specs.Dictionary.{dict_of}
use Rattle.meaning.specs.Refusals.{full_block}
use Rattle.meaning.specs.Direct.{entries_of, dict_plan, most_bits}
use Rattle.meaning.proofs.If.{clash}
use Rattle.meaning.proofs.Pack.{length_pack}
use Rattle.meaning.proofs.Planned.{plan_is, plan_at_full, plan_fits}
use Rattle.sparse_one_nnd.specs.Said.{entries_in, said_entries}
use Rattle.sparse_one_nnd.specs.declared.SparseOneNnd.{SparseOneNnd}
use Rattle.pioneers.specs.Scratch.{text_of, with_flags, marking, mark_in}
use Rattle.pioneers.specs.Keep.{keeping, compact_in}
use Rattle.pioneers.specs.declared.flags.Layout.{Layout}
use Rattle.pioneers.proofs.Parts.{part_is}
use Rattle.parentheses.specs.Plans.{Standing, FamilyIs}
use Rattle.std.specs.Prelude.{Result, Ok, Err}
use Rattle.refusal.specs.Said.{refusal_of}
use Rattle.refusal.specs.declared.Refusal as refusal
use Rattle.refusal.specs.declared.Refusal.TheVariants.{Full}
use Rattle.refusal.proofs.Agree.{same_refusal}
use Rattle.parentheses.proofs.Holds.{level_fits, marks, marked_length, marked_part, marked_bits, compacts}

-- a plan of flags that fit is a dictionary or FULL
only_full : (ws : List ℕ) (n : ℕ) → n ≤ 64 * length ws → n ≤ most_bits → (r : refusal.Refusal) → said_entries (Err r) ≡ dict_plan ws n
    → (b : ℕ) × (full_block (n / 256 + 1) 0 (bits_of ws n) ≡ some b) × (r ≡ Full 0 b)
only_full ws n h k r q = go (full_block (n / 256 + 1) 0 (bits_of ws n)) refl
  where
    go : (o : Option ℕ) → full_block (n / 256 + 1) 0 (bits_of ws n) ≡ o
        → (b : ℕ) × (full_block (n / 256 + 1) 0 (bits_of ws n) ≡ some b) × (r ≡ Full 0 b)
    go none e = absurd (let f = q ∙ plan_is ws n h k e in cc)
    go (some b) e =
        let f : refused (refusal_of r) ≡ refused (refusal_of (Full 0 b)) = q ∙ plan_at_full ws n h k b e in
        let g : refusal_of r ≡ refusal_of (Full 0 b) = cc in
        (b, e, same_refusal r (Full 0 b) g)

module _ (scr : List ℕ) (lay : Layout) (level : ℕ) (s : Standing scr lay × (64 < lay.bits)) (r : Bool) (m : List ℕ) (q : marking r m ≡ mark_in scr lay) where
  abbrev l : List Bool
  l = text_of scr lay

  is_marked : m ≡ with_flags scr lay (flags l)
  is_marked = (marks scr lay s.0 s.1 r m q).1

  pub family_unmarked : r ≡ false → {A : Type 0} → A
  family_unmarked e = absurd (clash (marks scr lay s.0 s.1 r m q).0 e)

  pub family_part : lay.flags ≤ length m
  family_part = omega (arith, (level_fits scr lay s.0 s.1).inside, marked_length scr lay s.0 s.1 m is_marked)

  module _ (p : Result SparseOneNnd refusal.Refusal) (e : said_entries p ≡ dict_plan (take (length m - lay.flags) (drop lay.flags m)) lay.bits) where
    abbrev W : List ℕ
    W = drop lay.flags m

    by : said_entries p ≡ dict_plan W lay.bits
    by = e ∙ ap (λ (w : List ℕ). dict_plan w lay.bits) (part_is m lay.flags)

    bits_are : bits_of W lay.bits ≡ flags l
    bits_are = marked_bits scr lay s.0 s.1 m is_marked

    inside : lay.bits ≤ 64 * length W
    inside =
        omega (
          arith,
          ap length (marked_part scr lay s.0 s.1 m is_marked),
          length_pack (length scr - lay.flags) (flags l),
          (level_fits scr lay s.0 s.1).top,
        )

    pub family_made : (d : SparseOneNnd) → p ≡ Ok d → (n : ℕ) (exit : List ℕ) → keeping n exit ≡ compact_in m lay → FamilyIs (Ok (record { dict = d; bits = n })) level scr lay exit
    unfolding FamilyIs
    family_made d z n exit k =
        let a = plan_fits W lay.bits (entries_in d) (sym (ap said_entries (sym z) ∙ by)) in
        let c = compacts scr lay s.0 s.1 m is_marked n exit k in (
          ap (full_block (lay.bits / 256 + 1) 0) (sym bits_are) ∙ a.narrow,
          a.counts ∙ ap (λ f. entries_of (dict_of f)) bits_are,
          c.0,
          c.1,
        )

    -- a refusal is FULL
    refuses : (r : refusal.Refusal) → p ≡ Err r → (b : ℕ) × (full_block (lay.bits / 256 + 1) 0 (flags l) ≡ some b) × (r ≡ Full 0 b)
    refuses r z =
        let o = only_full W lay.bits inside s.0.few r (ap said_entries (sym z) ∙ by) in
        (o.0, ap (full_block (lay.bits / 256 + 1) 0) (sym bits_are) ∙ o.1, o.2)

    -- which is told of the level
    pub family_refused : (r : refusal.Refusal) → p ≡ Err r → (q : refusal.Refusal) → ((v b : ℕ) → r ≡ Full v b → q ≡ Full level b) → FamilyIs (Err q) level scr lay m
    unfolding FamilyIs
    family_refused r z q n = let o = refuses r z in (o.0, o.1, n 0 o.0 o.2)
