-- The ways out of `write_family`: a dictionary that has room is written.
use mathlib.Core.Path.{◌≡◌, refl, sym, ap, ◌∙◌}
use mathlib.Core.Bool.{Bool, false}
use mathlib.Core.List.{List}
use Prim.Native.Nat.{ℕ, ◌+◌, ◌-◌, ◌/◌, ◌≤◌}
use native.Mathlib.Omega.{arith}
use lib.ListN.{length, take, drop}
use Rattle.meaning.specs.Answers.{is}
use Rattle.meaning.specs.Bits.{bits_of}
use Rattle.meaning.specs.Pioneers.{flags}
use Rattle.meaning.specs.Dictionary.{dict_of}
use Rattle.meaning.specs.Refusals.{full_block}
use Rattle.meaning.specs.Direct.{Entries, DictAfter, DictAccepted, entries_of, dict_put, dict_rooms, dict_write}
use Rattle.meaning.proofs.If.{clash}
use Rattle.meaning.proofs.Planned.{write_accepted}
use Rattle.meaning.proofs.Pack.{length_pack}
use Rattle.sparse_one_nnd.specs.Said.{entries_in, dict_at, said_entries, after}
use Rattle.sparse_one_nnd.specs.declared.SparseOneNnd.{SparseOneNnd}
use Rattle.pioneers.specs.Scratch.{text_of, with_flags, marking, mark_in}
use Rattle.pioneers.specs.Keep.{keeping, compact_in}
use Rattle.pioneers.specs.declared.flags.Layout.{Layout}
use Rattle.pioneers.proofs.Parts.{part_is}
use Rattle.parentheses.specs.Writes.{Putting, PutIs}
use Rattle.std.specs.Prelude.{Some, Result, Ok, Err}
use Rattle.refusal.specs.declared.Refusal.{Refusal}
use Rattle.parentheses.proofs.Holds.{level_fits, marks, marked_length, marked_part, marked_bits, compacts}

-- an answer that is not refused is a dictionary
said_made : (w : Result SparseOneNnd Refusal) (e : Entries) → said_entries w ≡ is e → (d : SparseOneNnd) × (w ≡ Ok d) × (entries_in d ≡ e)
said_made (Ok d) e q = (d, refl, cc)
said_made (Err r) e q = absurd cc

module _ (scr : List ℕ) (lay : Layout) (o : SparseOneNnd) (b m g : List ℕ) (s : Putting scr lay o b m g) (r : Bool) (k : List ℕ) (q : marking r k ≡ mark_in scr lay) where
  abbrev l : List Bool
  l = text_of scr lay

  is_marked : k ≡ with_flags scr lay (flags l)
  is_marked = (marks scr lay s.standing s.long r k q).1

  pub put_unmarked : r ≡ false → {A : Type 0} → A
  put_unmarked e = absurd (clash (marks scr lay s.standing s.long r k q).0 e)

  pub put_part : lay.flags ≤ length k
  put_part = omega (arith, (level_fits scr lay s.standing s.long).inside, marked_length scr lay s.standing s.long k is_marked)

  -- the flags' words
  abbrev W : List ℕ
  W = drop lay.flags k

  bits_are : bits_of W lay.bits ≡ flags l
  bits_are = marked_bits scr lay s.standing s.long k is_marked

  rooms : DictAccepted W lay.bits (dict_rooms (entries_in o) (dict_at b m g))
  unfolding dict_rooms
  rooms =
      record {
        inside = omega (
          arith,
          ap length (marked_part scr lay s.standing s.long k is_marked),
          length_pack (length scr - lay.flags) (flags l),
          (level_fits scr lay s.standing s.long).top,
        );
        few = s.standing.few;
        narrow = ap (full_block (lay.bits / 256 + 1) 0) bits_are ∙ s.narrow;
        bytes = omega (arith, ap (λ f. length (dict_of f).bytes) bits_are, s.bytes);
        middle = omega (arith, ap (λ f. length (dict_of f).middle) bits_are, s.middle);
        large = omega (arith, ap (λ f. length (dict_of f).large) bits_are, s.large);
      }

  wrote : dict_write W lay.bits (entries_in o) (dict_at b m g) ≡ after (is (entries_of (dict_of (flags l)))) (dict_put (entries_in o) (dict_of (flags l)) (dict_at b m g))
  wrote =
      write_accepted W lay.bits (entries_in o) (dict_at b m g) rooms
      ∙ ap (λ f. after (is (entries_of (dict_of f))) (dict_put (entries_in o) (dict_of f) (dict_at b m g))) bits_are

  module _ (w : Result SparseOneNnd Refusal) (b' m' g' : List ℕ)
      (e : after (said_entries w) (dict_at b' m' g') ≡ dict_write (take (length k - lay.flags) (drop lay.flags k)) lay.bits (entries_in o) (dict_at b m g)) where
    all : after (said_entries w) (dict_at b' m' g') ≡ after (is (entries_of (dict_of (flags l)))) (dict_put (entries_in o) (dict_of (flags l)) (dict_at b m g))
    all = e ∙ ap (λ (x : List ℕ). dict_write x lay.bits (entries_in o) (dict_at b m g)) (part_is k lay.flags) ∙ wrote

    made : (d : SparseOneNnd) × (w ≡ Ok d) × (entries_in d ≡ entries_of (dict_of (flags l)))
    made = said_made w (entries_of (dict_of (flags l))) (ap (λ (x : DictAfter). x.reply) all)

    pub put_refused : ((d : SparseOneNnd) → w ≡ Ok d → ⊥) → {A : Type 0} → A
    put_refused n = absurd (n made.0 made.1)

    pub put_made : (d : SparseOneNnd) → w ≡ Ok d → (n : ℕ) (exit : List ℕ) → keeping n exit ≡ compact_in k lay
        → PutIs (Some (record { dict = d; bits = n })) scr lay o b m g exit b' m' g'
    unfolding PutIs
    put_made d z n exit c =
        let a = compacts scr lay s.standing s.long k is_marked n exit c in
        let u : d ≡ made.0 = same d made.0 (sym z ∙ made.1) in
        (ap entries_in u ∙ made.2, a.0, a.1, ap (λ (x : DictAfter). x.areas) all)
      where
        same : (x y : SparseOneNnd) → ◌≡◌ {A = Result SparseOneNnd Refusal} (Ok x) (Ok y) → x ≡ y
        same x y p = cc
