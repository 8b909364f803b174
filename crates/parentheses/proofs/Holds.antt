-- Scratch that holds a string, and a string with its flags: what its parts are, and what marking and compacting leave of it.
use mathlib.Core.Path.{◌≡◌, sym, ap, ap₂, ◌∙◌}
use mathlib.Core.Bool.{Bool, true}
use mathlib.Core.List.{List, [], ◌++◌, append_assoc, append-nil}
use Prim.Native.Nat.{ℕ, ◌+◌, ◌-◌, ◌*◌, ◌≤◌, ◌<◌}
use native.Mathlib.Omega.{arith}
use lib.ListN.{length, get_or, take, drop, replicate, length-append, length-replicate, get_or-append}
use lib.Seq.{slice, length-slice, take_at, drop_at, get_or-drop, get_or-take, get_or-append-add}
use borrow.Author.Tests.{le-leb}
use Rattle.meaning.specs.Bits.{bits_of, pack}
use Rattle.meaning.specs.Pioneers.{flags, keep, pioneer_string}
use Rattle.meaning.specs.Growth.{OneRoot, one_root}
use Rattle.meaning.proofs.If.{if_true, and_true}
use Rattle.meaning.proofs.Pack.{length_pack, pack_holds}
use Rattle.meaning.proofs.Tab.{opens_closes}
use Rattle.meaning.proofs.Root.{up_root}
use Rattle.meaning.proofs.OneRoot.{one_root_test}
use Rattle.meaning.proofs.Up.{length_flags}
use Rattle.meaning.proofs.Keep.{length_keep}
use Rattle.pioneers.specs.Placed.{holding}
use Rattle.pioneers.specs.Scratch.{text_of, flags_of, fits_in, with_flags, Marking, marking, mark_in}
use Rattle.pioneers.specs.Keep.{Keeping, keeping, trimmed, compact_in}
use Rattle.pioneers.specs.declared.flags.Layout.{Layout}
use Rattle.pioneers.proofs.Parts.{Fits, fits_are, text_length, text_same}
use Rattle.parentheses.specs.Plans.{Standing}

-- the words of a list are its own, whatever is packed behind them
bits_back : (k m : ℕ) (l : List Bool) → length l ≡ m → m ≤ 64 * k → bits_of (pack k l) m ≡ l
bits_back k m l e h = ap₂ bits_of (sym (append-nil (pack k l))) (sym e) ∙ pack_holds k l [] (omega arith)

module _ (t k : ℕ) (l : List Bool) (h : t ≤ k) where
  pub length_holding : length (holding t k l) ≡ k
  unfolding holding
  length_holding =
      length-append (replicate t 0) (pack (k - t) l) ∙ omega (arith, length-replicate {A = ℕ} t 0, length_pack (k - t) l)

  pub drop_holding : drop t (holding t k l) ≡ pack (k - t) l
  unfolding holding
  drop_holding = drop_at (replicate t 0) (pack (k - t) l) t (length-replicate t 0)

-- the string that it holds
pub text_held : (lay : Layout) (k : ℕ) (l : List Bool) → lay.text ≤ k → length l ≡ lay.bits → lay.bits ≤ 64 * (k - lay.text) → text_of (holding lay.text k l) lay ≡ l
unfolding text_of
text_held lay k l h e r = ap (λ (s : List ℕ). bits_of s lay.bits) (drop_holding lay.text k l h) ∙ bits_back (k - lay.text) lay.bits l e r

-- a string and its flags
module _ (scr : List ℕ) (lay : Layout) (f : Fits lay (length scr)) (b : List Bool) (e : length b ≡ lay.bits) where
  mid : length (slice lay.text lay.flags scr) ≡ lay.flags - lay.text
  mid = length-slice lay.text lay.flags scr f.inside

  front : length (replicate lay.text 0 ++ slice lay.text lay.flags scr) ≡ lay.flags
  front =
      length-append (replicate lay.text 0) (slice lay.text lay.flags scr)
      ∙ omega (arith, length-replicate {A = ℕ} lay.text 0, mid, f.order)

  joined : with_flags scr lay b ≡ (replicate lay.text 0 ++ slice lay.text lay.flags scr) ++ pack (length scr - lay.flags) b
  unfolding with_flags
  joined = sym (append_assoc (replicate lay.text 0) (slice lay.text lay.flags scr) (pack (length scr - lay.flags) b))

  pub length_with : length (with_flags scr lay b) ≡ length scr
  length_with =
      ap length joined ∙ length-append (replicate lay.text 0 ++ slice lay.text lay.flags scr) (pack (length scr - lay.flags) b)
      ∙ omega (arith, front, length_pack (length scr - lay.flags) b, f.inside)

  pub flags_part : drop lay.flags (with_flags scr lay b) ≡ pack (length scr - lay.flags) b
  flags_part = ap (drop lay.flags) joined ∙ drop_at (replicate lay.text 0 ++ slice lay.text lay.flags scr) (pack (length scr - lay.flags) b) lay.flags front

  pub flags_with : flags_of (with_flags scr lay b) lay ≡ b
  unfolding flags_of
  flags_with = ap (λ (s : List ℕ). bits_of s lay.bits) flags_part ∙ bits_back (length scr - lay.flags) lay.bits b e f.top

  pub front_with : take lay.text (with_flags scr lay b) ≡ replicate lay.text 0
  unfolding with_flags
  front_with = take_at (replicate lay.text 0) (slice lay.text lay.flags scr ++ pack (length scr - lay.flags) b) lay.text (length-replicate lay.text 0)

  pub text_with : text_of (with_flags scr lay b) lay ≡ text_of scr lay
  text_with = text_same (with_flags scr lay b) scr lay (length scr) f word
    where
      word : (w : ℕ) → lay.text ≤ w → w < lay.flags → get_or (with_flags scr lay b) w 0 ≡ get_or scr w 0
      word w g h =
          let u : w ≡ length (replicate {A = ℕ} lay.text 0) + (w - lay.text) = omega (arith, length-replicate {A = ℕ} lay.text 0) in
          let v : lay.text + (w - lay.text) ≡ w = omega arith in
          ap (λ (s : List ℕ). get_or s w 0) joined
          ∙ get_or-append (replicate lay.text 0 ++ slice lay.text lay.flags scr) (pack (length scr - lay.flags) b) 0 w (omega (arith, front))
          ∙ ap (λ (x : ℕ). get_or (replicate lay.text 0 ++ slice lay.text lay.flags scr) x 0) u
          ∙ get_or-append-add (replicate lay.text 0) (slice lay.text lay.flags scr) (w - lay.text) 0
          ∙ get_or-drop lay.text (take lay.flags scr) (w - lay.text) 0
          ∙ get_or-take lay.flags scr (lay.text + (w - lay.text)) 0 (omega arith)
          ∙ ap (λ (x : ℕ). get_or scr x 0) v

-- a shorter string fits where a longer one does
pub fits_shorter : (lay : Layout) (m k : ℕ) → m ≤ lay.bits → fits_in lay k ≡ true → fits_in (record { text = lay.text; flags = lay.flags; bits = m }) k ≡ true
unfolding fits_in
fits_shorter lay m k h e =
    let f = fits_are lay k e in
    and_true (le-leb _ _ f.order)
    (and_true (le-leb _ _ f.inside)
    (and_true (le-leb _ _ f.small)
    (and_true (le-leb m (2 * lay.text) (omega (arith, f.stack)))
    (and_true (le-leb m (64 * (lay.flags - lay.text)) (omega (arith, f.text)))
    (le-leb m (64 * (k - lay.flags)) (omega (arith, f.top)))))))

-- a level with a family
module _ (scr : List ℕ) (lay : Layout) (s : Standing scr lay) (long : 64 < lay.bits) where
  abbrev l : List Bool
  l = text_of scr lay

  pub level_fits : Fits lay (length scr)
  level_fits = fits_are lay (length scr) (s.fits long)

  pub level_root : OneRoot l
  level_root = (one_root_test l).0 s.root

  flags_size : length (flags l) ≡ lay.bits
  flags_size = length_flags l ∙ text_length scr lay

  -- marking gives its flags
  pub marks : (r : Bool) (exit : List ℕ) → marking r exit ≡ mark_in scr lay → (r ≡ true) × (exit ≡ with_flags scr lay (flags l))
  unfolding mark_in
  marks r exit e =
      let u : marking r exit ≡ marking true (with_flags scr lay (flags l)) = e ∙ if_true _ _ (and_true (s.fits long) s.root) in
      (ap (λ (x : Marking). x.done) u, ap (λ (x : Marking). x.scr) u)

  module _ (m : List ℕ) (q : m ≡ with_flags scr lay (flags l)) where
    pub marked_length : length m ≡ length scr
    marked_length = ap length q ∙ length_with scr lay level_fits (flags l) flags_size

    -- the dictionary is asked for them
    pub marked_part : drop lay.flags m ≡ pack (length scr - lay.flags) (flags l)
    marked_part = ap (drop lay.flags) q ∙ flags_part scr lay level_fits (flags l) flags_size

    pub marked_bits : bits_of (drop lay.flags m) lay.bits ≡ flags l
    unfolding flags_of
    marked_bits = ap (λ (x : List ℕ). flags_of x lay) q ∙ flags_with scr lay level_fits (flags l) flags_size

    -- compacting gives the pioneer string
    pub compacts : (r : ℕ) (exit : List ℕ) → keeping r exit ≡ compact_in m lay
        → (r ≡ length (pioneer_string l)) × (exit ≡ holding lay.text (length scr) (pioneer_string l))
    unfolding compact_in trimmed holding pioneer_string
    compacts r exit e =
        let a : keep (flags_of m lay) (text_of m lay) ≡ keep (flags l) l =
        ap₂ keep (ap (λ (x : List ℕ). flags_of x lay) q ∙ flags_with scr lay level_fits (flags l) flags_size)
        (ap (λ (x : List ℕ). text_of x lay) q ∙ text_with scr lay level_fits (flags l) flags_size) in
        let u : keeping r exit ≡ trimmed m lay = e ∙ if_true _ _ (ap (fits_in lay) marked_length ∙ s.fits long) in (
          ap (λ (x : Keeping). x.at) u ∙ ap length a,
          ap (λ (x : Keeping). x.scr) u
              ∙ ap₂ (λ (x y : List ℕ). x ++ y) (ap (take lay.text) q ∙ front_with scr lay level_fits (flags l) flags_size)
              (ap₂ (λ (n : ℕ) (b : List Bool). pack (n - lay.text) b) marked_length a),
        )

  -- which stands there in its turn
  pub pioneer_size : length (pioneer_string l) ≤ lay.bits
  unfolding pioneer_string
  pioneer_size = omega (arith, length_keep (flags l) l (length_flags l), opens_closes (flags l), flags_size)

  pub standing_next : (exit : List ℕ) (m : ℕ) → m ≡ length (pioneer_string l) → exit ≡ holding lay.text (length scr) (pioneer_string l)
      → Standing exit (record { text = lay.text; flags = lay.flags; bits = m }) × (text_of exit (record { text = lay.text; flags = lay.flags; bits = m }) ≡ pioneer_string l) × (length exit ≡ length scr)
  standing_next exit m e q =
      let size : length exit ≡ length scr = ap length q ∙ length_holding lay.text (length scr) (pioneer_string l) s.inside in
      let next : Layout = record { text = lay.text; flags = lay.flags; bits = m } in
      let t : text_of exit next ≡ pioneer_string l =
      ap (λ (x : List ℕ). text_of x next) q ∙ text_held next (length scr) (pioneer_string l) s.inside (sym e) (omega (arith, pioneer_size, s.room)) in (
        record {
          holds = q ∙ ap₂ (λ (n : ℕ) (b : List Bool). holding lay.text n b) (sym size) (sym t);
          root = ap one_root t ∙ (one_root_test (pioneer_string l)).1 (up_root l level_root (omega (arith, text_length scr lay)));
          few = omega (arith, pioneer_size, s.few);
          inside = omega (arith, s.inside, size);
          room = omega (arith, pioneer_size, s.room, size);
          fits = λ h. fits_shorter lay m (length exit) (omega (arith, pioneer_size)) (ap (fits_in lay) size ∙ s.fits long);
        },
        t,
        size,
      )
