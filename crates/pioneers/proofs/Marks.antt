-- The pass over a whole string: its start, its turns, its end.
use mathlib.Core.Path.{◌≡◌, refl, sym, ap, ap₂, ◌∙◌, subst}
use mathlib.Core.Bool.{Bool, true, false}
use mathlib.Core.List.{List, [], ◌++◌}
use mathlib.Core.Logic.{◌⊎◌, inl, inr}
use Prim.Native.Nat.{ℕ, suc, ◌+◌, ◌-◌, ◌*◌, ◌/◌, ◌^◌, ◌≤◌, ◌<◌}
use native.Mathlib.Nat.{not-suc-le-zero}
use native.Mathlib.Decide.{ℕ_discrete}
use native.Mathlib.Omega.{arith}
use lib.Dec.{eqb}
use lib.ListN.{length, get_or, take, drop, length-drop, length-take, replicate}
use lib.Seq.{slice, length-slice, ext_get_or, get_or-drop, get_or-take, take-length}
use borrow.Author.Tests.{eqb-true, eqb-false}
use Rattle.meaning.specs.Bits.{bit_at, opens, closes, pack}
use Rattle.meaning.specs.Pioneers.{flags}
use Rattle.meaning.proofs.If.{clash}
use Rattle.meaning.proofs.Tab.{Below, opens_closes}
use Rattle.meaning.proofs.Stored.{bit_at_drop, bit_at_past}
use Rattle.meaning.proofs.Pack.{is_pack, pack_nil, pack_bit}
use Rattle.meaning.proofs.String.{Walk}
use Rattle.meaning.proofs.Balanced.{walk_even}
use Rattle.meaning.proofs.Depth.{O, C, depth, up, part, floor}
use Rattle.meaning.proofs.Match.{Matched, same_close}
use Rattle.meaning.proofs.OneRoot.{one_root_test}
use Rattle.meaning.proofs.Pioneers.{Pioneer, Flagged}
use Rattle.meaning.proofs.Flag.{flag_sound, flag_complete}
use Rattle.meaning.proofs.Root.{root_walk}
use Rattle.pioneers.specs.Pick.{pick}
use Rattle.pioneers.specs.Turn.{turned, scan_of, marked, settled, turn_of, Near, Turns}
use Rattle.pioneers.specs.Scratch.{text_of, with_flags, Bare}
use Rattle.pioneers.specs.declared.flags.Layout.{Layout}
use Rattle.pioneers.specs.declared.flags.Scan.{Scan}
use Rattle.pioneers.proofs.Parts.{lt_or_ge, bit_kept, zeros_at, Fits, fits_are, text_length, text_bit, drop_split}
use Rattle.pioneers.proofs.Pass.{Pend, Inv, MarkFacts, mark_facts, some_open, next}
use Rattle.pioneers.proofs.Runs.{last_outermost}

bool_iff : (a b : Bool) → (a ≡ true → b ≡ true) → (b ≡ true → a ≡ true) → a ≡ b
bool_iff true b f g = sym (f refl)
bool_iff false true f g = g refl
bool_iff false false f g = refl

module _ (l : List Bool) (w : Walk 0 l 0) (i : ℕ) (h : i ≤ length l) where
  -- the depth is at most the places passed, and at most those left
  depth_left : depth l i + i ≤ length l
  unfolding depth O C
  depth_left =
      let a = part l i (length l) h in
      let b : opens (take (length l) l) ≡ opens l = ap opens (take-length l) in
      let d : closes (take (length l) l) ≡ closes l = ap closes (take-length l) in
      omega (arith, a, b, d, walk_even w, opens_closes (slice i (length l) l), length-slice i (length l) l (omega arith), floor l w i)

  depth_passed : depth l i ≤ i
  unfolding depth O C
  depth_passed = omega (arith, opens_closes (take i l), length-take i l)

module _ (scr₀ : List ℕ) (lay : Layout) (m : Bare scr₀ lay) where
  abbrev l : List Bool
  l = text_of scr₀ lay

  f : Fits lay (length scr₀)
  f = fits_are lay (length scr₀) m.fits

  pub low : 64 * lay.flags + lay.bits < 4294967296
  low = omega (arith, f.small, f.stack, f.order)

  pub inside : lay.text ≤ length scr₀
  inside = omega (arith, f.order, f.inside)

  walk : Walk 0 l 0
  walk = root_walk l ((one_root_test l).0 m.root)

  size : length l ≡ lay.bits
  size = text_length scr₀ lay

  bare : drop lay.flags scr₀ ≡ pack (length scr₀ - lay.flags) []
  bare = m.zeros ∙ sym (pack_nil (length scr₀ - lay.flags))

  no_flag : (j : ℕ) → bit_at scr₀ (64 * lay.flags + j) ≡ false
  no_flag j = sym (bit_at_drop scr₀ lay.flags j) ∙ go (lt_or_ge j (64 * length (drop lay.flags scr₀)))
    where
      go : (j < 64 * length (drop lay.flags scr₀)) ⊎ (64 * length (drop lay.flags scr₀) ≤ j) → bit_at (drop lay.flags scr₀) j ≡ false
      go (inl h) = ap (λ (s : List ℕ). bit_at s j) bare ∙ pack_bit (length scr₀ - lay.flags) [] j (omega (arith, length-drop lay.flags scr₀))
      go (inr h) = bit_at_past (drop lay.flags scr₀) j h

  pub start : Inv l lay scr₀ scr₀ 0 (scan_of 0 0 0)
  unfolding depth O C opens closes
  start =
      record {
        len = refl;
        fits = subst (Below (2 ^ 64)) (sym m.zeros) (λ i. subst (λ (x : ℕ). x < 2 ^ 64) (sym (zeros_at (length scr₀ - lay.flags) i)) (omega arith));
        within = omega arith;
        height = refl;
        stack = λ j g. absurd (not-suc-le-zero g);
        text = λ w a b. refl;
        order = omega arith;
        pend = inl refl;
        last = λ q d k f g. absurd (not-suc-le-zero g);
        done = λ j b. absurd (clash b (no_flag j));
        flag = λ j x. absurd (not-suc-le-zero x.before);
      }

  module _ (scr : List ℕ) (i : ℕ) (s : Scan) (v : Inv l lay scr₀ scr i s) where
    -- the string is not written
    same_bit : i < lay.bits → get_or l i false ≡ bit_at scr (64 * lay.text + i)
    same_bit h =
        text_bit scr₀ lay i h
        ∙ sym (bit_kept scr scr₀ lay.text i (v.text ((64 * lay.text + i) / 64) (omega arith) (omega (arith, f.text, f.order))))

    aft_in : (s.aft ≡ 0) ⊎ Pend (depth l) (length l) i s.fore s.aft → s.aft ≤ lay.bits
    aft_in (inl e) = omega arith
    aft_in (inr x) = omega (arith, x.pair.inside, size)

    pub near : Near (64 * lay.flags) s
    near = record { fore = omega (arith, aft_in v.pend, v.order, low); aft = omega (arith, aft_in v.pend, low) }

    half : (2 * depth l i ≤ lay.bits)
    half = omega (arith, depth_left l walk i v.within, depth_passed l walk i v.within, size)

    room : s.depth ≤ lay.text
    room = omega (arith, half, v.height, f.stack)

    more : i < lay.bits → get_or l i false ≡ true → s.depth < lay.text
    more h e =
        let h' : i < length l = omega (arith, size) in
        omega (arith, up l walk i h' e, depth_left l walk (suc i) h', depth_passed l walk (suc i) h', v.height, f.stack, size)

    pub turns : i < lay.bits → Turns scr lay i s
    turns h =
        record {
          small = omega (arith, f.order, low);
          near = near;
          room = omega (arith, room, f.order, f.inside, f.top, v.len);
          some = λ e. some_open l walk lay scr₀ scr i s v (omega (arith, size)) f.order (omega (arith, size, f.top)) (same_bit h ∙ e);
        }

    pub step : i < lay.bits → (r : Scan) (scr' : List ℕ) → turned r scr' ≡ turn_of scr (64 * lay.flags) (bit_at scr (64 * lay.text + i)) i s → Inv l lay scr₀ scr' (i + 1) r
    step h r scr' q =
        next l walk lay scr₀ scr i s v (omega (arith, size)) f.order (omega (arith, size, f.top))
        r scr' (bit_at scr (64 * lay.text + i)) (same_bit h) room (more h) (turns h).room q

    -- the end: the flags are all there
    module _ (end : lay.bits ≤ i) where
      i_is : i ≡ length l
      i_is = omega (arith, size, v.within)

      record Final (scr' : List ℕ) : Type 0 where
        len : length scr' ≡ length scr₀
        fits : Below (2 ^ 64) (drop lay.flags scr')
        text : (w : ℕ) → lay.text ≤ w → w < lay.flags → get_or scr' w 0 ≡ get_or scr₀ w 0
        sound : (j : ℕ) → bit_at scr' (64 * lay.flags + j) ≡ true → Flagged (depth l) (length l) j
        complete : (j : ℕ) → Flagged (depth l) (length l) j → bit_at scr' (64 * lay.flags + j) ≡ true

      no_later : (j : ℕ) (f : Flagged (depth l) (length l) j) → f.close_at ≤ s.aft
      no_later j f =
          v.last f.open_at f.close_at f.pioneer.pair f.pioneer.far (omega (arith, f.pioneer.pair.inside, i_is))

      final : (b : Bool) → eqb s.aft 0 ≡ b → Final (pick b scr (marked scr (64 * lay.flags) s))
      final true e =
          let z : s.aft ≡ 0 = eqb-true _ _ e in
          record {
            len = v.len;
            fits = v.fits;
            text = v.text;
            sound = λ j b. absurd (omega (arith, (v.done j b).before));
            complete = λ j f. absurd (omega (arith, no_later j f, f.pioneer.pair.after));
          }
      final false e = go v.pend
        where
          go : (s.aft ≡ 0) ⊎ Pend (depth l) (length l) i s.fore s.aft → Final (marked scr (64 * lay.flags) s)
          go (inl z) = absurd (eqb-false _ _ e z)
          go (inr x) =
              record {
                len = a.len ∙ v.len;
                fits = a.fits;
                text = λ w g h. a.low w h ∙ v.text w g h;
                sound = λ j b. to j (a.from j b);
                complete = λ j f. a.to j (back j f (ℕ_discrete f.close_at s.aft));
              }
            where
              a : MarkFacts lay scr s
              a = mark_facts l lay scr₀ scr s v.len v.fits (omega (arith, size, f.top)) x.pair

              pioneer : Pioneer (depth l) (length l) s.fore s.aft
              pioneer = last_outermost (depth l) (length l) s.fore s.aft x.pair x.far (λ q d k f g. v.last q d k f (omega (arith, i_is)))

              to : (j : ℕ) → (bit_at scr (64 * lay.flags + j) ≡ true) ⊎ ((j ≡ s.fore) ⊎ (j ≡ s.aft)) → Flagged (depth l) (length l) j
              to j (inl b) = let d = v.done j b in record { open_at = d.open_at; close_at = d.close_at; pioneer = d.pioneer; end = d.end }
              to j (inr b) = record { open_at = s.fore; close_at = s.aft; pioneer = pioneer; end = b }

              back : (j : ℕ) (f : Flagged (depth l) (length l) j) → Dec (f.close_at ≡ s.aft) → (bit_at scr (64 * lay.flags + j) ≡ true) ⊎ ((j ≡ s.fore) ⊎ (j ≡ s.aft))
              back j f (yes q) = inr (which f.end)
                where
                  same : f.open_at ≡ s.fore
                  same = same_close (depth l) (length l) f.open_at s.fore s.aft (subst (λ z. Matched (depth l) (length l) f.open_at z) q f.pioneer.pair) x.pair

                  which : (j ≡ f.open_at) ⊎ (j ≡ f.close_at) → (j ≡ s.fore) ⊎ (j ≡ s.aft)
                  which (inl y) = inl (y ∙ same)
                  which (inr y) = inr (y ∙ q)
              back j f (no n) =
                  inl (v.flag j (record { open_at = f.open_at; close_at = f.close_at; pioneer = f.pioneer; before = omega (arith, no_later j f, n); end = f.end }))

      -- each flag is the definition's
      flag_is : (scr' : List ℕ) → Final scr' → (j : ℕ) → bit_at (drop lay.flags scr') j ≡ get_or (flags l) j false
      flag_is scr' e j =
          bit_at_drop scr' lay.flags j
          ∙ bool_iff (bit_at scr' (64 * lay.flags + j)) (get_or (flags l) j false) (λ b. flag_complete l walk j (e.sound j b)) (λ b. e.complete j (flag_sound l walk j b))

      -- the string's words are as they were
      text_is : (scr' : List ℕ) → Final scr' → slice lay.text lay.flags scr' ≡ slice lay.text lay.flags scr₀
      text_is scr' e =
          ext_get_or 0 (slice lay.text lay.flags scr') (slice lay.text lay.flags scr₀)
          (length-slice lay.text lay.flags scr' (omega (arith, f.inside, e.len)) ∙ sym (length-slice lay.text lay.flags scr₀ f.inside))
          (λ x h.
          let g : lay.text + x < lay.flags = omega (arith, length-slice lay.text lay.flags scr' (omega (arith, f.inside, e.len))) in
          at scr' x g ∙ e.text (lay.text + x) (omega arith) g ∙ sym (at scr₀ x g))
        where
          at : (s : List ℕ) (x : ℕ) → lay.text + x < lay.flags → get_or (slice lay.text lay.flags s) x 0 ≡ get_or s (lay.text + x) 0
          at s x h = get_or-drop lay.text (take lay.flags s) x 0 ∙ get_or-take lay.flags s (lay.text + x) 0 h

      flags_are : (scr' : List ℕ) → Final scr' → drop lay.flags scr' ≡ pack (length scr₀ - lay.flags) (flags l)
      flags_are scr' e =
          is_pack (drop lay.flags scr') (length scr₀ - lay.flags) (flags l) (length-drop lay.flags scr' ∙ ap (λ (n : ℕ). n - lay.flags) e.len)
          e.fits (λ j h. flag_is scr' e j)

      pub finish : (scr' exit : List ℕ) → scr' ≡ settled scr (64 * lay.flags) s
          → exit ≡ replicate lay.text 0 ++ drop lay.text scr' → exit ≡ with_flags scr₀ lay (flags l)
      unfolding settled with_flags
      finish scr' exit p q =
          let e : Final scr' = subst Final (sym p) (final (eqb s.aft 0) refl) in
          q ∙ ap (λ (x : List ℕ). replicate lay.text 0 ++ x) (drop_split lay.text lay.flags scr' f.order ∙ ap₂ (λ (x y : List ℕ). x ++ y) (text_is scr' e) (flags_are scr' e))
