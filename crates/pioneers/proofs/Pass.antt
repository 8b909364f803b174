-- What the pass knows at place i, and that a turn keeps it.
use mathlib.Core.Path.{◌≡◌, refl, sym, ap, ◌∙◌, subst}
use mathlib.Core.Bool.{Bool, true, false, not}
use mathlib.Core.List.{List}
use mathlib.Core.Logic.{◌⊎◌, inl, inr}
use Prim.Native.Nat.{ℕ, suc, ◌+◌, ◌*◌, ◌-◌, ◌/◌, ◌^◌, ◌≤◌, ◌<◌}
use native.Mathlib.Nat.{eq-or-lt_of_le}
use native.Mathlib.Decide.{ℕ_discrete}
use native.Mathlib.Numerals.{add-one}
use native.Mathlib.Omega.{arith}
use lib.ListN.{length, get_or, set, drop, length-set}
use lib.Seq.{get_or-set_same, get_or-set_other, drop-set-lt}
use lib.Dec.{eqb}
use borrow.Author.Tests.{eqb-true, eqb-false}
use Rattle.meaning.specs.Bits.{bit_at, stored}
use Rattle.meaning.proofs.Tab.{Below}
use Rattle.meaning.proofs.Stored.{length_stored, stored_word, stored_below, stored_here, stored_other}
use Rattle.meaning.proofs.String.{Walk}
use Rattle.meaning.proofs.Depth.{depth, up, down}
use Rattle.meaning.proofs.Match.{Matched, same_close}
use Rattle.meaning.proofs.Pioneers.{Pioneer}
use Rattle.pioneers.specs.declared.flags.Scan.{Scan}
use Rattle.pioneers.specs.declared.flags.Layout.{Layout}
use Rattle.pioneers.specs.Pick.{pick}
use Rattle.pioneers.specs.Turn.{Turned, turned, scan_of, apart_of, marked, open_turn, pair_turn, turn_of}
use Rattle.pioneers.proofs.Parts.{bit_kept, drop_stored}
use Rattle.pioneers.proofs.Runs.{Far, not_outermost, is_outermost}

-- the open place p of depth j is not closed before i
pub record OpenAt (D : ℕ → ℕ) (i j p : ℕ) : Type 0 where
  pub before : p < i
  pub at : D p ≡ j
  pub next : D (suc p) ≡ suc j
  pub above : (k : ℕ) → p < k → k ≤ i → j < D k

-- the pending pair
pub record Pend (D : ℕ → ℕ) (n i o c : ℕ) : Type 0 where
  pub pair : Matched D n o c
  pub far : Far o c
  pub before : c < i

-- an end of a pioneer that closes before c
pub record Done (D : ℕ → ℕ) (n c j : ℕ) : Type 0 where
  pub open_at : ℕ
  pub close_at : ℕ
  pub pioneer : Pioneer D n open_at close_at
  pub before : close_at < c
  pub end : (j ≡ open_at) ⊎ (j ≡ close_at)

-- The stack holds the opens that are not closed, by their depth; the last far pair is pending; the pioneers that close before it are flagged.
pub record Inv (l : List Bool) (lay : Layout) (scr₀ scr : List ℕ) (i : ℕ) (s : Scan) : Type 0 where
  pub len : length scr ≡ length scr₀
  pub fits : Below (2 ^ 64) (drop lay.flags scr)
  pub within : i ≤ length l
  pub height : depth l i ≡ s.depth
  pub stack : (j : ℕ) → j < s.depth → OpenAt (depth l) i j (get_or scr j 0)
  pub text : (w : ℕ) → lay.text ≤ w → w < lay.flags → get_or scr w 0 ≡ get_or scr₀ w 0
  pub order : s.fore ≤ s.aft
  pub pend : (s.aft ≡ 0) ⊎ Pend (depth l) (length l) i s.fore s.aft
  pub last : (q d : ℕ) → Matched (depth l) (length l) q d → Far q d → d < i → d ≤ s.aft
  pub done : (j : ℕ) → bit_at scr (64 * lay.flags + j) ≡ true → Done (depth l) (length l) s.aft j
  pub flag : (j : ℕ) → Done (depth l) (length l) s.aft j → bit_at scr (64 * lay.flags + j) ≡ true

-- the tests of `apart_of`
apart_yes : (s : Scan) (p i : ℕ) → apart_of s p i ≡ true → (s.aft ≡ 0 → ⊥) × ((s.fore / 64 ≡ p / 64) × (s.aft / 64 ≡ i / 64) → ⊥)
unfolding apart_of
apart_yes s p i e = go (eqb s.aft 0) (eqb (s.fore / 64) (p / 64)) (eqb (s.aft / 64) (i / 64)) refl refl refl e
  where
    clash : {A : Type 0} → ◌≡◌ {A = Bool} false true → A
    clash e = absurd (let z : ◌≡◌ {A = ℕ} 0 1 = cc in omega arith)

    go : (x y z : Bool) → eqb s.aft 0 ≡ x → eqb (s.fore / 64) (p / 64) ≡ y → eqb (s.aft / 64) (i / 64) ≡ z
        → pick x false (pick y (not z) true) ≡ true → (s.aft ≡ 0 → ⊥) × ((s.fore / 64 ≡ p / 64) × (s.aft / 64 ≡ i / 64) → ⊥)
    go true y z a b c e = clash e
    go false true true a b c e = clash e
    go false true false a b c e = (eqb-false _ _ a, λ t. eqb-false _ _ c t.1)
    go false false z a b c e = (eqb-false _ _ a, λ t. eqb-false _ _ b t.0)

apart_no : (s : Scan) (p i : ℕ) → apart_of s p i ≡ false → (s.aft ≡ 0) ⊎ ((s.fore / 64 ≡ p / 64) × (s.aft / 64 ≡ i / 64))
unfolding apart_of
apart_no s p i e = go (eqb s.aft 0) (eqb (s.fore / 64) (p / 64)) (eqb (s.aft / 64) (i / 64)) refl refl refl e
  where
    clash : {A : Type 0} → ◌≡◌ {A = Bool} true false → A
    clash e = absurd (let z : ◌≡◌ {A = ℕ} 0 1 = cc in omega arith)

    go : (x y z : Bool) → eqb s.aft 0 ≡ x → eqb (s.fore / 64) (p / 64) ≡ y → eqb (s.aft / 64) (i / 64) ≡ z
        → pick x false (pick y (not z) true) ≡ false → (s.aft ≡ 0) ⊎ ((s.fore / 64 ≡ p / 64) × (s.aft / 64 ≡ i / 64))
    go true y z a b c e = inl (eqb-true _ _ a)
    go false true true a b c e = inr (eqb-true _ _ b, eqb-true _ _ c)
    go false true false a b c e = clash e
    go false false z a b c e = clash e

-- what `marked` leaves
pub record MarkFacts (lay : Layout) (scr : List ℕ) (s : Scan) : Type 0 where
  pub len : length (marked scr (64 * lay.flags) s) ≡ length scr
  pub fits : Below (2 ^ 64) (drop lay.flags (marked scr (64 * lay.flags) s))
  pub low : (x : ℕ) → x < lay.flags → get_or (marked scr (64 * lay.flags) s) x 0 ≡ get_or scr x 0
  pub from : (j : ℕ) → bit_at (marked scr (64 * lay.flags) s) (64 * lay.flags + j) ≡ true → (bit_at scr (64 * lay.flags + j) ≡ true) ⊎ ((j ≡ s.fore) ⊎ (j ≡ s.aft))
  pub to : (j : ℕ) → (bit_at scr (64 * lay.flags + j) ≡ true) ⊎ ((j ≡ s.fore) ⊎ (j ≡ s.aft)) → bit_at (marked scr (64 * lay.flags) s) (64 * lay.flags + j) ≡ true

module _ (l : List Bool) (lay : Layout) (scr₀ scr : List ℕ) (s : Scan) (len : length scr ≡ length scr₀) (fits : Below (2 ^ 64) (drop lay.flags scr))
    (top : length l ≤ 64 * (length scr₀ - lay.flags)) (m : Matched (depth l) (length l) s.fore s.aft) where
  in_fore : 64 * lay.flags + s.fore < 64 * length scr
  in_fore = omega (arith, m.after, m.inside)

  in_aft : 64 * lay.flags + s.aft < 64 * length (stored scr (64 * lay.flags + s.fore) true)
  in_aft = omega (arith, m.inside, length_stored scr (64 * lay.flags + s.fore) true)

  pub mark_facts : MarkFacts lay scr s
  unfolding marked
  mark_facts =
      record {
        len = length_stored one (fb + s.aft) true ∙ length_stored scr (fb + s.fore) true;
        fits =
            subst (Below (2 ^ 64)) (sym (drop_stored one lay.flags s.aft true ∙ ap (λ (x : List ℕ). stored x s.aft true) (drop_stored scr lay.flags s.fore true)))
            (stored_below _ s.aft true (stored_below _ s.fore true fits));
        low = λ x g. stored_word one (fb + s.aft) true x (λ q. omega (arith, q)) ∙ stored_word scr (fb + s.fore) true x (λ q. omega (arith, q));
        from = λ j b. to_cases j b (ℕ_discrete j s.fore) (ℕ_discrete j s.aft);
        to = λ j x. at j x (ℕ_discrete j s.aft) (ℕ_discrete j s.fore);
      }
    where
      fb : ℕ
      fb = 64 * lay.flags

      one : List ℕ
      one = stored scr (64 * lay.flags + s.fore) true

      two : List ℕ
      two = stored one (64 * lay.flags + s.aft) true

      other : (j : ℕ) → (j ≡ s.fore → ⊥) → (j ≡ s.aft → ⊥) → bit_at two (fb + j) ≡ bit_at scr (fb + j)
      other j n k =
          stored_other one (fb + s.aft) true (fb + j) (λ q. k (omega (arith, q)))
          ∙ stored_other scr (fb + s.fore) true (fb + j) (λ q. n (omega (arith, q)))

      to_cases : (j : ℕ) → bit_at two (fb + j) ≡ true → Dec (j ≡ s.fore) → Dec (j ≡ s.aft) → (bit_at scr (fb + j) ≡ true) ⊎ ((j ≡ s.fore) ⊎ (j ≡ s.aft))
      to_cases j b (yes e) y = inr (inl e)
      to_cases j b (no n) (yes e) = inr (inr e)
      to_cases j b (no n) (no k) = inl (sym (other j n k) ∙ b)

      old : (j : ℕ) → (bit_at scr (fb + j) ≡ true) ⊎ ((j ≡ s.fore) ⊎ (j ≡ s.aft)) → (j ≡ s.fore → ⊥) → (j ≡ s.aft → ⊥) → bit_at scr (fb + j) ≡ true
      old j (inl x) n k = x
      old j (inr (inl x)) n k = absurd (n x)
      old j (inr (inr x)) n k = absurd (k x)

      at : (j : ℕ) → (bit_at scr (fb + j) ≡ true) ⊎ ((j ≡ s.fore) ⊎ (j ≡ s.aft)) → Dec (j ≡ s.aft) → Dec (j ≡ s.fore) → bit_at two (fb + j) ≡ true
      at j x (yes e) y = ap (λ z. bit_at two (fb + z)) e ∙ stored_here one (fb + s.aft) true in_aft
      at j x (no k) (yes e) =
          stored_other one (fb + s.aft) true (fb + j) (λ q. k (omega (arith, q)))
          ∙ ap (λ z. bit_at one (fb + z)) e ∙ stored_here scr (fb + s.fore) true in_fore
      at j x (no k) (no n) = other j n k ∙ old j x n k

module _ (l : List Bool) (w : Walk 0 l 0) (lay : Layout) (scr₀ scr : List ℕ) (i : ℕ) (s : Scan) (v : Inv l lay scr₀ scr i s) (h : i < length l)
    (tf : lay.text ≤ lay.flags) (top : length l ≤ 64 * (length scr₀ - lay.flags)) where
  pended : (s.aft ≡ 0) ⊎ Pend (depth l) (length l) i s.fore s.aft → (s.aft ≡ 0) ⊎ Pend (depth l) (length l) (suc i) s.fore s.aft
  pended (inl x) = inl x
  pended (inr x) = inr (record { pair = x.pair; far = x.far; before = omega (arith, x.before) })

  -- an open
  open_next : get_or l i false ≡ true → s.depth < lay.text → s.depth < length scr
      → Inv l lay scr₀ (set scr s.depth i) (suc i) (scan_of (s.depth + 1) s.fore s.aft)
  open_next e room inside =
      record {
        len = length-set scr s.depth i ∙ v.len;
        fits = subst (Below (2 ^ 64)) (sym (drop-set-lt lay.flags scr s.depth i (omega arith))) v.fits;
        within = h;
        height = up l w i h e ∙ omega (arith, v.height);
        stack = λ j g. at j (eq-or-lt_of_le g);
        text = λ x a b. get_or-set_other scr s.depth x i 0 (λ q. omega (arith, q)) ∙ v.text x a b;
        order = v.order;
        pend = pended v.pend;
        last = λ q d m f g. kept q d m f (eq-or-lt_of_le g);
        done = λ j b. v.done j (sym (bit j) ∙ b);
        flag = λ j b. bit j ∙ v.flag j b;
      }
    where
      rise : depth l (suc i) ≡ suc (depth l i)
      rise = up l w i h e

      here : OpenAt (depth l) (suc i) s.depth i
      here =
          record {
            before = omega arith;
            at = v.height;
            next = omega (arith, rise, v.height);
            above = λ k a b. let q : suc i ≡ k = omega arith in subst (λ x. s.depth < depth l x) q (omega (arith, rise, v.height));
          }

      older : (j p : ℕ) → j < s.depth → OpenAt (depth l) i j p → OpenAt (depth l) (suc i) j p
      older j p g o =
          record {
            before = omega (arith, o.before);
            at = o.at;
            next = o.next;
            above = λ k a b. past k a (eq-or-lt_of_le b);
          }
        where
          past : (k : ℕ) → p < k → (k ≡ suc i) ⊎ (k < suc i) → j < depth l k
          past k a (inl q) = subst (λ x. j < depth l x) (sym q) (omega (arith, rise, v.height))
          past k a (inr b) = o.above k a (omega arith)

      at : (j : ℕ) → (suc j ≡ s.depth + 1) ⊎ (suc j < s.depth + 1) → OpenAt (depth l) (suc i) j (get_or (set scr s.depth i) j 0)
      at j (inl q) =
          let z : s.depth ≡ j = omega arith in
          subst (λ x. OpenAt (depth l) (suc i) x (get_or (set scr s.depth i) x 0)) z
          (subst (λ x. OpenAt (depth l) (suc i) s.depth x) (sym (get_or-set_same scr s.depth i 0 inside)) here)
      at j (inr q) =
          subst (λ x. OpenAt (depth l) (suc i) j x) (sym (get_or-set_other scr s.depth j i 0 (λ z. omega (arith, z))))
          (older j (get_or scr j 0) (omega arith) (v.stack j (omega arith)))

      kept : (q d : ℕ) → Matched (depth l) (length l) q d → Far q d → (suc d ≡ suc i) ⊎ (suc d < suc i) → d ≤ s.aft
      kept q d m f (inl x) =
          let z : d ≡ i = omega arith in
          let m' : Matched (depth l) (length l) q i = subst (λ y. Matched (depth l) (length l) q y) z m in
          absurd (omega (arith, m'.aft, m'.above i m'.after (omega arith), rise))
      kept q d m f (inr x) = v.last q d m f (omega arith)

      bit : (j : ℕ) → bit_at (set scr s.depth i) (64 * lay.flags + j) ≡ bit_at scr (64 * lay.flags + j)
      bit j = bit_kept (set scr s.depth i) scr lay.flags j (get_or-set_other scr s.depth ((64 * lay.flags + j) / 64) i 0 (λ q. omega (arith, q)))

  -- a close
  module _ (e : get_or l i false ≡ false) where
    fall : suc (depth l (suc i)) ≡ depth l i
    fall = down l w i h e

    pub some_open : 0 < s.depth
    some_open = omega (arith, fall, v.height)

    p : ℕ
    p = get_or scr (s.depth - 1) 0

    top_open : OpenAt (depth l) i (s.depth - 1) p
    unfolding p
    top_open = v.stack (s.depth - 1) (omega (arith, some_open))

    matched : Matched (depth l) (length l) p i
    matched =
        let o = top_open in
        record {
          after = o.before;
          inside = h;
          fore = omega (arith, o.at, o.next);
          aft = omega (arith, fall, v.height, o.at, some_open);
          above = λ j a b. omega (arith, o.above j a b, o.at);
        }

    -- the opens that stay
    stays : (scr' : List ℕ) → ((x : ℕ) → x < lay.flags → get_or scr' x 0 ≡ get_or scr x 0) → s.depth ≤ lay.text → (j : ℕ) → j < s.depth - 1
        → OpenAt (depth l) (suc i) j (get_or scr' j 0)
    stays scr' same room j g =
        subst (λ x. OpenAt (depth l) (suc i) j x) (sym (same j (omega arith)))
        (record { before = omega (arith, o.before); at = o.at; next = o.next; above = λ k a b. past k a (eq-or-lt_of_le b) })
      where
        o : OpenAt (depth l) i j (get_or scr j 0)
        o = v.stack j (omega arith)

        past : (k : ℕ) → get_or scr j 0 < k → (k ≡ suc i) ⊎ (k < suc i) → j < depth l k
        past k a (inl q) = subst (λ x. j < depth l x) (sym q) (omega (arith, fall, v.height))
        past k a (inr b) = o.above k a (omega arith)

    -- inside a block
    near_next : s.depth ≤ lay.text → p / 64 ≡ i / 64 → Inv l lay scr₀ scr (suc i) (scan_of (s.depth - 1) s.fore s.aft)
    near_next room near =
        record {
          len = v.len;
          fits = v.fits;
          within = h;
          height = omega (arith, fall, v.height);
          stack = stays scr (λ x g. refl) room;
          text = v.text;
          order = v.order;
          pend = pended v.pend;
          last = λ q d m f g. kept q d m f (eq-or-lt_of_le g);
          done = v.done;
          flag = v.flag;
        }
      where
        kept : (q d : ℕ) → Matched (depth l) (length l) q d → Far q d → (suc d ≡ suc i) ⊎ (suc d < suc i) → d ≤ s.aft
        kept q d m f (inl x) =
            let z : d ≡ i = omega arith in
            let m' : Matched (depth l) (length l) q i = subst (λ y. Matched (depth l) (length l) q y) z m in
            let u : p ≡ q = same_close (depth l) (length l) p q i matched m' in
            absurd (f (omega arith))
        kept q d m f (inr x) = v.last q d m f (omega arith)

    -- a far pair: the flags are now those of the pioneers that close before i
    far_next : (scr' : List ℕ) → length scr' ≡ length scr → Below (2 ^ 64) (drop lay.flags scr') → ((x : ℕ) → x < lay.flags → get_or scr' x 0 ≡ get_or scr x 0)
        → s.depth ≤ lay.text → Far p i
        → ((j : ℕ) → bit_at scr' (64 * lay.flags + j) ≡ true → Done (depth l) (length l) i j)
        → ((j : ℕ) → Done (depth l) (length l) i j → bit_at scr' (64 * lay.flags + j) ≡ true)
        → Inv l lay scr₀ scr' (suc i) (scan_of (s.depth - 1) p i)
    far_next scr' len fits same room far done flag =
        record {
          len = len ∙ v.len;
          fits = fits;
          within = h;
          height = omega (arith, fall, v.height);
          stack = stays scr' same room;
          text = λ x a b. same x b ∙ v.text x a b;
          order = omega (arith, matched.after);
          pend = inr (record { pair = matched; far = far; before = omega arith });
          last = λ q d m f g. omega arith;
          done = done;
          flag = flag;
        }

    -- a pioneer that closes before i closes before the pending pair or is it
    earlier : (j : ℕ) → Done (depth l) (length l) i j
        → Done (depth l) (length l) s.aft j ⊎ (Pioneer (depth l) (length l) s.fore s.aft × ((j ≡ s.fore) ⊎ (j ≡ s.aft)))
    earlier j x = go v.pend (eq-or-lt_of_le (v.last x.open_at x.close_at x.pioneer.pair x.pioneer.far x.before))
      where
        go : (s.aft ≡ 0) ⊎ Pend (depth l) (length l) i s.fore s.aft → (x.close_at ≡ s.aft) ⊎ (x.close_at < s.aft)
            → Done (depth l) (length l) s.aft j ⊎ (Pioneer (depth l) (length l) s.fore s.aft × ((j ≡ s.fore) ⊎ (j ≡ s.aft)))
        go y (inr a) = inl (record { open_at = x.open_at; close_at = x.close_at; pioneer = x.pioneer; before = a; end = x.end })
        go (inl y) (inl a) = absurd (omega (arith, x.pioneer.pair.after))
        go (inr y) (inl a) =
            let m : Matched (depth l) (length l) x.open_at s.aft = subst (λ z. Matched (depth l) (length l) x.open_at z) a x.pioneer.pair in
            let q : x.open_at ≡ s.fore = same_close (depth l) (length l) x.open_at s.fore s.aft m y.pair in
            inr (subst (λ z. Pioneer (depth l) (length l) s.fore z) a (subst (λ z. Pioneer (depth l) (length l) z x.close_at) q x.pioneer), end q x.end)
          where
            end : x.open_at ≡ s.fore → (j ≡ x.open_at) ⊎ (j ≡ x.close_at) → (j ≡ s.fore) ⊎ (j ≡ s.aft)
            end q (inl z) = inl (z ∙ q)
            end q (inr z) = inr (z ∙ a)

    -- and the other way round
    still : (j : ℕ) → Done (depth l) (length l) s.aft j → Done (depth l) (length l) i j
    still j x = go v.pend
      where
        go : (s.aft ≡ 0) ⊎ Pend (depth l) (length l) i s.fore s.aft → Done (depth l) (length l) i j
        go (inl y) = absurd (omega (arith, x.before))
        go (inr y) = record { open_at = x.open_at; close_at = x.close_at; pioneer = x.pioneer; before = omega (arith, x.before, y.before); end = x.end }

    -- the pending pair is not flagged: there is none, or it is not the outermost
    pass_next : s.depth ≤ lay.text → Far p i → (s.aft ≡ 0) ⊎ ((s.fore / 64 ≡ p / 64) × (s.aft / 64 ≡ i / 64))
        → Inv l lay scr₀ scr (suc i) (scan_of (s.depth - 1) p i)
    pass_next room far alike =
        far_next scr refl v.fits (λ x g. refl) room far
        (λ j b. still j (v.done j b))
        (λ j x. v.flag j (go j (earlier j x) v.pend alike))
      where
        go : (j : ℕ) → Done (depth l) (length l) s.aft j ⊎ (Pioneer (depth l) (length l) s.fore s.aft × ((j ≡ s.fore) ⊎ (j ≡ s.aft)))
            → (s.aft ≡ 0) ⊎ Pend (depth l) (length l) i s.fore s.aft → (s.aft ≡ 0) ⊎ ((s.fore / 64 ≡ p / 64) × (s.aft / 64 ≡ i / 64))
            → Done (depth l) (length l) s.aft j
        go j (inl x) y z = x
        go j (inr x) (inl y) z = absurd (omega (arith, x.0.pair.after))
        go j (inr x) (inr y) (inl z) = absurd (omega (arith, y.pair.after))
        go j (inr x) (inr y) (inr z) =
            absurd (not_outermost (depth l) (length l) s.fore s.aft p i y.pair matched y.before y.far far z.0 z.1 x.0)

    -- the pending pair is flagged
    mark_next : s.depth ≤ lay.text → Far p i → (s.aft ≡ 0 → ⊥) → ((s.fore / 64 ≡ p / 64) × (s.aft / 64 ≡ i / 64) → ⊥)
        → Inv l lay scr₀ (marked scr (64 * lay.flags) s) (suc i) (scan_of (s.depth - 1) p i)
    mark_next room far some apart = go v.pend
      where
        go : (s.aft ≡ 0) ⊎ Pend (depth l) (length l) i s.fore s.aft → Inv l lay scr₀ (marked scr (64 * lay.flags) s) (suc i) (scan_of (s.depth - 1) p i)
        go (inl y) = absurd (some y)
        go (inr y) =
            let a = mark_facts l lay scr₀ scr s v.len v.fits top y.pair in
            far_next (marked scr (64 * lay.flags) s) a.len a.fits a.low room far
            (λ j b. to j (a.from j b))
            (λ j x. back j (earlier j x))
          where
            a : MarkFacts lay scr s
            a = mark_facts l lay scr₀ scr s v.len v.fits top y.pair

            pioneer : Pioneer (depth l) (length l) s.fore s.aft
            pioneer = is_outermost (depth l) (length l) s.fore s.aft p i y.pair matched y.before y.far far v.last apart

            to : (j : ℕ) → (bit_at scr (64 * lay.flags + j) ≡ true) ⊎ ((j ≡ s.fore) ⊎ (j ≡ s.aft)) → Done (depth l) (length l) i j
            to j (inl b) = still j (v.done j b)
            to j (inr b) = record { open_at = s.fore; close_at = s.aft; pioneer = pioneer; before = y.before; end = b }

            back : (j : ℕ) → Done (depth l) (length l) s.aft j ⊎ (Pioneer (depth l) (length l) s.fore s.aft × ((j ≡ s.fore) ⊎ (j ≡ s.aft)))
                → bit_at (marked scr (64 * lay.flags) s) (64 * lay.flags + j) ≡ true
            back j (inl x) = a.to j (inl (v.flag j x))
            back j (inr x) = a.to j (inr x.1)

  -- any turn
  pub next : (r : Scan) (scr' : List ℕ) (b : Bool) → get_or l i false ≡ b → s.depth ≤ lay.text → (get_or l i false ≡ true → s.depth < lay.text) → s.depth < length scr
      → turned r scr' ≡ turn_of scr (64 * lay.flags) b i s → Inv l lay scr₀ scr' (i + 1) r
  unfolding turn_of open_turn pair_turn p
  next r scr' b e room more inside q =
      subst (λ x. Inv l lay scr₀ scr' x r) (sym (add-one i))
      (subst (λ (t : Turned). Inv l lay scr₀ t.scr (suc i) t.scan) (sym q) (go b e))
    where
      far : (e : get_or l i false ≡ false) → Far (p e) i → (y : Bool) → apart_of s (p e) i ≡ y
          → Inv l lay scr₀ (pick y (marked scr (64 * lay.flags) s) scr) (suc i) (scan_of (s.depth - 1) (p e) i)
      far e f true z = let a = apart_yes s (p e) i z in mark_next e room f a.0 a.1
      far e f false z = pass_next e room f (apart_no s (p e) i z)

      pair : (e : get_or l i false ≡ false) (x : Bool) → eqb (p e / 64) (i / 64) ≡ x
          → Inv l lay scr₀
          (pick x (turned (scan_of (s.depth - 1) s.fore s.aft) scr) (turned (scan_of (s.depth - 1) (p e) i) (pick (apart_of s (p e) i) (marked scr (64 * lay.flags) s) scr))).scr
          (suc i)
          (pick x (turned (scan_of (s.depth - 1) s.fore s.aft) scr) (turned (scan_of (s.depth - 1) (p e) i) (pick (apart_of s (p e) i) (marked scr (64 * lay.flags) s) scr))).scan
      pair e true z = near_next e room (eqb-true _ _ z)
      pair e false z = far e (eqb-false _ _ z) (apart_of s (p e) i) refl

      go : (b : Bool) → get_or l i false ≡ b → Inv l lay scr₀ (turn_of scr (64 * lay.flags) b i s).scr (suc i) (turn_of scr (64 * lay.flags) b i s).scan
      go true e = open_next e (more e) inside
      go false e = pair e (eqb (p e / 64) (i / 64)) refl
