-- Keeping the flagged bits in the place of the string: each turn's ways out, the turns, and the end.
use mathlib.Core.Path.{◌≡◌, refl, sym, ap, ap₂, ◌∙◌, subst}
use mathlib.Core.Bool.{Bool, true, false}
use mathlib.Core.List.{List, [], ◌∷◌, ◌++◌, append-nil}
use Prim.Native.Nat.{ℕ, suc, ◌+◌, ◌-◌, ◌*◌, ◌^◌, ◌≤◌, ◌<◌}
use native.Mathlib.Decide.{ℕ_discrete}
use native.Mathlib.Numerals.{add-one}
use native.Mathlib.Omega.{arith}
use lib.ListN.{length, get_or, take, drop, length-append, length-drop, length-take, get_or-append}
use lib.Seq.{ext_get_or, take-suc, take-length, length-take-le, get_or-append_seam, get_or-drop}
use Rattle.meaning.specs.Bits.{bit_at, bits_of, stored, pack}
use Rattle.meaning.specs.Pioneers.{keep}
use Rattle.meaning.proofs.Tab.{Below}
use Rattle.meaning.proofs.Stored.{bit_at_drop, length_stored, stored_below, stored_here, stored_other, length_bits, bits_at}
use Rattle.pioneers.specs.Pick.{pick}
use Rattle.pioneers.specs.Scratch.{text_of, flags_of, fits_in}
use Rattle.pioneers.specs.Keep.{Keeping, keeping, keep_turn, trimmed}
use Rattle.pioneers.specs.declared.flags.Layout.{Layout}
use Rattle.pioneers.proofs.Parts.{drop_stored, take_stored_le, part_is, part_new, Fits, fits_are, text_length, text_bit, flags_length, flags_bit}

-- the kept bits, one place more
keep_append : (a b c d : List Bool) → length a ≡ length c → keep (a ++ b) (c ++ d) ≡ keep a c ++ keep b d
unfolding keep
keep_append [] b [] d h = refl
keep_append [] b (y ∷ c) d h = absurd (omega arith)
keep_append (x ∷ a) b [] d h = absurd (omega arith)
keep_append (true ∷ a) b (y ∷ c) d h = ap (λ (l : List Bool). y ∷ l) (keep_append a b c d (omega arith))
keep_append (false ∷ a) b (y ∷ c) d h = keep_append a b c d (omega arith)

keep_le : (a c : List Bool) → length (keep a c) ≤ length c
unfolding keep
keep_le [] c = omega arith
keep_le (x ∷ a) [] = omega arith
keep_le (true ∷ a) (y ∷ c) = omega (arith, keep_le a c)
keep_le (false ∷ a) (y ∷ c) = omega (arith, keep_le a c)

-- one bit
unfoldable keep_bit : Bool → Bool → List Bool
keep_bit true b = b ∷ []
keep_bit false b = []

keep_suc : (f l : List Bool) (i : ℕ) → i < length f → i < length l
    → keep (take (suc i) f) (take (suc i) l) ≡ keep (take i f) (take i l) ++ keep_bit (get_or f i false) (get_or l i false)
unfolding keep_bit keep
keep_suc f l i h g =
    ap₂ keep (take-suc f i false h) (take-suc l i false g)
    ∙ keep_append (take i f) (get_or f i false ∷ []) (take i l) (get_or l i false ∷ []) (length-take-le i f (omega arith) ∙ sym (length-take-le i l (omega arith)))
    ∙ ap (λ (x : List Bool). keep (take i f) (take i l) ++ x) (one (get_or f i false) (get_or l i false))
  where
    one : (x y : Bool) → keep (x ∷ []) (y ∷ []) ≡ keep_bit x y
    one true y = refl
    one false y = refl

-- The bits kept of the first i places stand at the string's start; from i on the string is as it was, and so is all else.
pub record Kept (scr₀ : List ℕ) (lay : Layout) (scr : List ℕ) (i at : ℕ) : Type 0 where
  pub front : take lay.text scr ≡ take lay.text scr₀
  pub len : length scr ≡ length scr₀
  pub fits : Below (2 ^ 64) (drop lay.text scr)
  pub within : i ≤ lay.bits
  pub count : at ≡ length (keep (take i (flags_of scr₀ lay)) (take i (text_of scr₀ lay)))
  pub low : (j : ℕ) → j < at → bit_at (drop lay.text scr) j ≡ get_or (keep (take i (flags_of scr₀ lay)) (take i (text_of scr₀ lay))) j false
  pub rest : (j : ℕ) → i ≤ j → bit_at (drop lay.text scr) j ≡ bit_at (drop lay.text scr₀) j

module _ (scr₀ : List ℕ) (lay : Layout) (p : fits_in lay (length scr₀) ≡ true) where
  abbrev l : List Bool
  l = text_of scr₀ lay

  abbrev f : List Bool
  f = flags_of scr₀ lay

  fit : Fits lay (length scr₀)
  fit = fits_are lay (length scr₀) p

  pub kept_start : ((w : ℕ) → get_or scr₀ w 0 < 2 ^ 64) → Kept scr₀ lay scr₀ 0 0
  unfolding keep
  kept_start b =
      record {
        front = refl;
        len = refl;
        fits = λ w. subst (λ (x : ℕ). x < 2 ^ 64) (sym (get_or-drop lay.text scr₀ w 0)) (b (lay.text + w));
        within = omega arith;
        count = refl;
        low = λ j h. absurd (omega arith);
        rest = λ j h. refl;
      }

  module _ (scr : List ℕ) (i at : ℕ) (v : Kept scr₀ lay scr i at) where
    abbrev k : List Bool
    k = keep (take i f) (take i l)

    pub at_le : at ≤ i
    at_le = omega (arith, v.count, keep_le (take i f) (take i l), length-take i l)

    pub keeps : i < lay.bits → (64 * lay.flags + i < 4294967296) × (lay.text ≤ lay.flags) × (at ≤ i)
    keeps h = (omega (arith, fit.small, fit.stack, fit.order), fit.order, at_le)

    grown : i < lay.bits → keep (take (suc i) f) (take (suc i) l) ≡ k ++ keep_bit (get_or f i false) (get_or l i false)
    grown h = keep_suc f l i (omega (arith, flags_length scr₀ lay)) (omega (arith, text_length scr₀ lay))

    -- the bits of place i
    flag_is : i < lay.bits → get_or f i false ≡ bit_at scr (64 * lay.flags + i)
    flag_is h =
        flags_bit scr₀ lay i h
        ∙ ap (bit_at scr₀) split
        ∙ sym (bit_at_drop scr₀ lay.text (64 * (lay.flags - lay.text) + i))
        ∙ sym (v.rest (64 * (lay.flags - lay.text) + i) (omega arith))
        ∙ bit_at_drop scr lay.text (64 * (lay.flags - lay.text) + i)
        ∙ ap (bit_at scr) (sym split)
      where
        split : 64 * lay.flags + i ≡ 64 * lay.text + (64 * (lay.flags - lay.text) + i)
        split = omega (arith, fit.order)

    text_is : i < lay.bits → get_or l i false ≡ bit_at scr (64 * lay.text + i)
    text_is h =
        text_bit scr₀ lay i h ∙ sym (bit_at_drop scr₀ lay.text i) ∙ sym (v.rest i (omega arith)) ∙ bit_at_drop scr lay.text i

    turn_to : i < lay.bits → (x : Bool) → bit_at scr (64 * lay.flags + i) ≡ x → (b : Bool) → bit_at scr (64 * lay.text + i) ≡ b
        → Kept scr₀ lay (pick x (keeping (at + 1) (stored scr (64 * lay.text + at) b)) (keeping at scr)).scr (suc i) (pick x (keeping (at + 1) (stored scr (64 * lay.text + at) b)) (keeping at scr)).at
    unfolding keep_bit
    turn_to h false a b c =
        let e : keep (take (suc i) f) (take (suc i) l) ≡ k = grown h ∙ ap₂ (λ (p q : Bool). k ++ keep_bit p q) (flag_is h ∙ a) refl ∙ append-nil k in
        record {
          front = v.front;
          len = v.len;
          fits = v.fits;
          within = h;
          count = v.count ∙ ap length (sym e);
          low = λ j g. v.low j g ∙ ap (λ (x : List Bool). get_or x j false) (sym e);
          rest = λ j g. v.rest j (omega arith);
        }
    turn_to h true a b c =
        record {
          front = take_stored_le scr lay.text (64 * lay.text + at) b (omega arith) ∙ v.front;
          len = length_stored scr (64 * lay.text + at) b ∙ v.len;
          fits = subst (Below (2 ^ 64)) (sym put) (stored_below (drop lay.text scr) at b v.fits);
          within = h;
          count = omega (arith, v.count, ap length e, length-append k (b ∷ []));
          low = λ j g. ap (λ (x : List ℕ). bit_at x j) put ∙ low j g (ℕ_discrete j at) ∙ ap (λ (x : List Bool). get_or x j false) (sym e);
          rest = λ j g. ap (λ (x : List ℕ). bit_at x j) put ∙ stored_other (drop lay.text scr) at b j (λ z. omega (arith, at_le)) ∙ v.rest j (omega arith);
        }
      where
        e : keep (take (suc i) f) (take (suc i) l) ≡ k ++ b ∷ []
        e = grown h ∙ ap₂ (λ (p q : Bool). k ++ keep_bit p q) (flag_is h ∙ a) (text_is h ∙ c)

        put : drop lay.text (stored scr (64 * lay.text + at) b) ≡ stored (drop lay.text scr) at b
        put = drop_stored scr lay.text at b

        low : (j : ℕ) → j < at + 1 → Dec (j ≡ at) → bit_at (stored (drop lay.text scr) at b) j ≡ get_or (k ++ b ∷ []) j false
        low j g (yes z) =
            ap (bit_at (stored (drop lay.text scr) at b)) z
            ∙ stored_here (drop lay.text scr) at b (omega (arith, at_le, length-drop lay.text scr, v.len, fit.text, fit.inside, fit.order))
            ∙ sym (ap (λ (x : ℕ). get_or (k ++ b ∷ []) x false) (z ∙ v.count) ∙ get_or-append_seam k b [] false)
        low j g (no z) =
            stored_other (drop lay.text scr) at b j z ∙ v.low j (omega arith) ∙ sym (get_or-append k (b ∷ []) false j (omega (arith, v.count)))

    pub kept_next : i < lay.bits → (scr' : List ℕ) (r : ℕ) → keeping r scr' ≡ keep_turn scr lay i at → Kept scr₀ lay scr' (i + 1) r
    unfolding keep_turn
    kept_next h scr' r q =
        subst (λ (x : ℕ). Kept scr₀ lay scr' x r) (sym (add-one i))
        (subst (λ (t : Keeping). Kept scr₀ lay t.scr (suc i) t.at) (sym q)
        (turn_to h (bit_at scr (64 * lay.flags + i)) refl (bit_at scr (64 * lay.text + i)) refl))

    pub text_room : lay.text ≤ length scr
    text_room = omega (arith, fit.order, fit.inside, v.len)

    -- the end: all is kept, and what is behind is made zero
    module _ (end : lay.bits ≤ i) where
      i_is : i ≡ lay.bits
      i_is = omega (arith, v.within)

      all : k ≡ keep f l
      all =
          ap₂ keep (ap (λ (x : ℕ). take x f) (i_is ∙ sym (flags_length scr₀ lay)) ∙ take-length f)
          (ap (λ (x : ℕ). take x l) (i_is ∙ sym (text_length scr₀ lay)) ∙ take-length l)

      bits_are : bits_of (drop lay.text scr) at ≡ keep f l
      bits_are =
          ext_get_or false (bits_of (drop lay.text scr) at) k (length_bits (drop lay.text scr) at ∙ v.count)
          (λ j h. let g : j < at = omega (arith, length_bits (drop lay.text scr) at) in bits_at (drop lay.text scr) at j g ∙ v.low j g)
          ∙ all

      pub kept_done : (part : List ℕ) → part ≡ pack (length (take (length scr - lay.text) (drop lay.text scr))) (bits_of (take (length scr - lay.text) (drop lay.text scr)) at)
          → keeping at (take lay.text scr ++ (part ++ drop (length scr - lay.text) (drop lay.text scr))) ≡ trimmed scr₀ lay
      unfolding trimmed
      kept_done part q =
          ap₂ keeping (v.count ∙ ap length all)
          (part_new scr part lay.text
          ∙ ap₂ (λ (x y : List ℕ). x ++ y) v.front
          (q ∙ ap (λ (x : List ℕ). pack (length x) (bits_of x at)) (part_is scr lay.text)
          ∙ ap₂ pack (length-drop lay.text scr ∙ ap (λ (n : ℕ). n - lay.text) v.len) bits_are))
