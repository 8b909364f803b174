-- The ways out of `mark`: one law for each.
use mathlib.Core.Path.{◌≡◌, refl, sym, ap, ap₂, ◌∙◌}
use mathlib.Core.Bool.{Bool, true, false, ◌&&◌}
use mathlib.Core.List.{List, ◌++◌}
use Prim.Native.Nat.{ℕ, ◌-◌, ◌≤◌}
use native.Mathlib.Omega.{arith}
use lib.ListN.{length, get_or, take, drop, replicate, length-append, length-replicate, get_or-append}
use lib.Seq.{slice, length-take-le, get_or-take, drop_at, take_at}
use Rattle.meaning.specs.Bits.{bits_of, pack}
use Rattle.meaning.specs.Pioneers.{flags}
use Rattle.meaning.specs.Growth.{one_root}
use Rattle.meaning.proofs.If.{if_true, if_false, and_true}
use Rattle.pioneers.specs.Scratch.{text_of, fits_in, with_flags, marking, mark_in, Bare}
use Rattle.pioneers.specs.declared.flags.Layout.{Layout}
use Rattle.pioneers.proofs.Parts.{part_is, Fits, fits_are, text_same}

and_false : (a b : Bool) → b ≡ false → (a && b) ≡ false
and_false true b e = e
and_false false b e = refl

module _ (scr : List ℕ) (lay : Layout) (r : Bool) (q : r ≡ fits_in lay (length scr)) where
  pub unfit : r ≡ false → (exit : List ℕ) → exit ≡ replicate (length scr) 0 → marking false exit ≡ mark_in scr lay
  unfolding mark_in
  unfit e exit z = rw z (sym (if_false _ _ (ap (λ (b : Bool). b && one_root (text_of scr lay)) (sym q ∙ e))))

  module _ (e : r ≡ true) where
    f : Fits lay (length scr)
    f = fits_are lay (length scr) (sym q ∙ e)

    pub text_in : lay.text ≤ length scr
    text_in = omega (arith, f.order, f.inside)

    pub flags_in : lay.flags ≤ length scr
    flags_in = f.inside

    module _ (t : Bool) (p : t ≡ one_root (bits_of (take (length scr - lay.text) (drop lay.text scr)) lay.bits)) where
      root_is : t ≡ one_root (text_of scr lay)
      unfolding text_of
      root_is = p ∙ ap (λ (x : List ℕ). one_root (bits_of x lay.bits)) (part_is scr lay.text)

      pub unrooted : t ≡ false → (exit : List ℕ) → exit ≡ replicate (length scr) 0 → marking false exit ≡ mark_in scr lay
      unfolding mark_in
      unrooted g exit z = rw z (sym (if_false _ _ (and_false (fits_in lay (length scr)) _ (sym root_is ∙ g))))

      module _ (g : t ≡ true) (s : List ℕ) (z : s ≡ take lay.flags scr ++ replicate (length scr - lay.flags) 0) where
        front : length (take lay.flags scr) ≡ lay.flags
        front = length-take-le lay.flags scr flags_in

        same_size : length s ≡ length scr
        same_size =
            ap length z ∙ length-append (take lay.flags scr) (replicate (length scr - lay.flags) 0)
            ∙ omega (arith, front, length-replicate {A = ℕ} (length scr - lay.flags) 0, flags_in)

        same_text : text_of s lay ≡ text_of scr lay
        same_text =
            text_same s scr lay (length scr) f
            (λ w a b.
            ap (λ (x : List ℕ). get_or x w 0) z ∙ get_or-append (take lay.flags scr) (replicate (length scr - lay.flags) 0) 0 w (omega (arith, front))
            ∙ get_or-take lay.flags scr w 0 b)

        pub bared : Bare s lay
        bared =
            record {
              fits = ap (fits_in lay) same_size ∙ sym q ∙ e;
              root = ap one_root same_text ∙ sym root_is ∙ g;
              zeros =
                  ap (drop lay.flags) z ∙ drop_at (take lay.flags scr) (replicate (length scr - lay.flags) 0) lay.flags front
                  ∙ ap (λ (n : ℕ). replicate (n - lay.flags) 0) (sym same_size);
            }

        same_part : slice lay.text lay.flags s ≡ slice lay.text lay.flags scr
        same_part =
            ap (drop lay.text) (ap (take lay.flags) z ∙ take_at (take lay.flags scr) (replicate (length scr - lay.flags) 0) lay.flags front)

        pub mark_made : (exit : List ℕ) → exit ≡ with_flags s lay (flags (text_of s lay)) → marking true exit ≡ mark_in scr lay
        unfolding mark_in with_flags
        mark_made exit w =
            ap (marking true)
            (w ∙ ap₂ (λ (x : List ℕ) (y : List ℕ). replicate lay.text 0 ++ (x ++ y)) same_part
            (ap₂ (λ (n : ℕ) (l : List Bool). pack (n - lay.flags) (flags l)) same_size same_text))
            ∙ sym (if_true _ _ (and_true (sym q ∙ e) (sym root_is ∙ g)))
