-- Any two outcomes that the contract of a public function allows agree: the answer, and scratch.
use mathlib.Core.Path.{refl, sym, ap, ◌∙◌}
use mathlib.Core.List.{List}
use Prim.Native.Nat.{ℕ}
use Rattle.meaning.specs.Determined.{Determined}
use Rattle.pioneers.specs.Placed.{Placing}
use Rattle.pioneers.specs.Scratch.{Marking}
use Rattle.pioneers.specs.Keep.{Keeping}
use Rattle.pioneers.proofs.Agree.{same_refused}
use Rattle.pioneers.proofs.string.check_levels.Reads as check_levels
use Rattle.pioneers.proofs.string.check_levels.Kinds as check_levels_kinds
use Rattle.pioneers.proofs.string.place.Reads as place
use Rattle.pioneers.proofs.string.place.Kinds as place_kinds
use Rattle.pioneers.proofs.root.one_root.Reads as one_root
use Rattle.pioneers.proofs.root.one_root.Kinds as one_root_kinds
use Rattle.pioneers.proofs.compact.trim.Reads as trim
use Rattle.pioneers.proofs.compact.trim.Kinds as trim_kinds
use Rattle.pioneers.proofs.compact.compact.Reads as compact
use Rattle.pioneers.proofs.compact.compact.Kinds as compact_kinds
use Rattle.pioneers.proofs.flags.fits.Reads as fits
use Rattle.pioneers.proofs.flags.fits.Kinds as fits_kinds
use Rattle.pioneers.proofs.flags.mark.Reads as mark
use Rattle.pioneers.proofs.flags.mark.Kinds as mark_kinds

pub place_determined : Determined _ place_kinds.ps place_kinds.r place.Asked place.Learnt (List ℕ) (λ κs e. e.1.0.now)
place_determined =
    record {
      asks_nothing = λ κs a. tt;
      agree = λ κs a z z' e e' p q.
          let g = p ∙ sym q in
          (same_refused z z' (ap (λ (x : Placing). x.refusal) g), ap (λ (x : Placing). x.scr) g);
    }

pub mark_determined : Determined _ mark_kinds.ps mark_kinds.r mark.Asked mark.Learnt (List ℕ) (λ κs e. e.0.now)
mark_determined =
    record {
      asks_nothing = λ κs a. tt;
      agree = λ κs a z z' e e' p q.
          let g = p ∙ sym q in
          (ap (λ (x : Marking). x.done) g, ap (λ (x : Marking). x.scr) g);
    }

pub compact_determined : Determined _ compact_kinds.ps compact_kinds.r compact.Asked compact.Learnt (List ℕ) (λ κs e. e.0.now)
compact_determined =
    record {
      asks_nothing = λ κs a. tt;
      agree = λ κs a z z' e e' p q.
          let g = p ∙ sym q in
          (ap (λ (x : Keeping). x.at) g, ap (λ (x : Keeping). x.scr) g);
    }

pub trim_determined : Determined _ trim_kinds.ps trim_kinds.r trim.Asked trim.Learnt (List ℕ) (λ κs e. e.0.now)
trim_determined = record { asks_nothing = λ κs a. tt; agree = λ κs a z z' e e' p q. (refl, p ∙ sym q) }

pub check_levels_determined : Determined _ check_levels_kinds.ps check_levels_kinds.r check_levels.Asked check_levels.Learnt
    (Unit {0}) (λ κs e. tt)
check_levels_determined = record { asks_nothing = λ κs a. tt; agree = λ κs a z z' e e' p q. (p ∙ sym q, refl) }

pub one_root_determined : Determined _ one_root_kinds.ps one_root_kinds.r one_root.Asked one_root.Learnt (Unit {0}) (λ κs e. tt)
one_root_determined = record { asks_nothing = λ κs a. tt; agree = λ κs a z z' e e' p q. (p ∙ sym q, refl) }

pub fits_determined : Determined _ fits_kinds.ps fits_kinds.r fits.Asked fits.Learnt (Unit {0}) (λ κs e. tt)
fits_determined = record { asks_nothing = λ κs a. tt; agree = λ κs a z z' e e' p q. (p ∙ sym q, refl) }
