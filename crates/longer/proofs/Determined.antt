-- Any two outcomes that the contract of a public function allows agree: the answer, and scratch.
use mathlib.Core.Path.{sym, ap, ◌∙◌}
use mathlib.Core.List.{List}
use Prim.Native.Nat.{ℕ}
use Rattle.meaning.specs.Determined.{Determined}
use Rattle.pioneers.specs.Placed.{Placing}
use Rattle.pioneers.proofs.Agree.{same_refused}
use Rattle.longer.proofs.place_longer.Reads as place_longer
use Rattle.longer.proofs.place_longer.Kinds as place_longer_kinds

pub place_longer_determined : Determined _ place_longer_kinds.ps place_longer_kinds.r place_longer.Asked place_longer.Learnt
    (List ℕ) (λ κs e. e.1.1.1.1.0.now)
place_longer_determined =
    record {
      asks_nothing = λ κs a. tt;
      agree = λ κs a z z' e e' p q.
          let g = p ∙ sym q in
          (same_refused z z' (ap (λ (x : Placing). x.refusal) g), ap (λ (x : Placing). x.scr) g);
    }
