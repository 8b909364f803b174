-- Any two outcomes that the contract of a public function allows agree: the answer, the two lists and scratch.
use mathlib.Core.List.{List}
use Prim.Native.Nat.{ℕ}
use Rattle.meaning.specs.Determined.{Determined}
use Rattle.walk.proofs.Agree.{walks_agree}
use Rattle.walk.proofs.walk.Reads as walk
use Rattle.walk.proofs.walk.Kinds as walk_kinds

pub walk_determined : Determined _ walk_kinds.ps walk_kinds.r walk.Asked walk.Learnt
    (List ℕ × List ℕ × List ℕ) (λ κs e. (e.1.0.now, e.1.1.0.now, e.1.1.1.0.now))
walk_determined =
    record {
      asks_nothing = λ κs a. tt;
      agree = λ κs a z z' e e' p q.
          let g = walks_agree _ z z' _ _ _ _ _ _ p q in
          (g.0, λ i. (g.1 i, g.2 i, g.3 i));
    }
