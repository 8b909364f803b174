-- Any two outcomes that the contract of a public function allows agree: the count of bytes, and the buffer.
use mathlib.Core.Path.{sym, ◌∙◌}
use mathlib.Core.List.{List}
use Prim.Native.Nat.{ℕ}
use Rattle.meaning.specs.Determined.{Determined}
use Rattle.listwalk.proofs.answer.Reads as answer
use Rattle.listwalk.proofs.answer.Kinds as answer_kinds

pub answer_determined : Determined _ answer_kinds.ps answer_kinds.r answer.Asked answer.Learnt (List ℕ) (λ κs e. e.1.0.now)
answer_determined =
    record {
      asks_nothing = λ κs a. tt;
      agree = λ κs a z z' e e' p q. (p.number ∙ sym q.number, p.bytes ∙ sym q.bytes);
    }
