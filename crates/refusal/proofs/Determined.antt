-- Any two outcomes that the contract of a public function allows agree.
use mathlib.Core.Path.{refl, sym, ◌∙◌}
use Rattle.meaning.specs.Determined.{Determined}
use Rattle.refusal.proofs.Refusal.number.Reads as refusal_number
use Rattle.refusal.proofs.Refusal.number.Kinds as refusal_number_kinds
use Rattle.refusal.proofs.Refusal.carried.Reads as refusal_carried
use Rattle.refusal.proofs.Refusal.carried.Kinds as refusal_carried_kinds

pub number_determined : Determined _ refusal_number_kinds.ps refusal_number_kinds.r refusal_number.Asked refusal_number.Learnt (Unit {0}) (λ κs e. tt)
number_determined = record { asks_nothing = λ κs a. tt; agree = λ κs a z z' e e' p q. (p ∙ sym q, refl) }

pub carried_determined : Determined _ refusal_carried_kinds.ps refusal_carried_kinds.r refusal_carried.Asked refusal_carried.Learnt (Unit {0}) (λ κs e. tt)
carried_determined = record { asks_nothing = λ κs a. tt; agree = λ κs a z z' e e' p q. (p ∙ sym q, refl) }
