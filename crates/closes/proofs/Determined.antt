-- Any two outcomes that the contract of a public function allows agree: what is said tells the answer.
use mathlib.Core.Path.{refl, sym, ◌∙◌}
use Rattle.meaning.specs.Determined.{Determined}
use Rattle.closes.proofs.Agree.{closes_agree, bits_agree}
use Rattle.closes.proofs.get_close.Reads as get_close
use Rattle.closes.proofs.get_close.Kinds as get_close_kinds
use Rattle.closes.proofs.get.Reads as get
use Rattle.closes.proofs.get.Kinds as get_kinds
use Rattle.closes.proofs.fit.counts_fit.Reads as counts_fit
use Rattle.closes.proofs.fit.counts_fit.Kinds as counts_fit_kinds
use Rattle.closes.proofs.level.Bits.open_at.Reads as open_at
use Rattle.closes.proofs.level.Bits.open_at.Kinds as open_at_kinds

pub get_close_determined : Determined _ get_close_kinds.ps get_close_kinds.r get_close.Asked get_close.Learnt (Unit {0}) (λ κs e. tt)
get_close_determined = record { asks_nothing = λ κs a. tt; agree = λ κs a z z' e e' p q. (closes_agree z z' (p ∙ sym q), refl) }

pub get_determined : Determined _ get_kinds.ps get_kinds.r get.Asked get.Learnt (Unit {0}) (λ κs e. tt)
get_determined = record { asks_nothing = λ κs a. tt; agree = λ κs a z z' e e' p q. (bits_agree z z' (p ∙ sym q), refl) }

pub counts_fit_determined : Determined _ counts_fit_kinds.ps counts_fit_kinds.r counts_fit.Asked counts_fit.Learnt (Unit {0}) (λ κs e. tt)
counts_fit_determined = record { asks_nothing = λ κs a. tt; agree = λ κs a z z' e e' p q. (p ∙ sym q, refl) }

pub open_at_determined : Determined _ open_at_kinds.ps open_at_kinds.r open_at.Asked open_at.Learnt (Unit {0}) (λ κs e. tt)
open_at_determined = record { asks_nothing = λ κs a. tt; agree = λ κs a z z' e e' p q. (p ∙ sym q, refl) }
