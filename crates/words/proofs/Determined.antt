-- Any two outcomes that the contract of a public function allows agree.
use mathlib.Core.Path.{refl, sym, ◌∙◌}
use mathlib.Core.List.{List}
use Prim.Native.Nat.{ℕ}
use Rattle.meaning.specs.Determined.{Determined}
use Rattle.words.proofs.enough.Reads as enough
use Rattle.words.proofs.enough.Kinds as enough_kinds
use Rattle.words.proofs.word_count.Reads as word_count
use Rattle.words.proofs.word_count.Kinds as word_count_kinds
use Rattle.words.proofs.word_at.Reads as word_at
use Rattle.words.proofs.word_at.Kinds as word_at_kinds
use Rattle.words.proofs.low.Reads as low
use Rattle.words.proofs.low.Kinds as low_kinds
use Rattle.words.proofs.bit_of.Reads as bit_of
use Rattle.words.proofs.bit_of.Kinds as bit_of_kinds
use Rattle.words.proofs.bit_at.Reads as bit_at
use Rattle.words.proofs.bit_at.Kinds as bit_at_kinds
use Rattle.words.proofs.with_bit.Reads as with_bit
use Rattle.words.proofs.with_bit.Kinds as with_bit_kinds
use Rattle.words.proofs.store.Reads as store
use Rattle.words.proofs.store.Kinds as store_kinds

pub enough_determined : Determined _ enough_kinds.ps enough_kinds.r enough.Asked enough.Learnt (Unit {0}) (λ κs e. tt)
enough_determined = record { asks_nothing = λ κs a. tt; agree = λ κs a z z' e e' p q. (p ∙ sym q, refl) }

pub word_count_determined : Determined _ word_count_kinds.ps word_count_kinds.r word_count.Asked word_count.Learnt (Unit {0}) (λ κs e. tt)
word_count_determined = record { asks_nothing = λ κs a. tt; agree = λ κs a z z' e e' p q. (p ∙ sym q, refl) }

pub word_at_determined : Determined _ word_at_kinds.ps word_at_kinds.r word_at.Asked word_at.Learnt (Unit {0}) (λ κs e. tt)
word_at_determined = record { asks_nothing = λ κs a. tt; agree = λ κs a z z' e e' p q. (p ∙ sym q, refl) }

pub low_determined : Determined _ low_kinds.ps low_kinds.r low.Asked low.Learnt (Unit {0}) (λ κs e. tt)
low_determined = record { asks_nothing = λ κs a. tt; agree = λ κs a z z' e e' p q. (p ∙ sym q, refl) }

pub bit_of_determined : Determined _ bit_of_kinds.ps bit_of_kinds.r bit_of.Asked bit_of.Learnt (Unit {0}) (λ κs e. tt)
bit_of_determined = record { asks_nothing = λ κs a. tt; agree = λ κs a z z' e e' p q. (p ∙ sym q, refl) }

pub bit_at_determined : Determined _ bit_at_kinds.ps bit_at_kinds.r bit_at.Asked bit_at.Learnt (Unit {0}) (λ κs e. tt)
bit_at_determined = record { asks_nothing = λ κs a. tt; agree = λ κs a z z' e e' p q. (p ∙ sym q, refl) }

pub with_bit_determined : Determined _ with_bit_kinds.ps with_bit_kinds.r with_bit.Asked with_bit.Learnt (Unit {0}) (λ κs e. tt)
with_bit_determined = record { asks_nothing = λ κs a. tt; agree = λ κs a z z' e e' p q. (p ∙ sym q, refl) }

pub store_determined : Determined _ store_kinds.ps store_kinds.r store.Asked store.Learnt (List ℕ) (λ κs e. e.0.now)
store_determined = record { asks_nothing = λ κs a. tt; agree = λ κs a z z' e e' p q. (refl, p ∙ sym q) }
