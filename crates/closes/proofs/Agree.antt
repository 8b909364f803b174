-- Any two outcomes that a contract allows agree: what is said tells the answer.
use mathlib.Core.Path.{◌≡◌, sym, ◌∙◌}
use mathlib.Core.Bool.{Bool}
use Prim.Native.Nat.{ℕ}
use Rattle.std.specs.Prelude.{Option, Result}
use Rattle.std.proofs.Math.Option as maybe
use Rattle.refusal.specs.declared.Refusal.{Refusal}
use Rattle.refusal.specs.Said.{option_of, said_number, said_bit}
use Rattle.refusal.proofs.Agree.{same_number, same_bit, same_option}
use Rattle.closes.specs.Steps.{Finds}

-- the close
pub closes_agree : (r s : Result ℕ Refusal) → said_number r ≡ said_number s → r ≡ s
closes_agree r s e = same_number r s e

-- the bit
pub bits_agree : (r s : Result Bool Refusal) → said_bit r ≡ said_bit s → r ≡ s
bits_agree r s e = same_bit r s e

-- the steps of a close
pub steps_agree : (r s : Option ℕ) → option_of r ≡ option_of s → r ≡ s
steps_agree r s e = same_option r s e

pub finds_agree : (o : maybe.Option ℕ) (r s : Option ℕ) → Finds r o → Finds s o → r ≡ s
finds_agree o r s e f = steps_agree r s (e.is ∙ sym f.is)
