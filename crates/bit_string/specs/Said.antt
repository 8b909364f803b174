-- What a step of the cursor says: the one it met and the place from which it goes on, or as the bit string says.
use Rattle.std.specs.Prelude.{ℕ, Option, Result}
use Rattle.meaning.specs.Answers.{Answer}
use Rattle.meaning.specs.BitString.{Met}
use Rattle.refusal.specs.declared.Refusal.{Refusal}
use Rattle.refusal.specs.Said.{found_by}
use Rattle.bit_string.specs.declared.Cursor.{Cursor}

abbrev pub met_of : ℕ × Cursor → Met
met_of p = record { place = p.0; next = p.1.next }

abbrev pub said_step : Result (Option (ℕ × Cursor)) Refusal → Answer Met
said_step = found_by met_of
