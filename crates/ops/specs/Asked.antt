-- What a string of bits answers before it counts or finds: its length, if its words hold it and the place may be asked.
use Rattle.std.specs.Prelude.{Bool, List, ℕ}
use Rattle.meaning.specs.Answers.{Answer, is}
use Rattle.meaning.specs.BitString.{if_held, before_end}

abbrev pub checked : List ℕ → ℕ → Answer ℕ
checked ws n = if_held ws n (is n)

abbrev pub admitted : Bool → List ℕ → ℕ → ℕ → Answer ℕ
admitted b ws n i = if_held ws n (before_end b n i (is n))
