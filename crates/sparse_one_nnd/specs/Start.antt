-- Entries, and where a walk starts, as the code says it.
use Rattle.std.specs.Prelude.{true, false, List, ℕ, ◌+◌, ◌*◌, ◌/◌, ◌^◌, ltb, length, get_or}
use Rattle.std.specs.Prelude.{Option, None, Some}
use Rattle.std.proofs.Math.Option as maybe
use Rattle.meaning.specs.Dictionary as dictionary
use Rattle.sparse_one_nnd.specs.declared.entries.Start.{Start}

-- entry i of the entries of two numbers, if there is one
abbrev pub entry_of : List ℕ → ℕ → Option (ℕ × ℕ)
entry_of es i = elim (ltb i (length es / 2)) [ true ↦ Some (get_or es (2 * i) 0, get_or es (2 * i + 1) 0) | false ↦ None ]

-- the ones before, and the bytes from a position on
abbrev pub start_in : Option Start → maybe.Option dictionary.Start
start_in (Some s) = maybe.some (record { passed = s.ones; rest = s.rest.now })
start_in None = maybe.none

-- a start whose ones overflow is none: every answer from it is BROKEN
unfoldable pub limit_start : maybe.Option dictionary.Start → maybe.Option dictionary.Start
limit_start maybe.none = maybe.none
limit_start (maybe.some s) = elim (ltb s.passed (2 ^ 64)) [ true ↦ maybe.some s | false ↦ maybe.none ]
