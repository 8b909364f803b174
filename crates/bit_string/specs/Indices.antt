-- A step of `OneIndices`: its answer, and the struct after it.
use Rattle.std.specs.Prelude.{ℕ}
use Rattle.meaning.specs.Answers.{Answer, is, nothing, refused}
use Rattle.meaning.specs.BitString.{Met, one_from}
use Rattle.bit_string.specs.declared.one_indices.Moved.{Moved}
use Rattle.bit_string.specs.declared.one_indices.OneIndices.{OneIndices}

abbrev pub step_of : Moved → Met
step_of m = record { place = m.step; next = m.next }

-- the place of the one that is met
abbrev pub place_of : Answer Met → Answer ℕ
place_of (is m) = is m.place
place_of nothing = nothing
place_of (refused r) = refused r

-- the place from which a step that was asked at i goes on
abbrev pub goes_on : Answer Met → ℕ → ℕ
goes_on (is m) i = m.next
goes_on nothing i = i
goes_on (refused r) i = i

abbrev pub answer : OneIndices → Answer Met
answer it = one_from it.string.words.now it.string.len it.next

abbrev pub met : OneIndices → Answer ℕ
met it = place_of (answer it)

abbrev pub moved : OneIndices → OneIndices
moved it = record { string = it.string; next = goes_on (answer it) it.next }
