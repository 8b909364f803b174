-- What the walk leaves: its answer with the lists and scratch.
use Rattle.std.specs.Prelude.{List, ℕ, length}
use Rattle.meaning.specs.Answers.{Answer}
use Rattle.meaning.specs.Walking as walking
use Rattle.meaning.specs.Walking.{WalkRooms}

-- an answer with what the lists and scratch hold
abbrev pub walked : Answer ℕ → List ℕ → List ℕ → List ℕ → walking.Walked
walked n vs bs s = record { answer = n; levels = vs; labels = bs; scratch = s }

-- the rooms of the lent lists
abbrev pub rooms_at : List ℕ → List ℕ → List ℕ → WalkRooms
rooms_at vs bs s = record { levels = length vs; labels = length bs; scratch = length s }
