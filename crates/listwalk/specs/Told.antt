-- What is told of an answer and of a verdict.
use Rattle.std.specs.Prelude.{ℕ}
use Rattle.meaning.specs.Answers.{Answer, is, nothing, refused}

-- a number that is answered, and 0 where there is none
unfoldable pub or_zero : Answer ℕ → ℕ
or_zero (is n) = n
or_zero nothing = 0
or_zero (refused r) = 0
