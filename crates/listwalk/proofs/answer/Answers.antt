-- `listwalk::answer` meets its contract. Assumes nothing.
use Rattle.listwalk.proofs.Answered.{answered}
use Rattle.listwalk.proofs.answer.Goals as goal

pub returns : goal.returns
returns c = let e = c.unwrap_or.ensures in rw e (answered _ c.walk.ensures)
