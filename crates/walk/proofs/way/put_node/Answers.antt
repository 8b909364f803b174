-- `walk::way::put_node` meets its contract. Assumes nothing.
use mathlib.Core.Path.{refl}
use Rattle.walk.specs.Kept.{put_in}
use Rattle.walk.proofs.way.put_node.Goals as goal

pub returns : goal.returns
unfolding put_in
returns c = refl
