-- `listwalk::tree::listed` meets its contract. Assumes nothing.
use mathlib.Core.Path.{refl}
use native.Mathlib.Omega.{arith}
use Rattle.meaning.specs.Build.{rooms_of}
use Rattle.listwalk.proofs.Build.{stands, listed_made, listed_refused}
use Rattle.listwalk.proofs.tree.listed.Goals as goal

pub write_listing-requires : goal.write_listing-requires
write_listing-requires c = (c.requires.1, stands c.args.levels.now c.args.labels.now _ c.build.result _ _ _ _ _ _ c.build.ensures.outcome _ c.in-Ok.is _ refl refl)

pub returns-in-Err : goal.returns-in-Err
unfolding rooms_of
returns-in-Err c =
    listed_refused c.args.levels.now c.args.labels.now _ c.build.result _ _ _ _ _ _ c.build.ensures.outcome c.requires.0 c.requires.1
    (record { words = omega arith; bytes = omega arith; middle = omega arith; large = omega arith; labels = omega arith; scratch = omega arith })
    _ c.in-Err.is c.write_refused.ensures

pub returns : goal.returns
unfolding rooms_of
returns c =
    listed_made c.args.levels.now c.args.labels.now _ c.build.result _ _ _ _ _ _ c.build.ensures.outcome c.requires.0 c.requires.1
    (record { words = omega arith; bytes = omega arith; middle = omega arith; large = omega arith; labels = omega arith; scratch = omega arith })
    _ c.in-Ok.is c.write_listing.ensures
