-- `listwalk::siblings::sibling_of` meets its contract. Assumes nothing.
use mathlib.Core.Path.{refl}
use native.Mathlib.Omega.{arith}
use Rattle.listwalk.proofs.Column.{place_fits, sibling_edge, sibling_nothing, sibling_refused}
use Rattle.listwalk.proofs.siblings.sibling_of.Goals as goal

pub overflow_sub-node : goal.overflow_sub-node
overflow_sub-node c = omega (arith, place_fits c.requires.1 c.requires.0)

pub returns-in-Ok-Some : goal.returns-in-Ok-Some
returns-in-Ok-Some c =
    sibling_edge c.requires.1 c.requires.0 _ _ _ refl refl c.next_sibling.ensures _ _ c.in-Ok-Some.is c.in-Ok-Some.field-0-is

pub returns-in-Ok-None : goal.returns-in-Ok-None
returns-in-Ok-None c =
    sibling_nothing c.requires.1 c.requires.0 _ _ _ refl refl c.next_sibling.ensures _ c.in-Ok-None.is c.in-Ok-None.field-0-is

pub returns-in-Err : goal.returns-in-Err
returns-in-Err c = sibling_refused c.requires.1 c.requires.0 _ _ _ refl refl c.next_sibling.ensures _ c.in-Err.is
