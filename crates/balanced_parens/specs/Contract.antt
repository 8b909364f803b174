-- The contracts of build and growth: the answer, its counts, and the final contents of all six areas.
use Rattle.std.specs.Prelude.{◌≡◌, Result, List, ℕ}
use Rattle.meaning.specs.Areas.{Held}
use Rattle.meaning.specs.Build.{Lent, rooms_of, build}
use Rattle.meaning.specs.Growth.{grow}
use Rattle.refusal.specs.declared.Refusal.{Refusal}
use Rattle.record.specs.Record.{tree_in, SizedIn}
use Rattle.record.specs.declared.Counts.{Counts}
use Rattle.parentheses.specs.Raises.{Raising, raising}
use Rattle.balanced_parens.specs.Said.{said}
use Rattle.balanced_parens.specs.Areas.{after}

-- BUILD of the levels vs and the labels bs, from the areas a to the areas z, with the answer r
pub record Builds (vs bs : List ℕ) (a z : Lent) (r : Result Counts Refusal) : Type 0 where
  pub outcome : after (said r) z ≡ build vs bs (rooms_of a)
  pub sized : SizedIn r

-- GROWTH by level v and label b of what the record c and the areas a hold, to the areas z, with the answer r
pub record GrowsTo (c : Counts) (v b : ℕ) (a z : Lent) (r : Result Counts Refusal) : Type 0 where
  pub outcome : after (said r) z ≡ grow (tree_in c) a v b
  pub sized : SizedIn r

-- areas 0 to 3 and scratch, and the answer, are what x says
pub record Staged (x : Raising) (h : Held) (s : List ℕ) (r : Result Counts Refusal) : Type 0 where
  pub outcome : raising (said r) h s ≡ x
  pub sized : SizedIn r
