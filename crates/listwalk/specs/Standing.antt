-- A tree that a build left: the record of counts and areas 0 to 4.
use Rattle.std.specs.Prelude.{◌≡◌, List, ℕ}
use Rattle.meaning.specs.Areas.{Rooms}
use Rattle.meaning.specs.Refusals.{Accepted}
use Rattle.meaning.specs.Build as meant
use Rattle.meaning.specs.Build.{Lent}
use Rattle.meaning.specs.Questions.{lent_at}
use Rattle.record.specs.declared.Catalogue.{Catalogue}
use Rattle.record.specs.Record.{tree_of, lent_of}

-- areas 0 to 4, as a question is lent them
abbrev pub asked : Lent → Lent
asked a = lent_at a.held.words a.held.bytes a.held.middle a.held.large a.labels

-- the levels vs with some labels were accepted, and the catalogue has the record of their tree and the areas as the build left them
pub record Standing (vs : List ℕ) (k : Catalogue) : Type 0 where
  pub labels : List ℕ
  pub rooms : Rooms
  pub accepted : Accepted vs labels rooms
  pub tree : tree_of k ≡ meant.tree_of vs
  pub areas : lent_of k ≡ asked (meant.lent_of vs labels rooms)
