-- Build: what it answers, and what it leaves in the six lent areas.
use Rattle.std.proofs.Math.Option.{none, some}
use Rattle.std.specs.Prelude.{List, ℕ, length, replicate}
use Rattle.meaning.specs.Answers.{Answer, is, refused}
use Rattle.meaning.specs.String.{string}
use Rattle.meaning.specs.Family.{Level, tower}
use Rattle.meaning.specs.Walk.{Answers, stepped}
use Rattle.meaning.specs.Areas.{Rooms, Counts, Held, filled, view, written, counted}
use Rattle.meaning.specs.Refusals.{refusal}

-- the six lent areas
pub record Lent : Type 0 where
  pub held : Held
  pub labels : List ℕ
  pub scratch : List ℕ

-- their lengths
unfoldable pub rooms_of : Lent → Rooms
rooms_of a =
    record {
      words = length a.held.words;
      bytes = length a.held.bytes;
      middle = length a.held.middle;
      large = length a.held.large;
      labels = length a.labels;
      scratch = length a.scratch;
    }

-- the number of nodes and the counts of up to five strings
pub record Tree : Type 0 where
  pub nodes : ℕ
  pub counts : List Counts

-- the answer, and what the areas hold after the call
pub record After : Type 0 where
  pub reply : Answer Tree
  pub areas : Lent

-- the record of a list that is accepted
unfoldable pub tree_of : List ℕ → Tree
tree_of levels = record { nodes = length levels; counts = counted (tower 4 (string levels)) }

-- and its areas: "unused elements are zero", "Scratch is zero after every call"
unfoldable pub lent_of : List ℕ → List ℕ → Rooms → Lent
lent_of levels labels rooms =
    record {
      held = written rooms (tower 4 (string levels));
      labels = filled rooms.labels labels;
      scratch = replicate rooms.scratch 0;
    }

-- "A refused build leaves all six areas zero"
unfoldable pub zeroed : Rooms → Lent
zeroed rooms =
    record {
      held =
          record {
            words = replicate rooms.words 0;
            bytes = replicate rooms.bytes 0;
            middle = replicate rooms.middle 0;
            large = replicate rooms.large 0;
          };
      labels = replicate rooms.labels 0;
      scratch = replicate rooms.scratch 0;
    }

-- a build
unfoldable pub build : List ℕ → List ℕ → Rooms → After
build levels labels rooms =
    elim (refusal levels labels rooms) [
      | none ↦ record { reply = is (tree_of levels); areas = lent_of levels labels rooms }
      | some r ↦ record { reply = refused r; areas = zeroed rooms }
    ]

-- the levels that the areas hold by the record of counts
abbrev pub levels_in : Tree → Lent → List Level
levels_in t a = view t.counts a.held

-- first child and next sibling by the steps over them
abbrev pub answers_in : Tree → Lent → Answers
answers_in t a = stepped (levels_in t a)
