-- The record of counts: "one record of counts for up to five strings".
use Rattle.std.specs.Prelude.{◌≡◌, [], ◌∷◌, ℕ, length, get_or, replicate}
use Rattle.std.specs.Prelude.{Result, IfOk}
use Rattle.meaning.specs.Answers.{Answer}
use Rattle.meaning.specs.Areas as areas
use Rattle.meaning.specs.Build.{Tree, Lent}
use Rattle.meaning.specs.Questions.{lent_at}
use Rattle.refusal.specs.Said.{said_by}
use Rattle.refusal.specs.declared.Refusal.{Refusal}
use Rattle.record.specs.declared.Counts.{Counts}
use Rattle.record.specs.declared.Catalogue.{Catalogue}

-- string k and its dictionary
abbrev pub level_in : Counts → ℕ → areas.Counts
level_in c k =
    record { bits = get_or c.bits k 0; bytes = get_or c.bytes k 0; middle = get_or c.middles k 0; large = get_or c.larges k 0 }

-- the fifth string, which has none
abbrev pub last_in : Counts → areas.Counts
last_in c = record { bits = get_or c.bits 4 0; bytes = 0; middle = 0; large = 0 }

-- what the record says of a tree
unfoldable pub tree_in : Counts → Tree
tree_in c = record { nodes = c.nodes; counts = level_in c 0 ∷ level_in c 1 ∷ level_in c 2 ∷ level_in c 3 ∷ last_in c ∷ [] }

-- what a catalogue's record says
abbrev pub tree_of : Catalogue → Tree
tree_of k = tree_in k.counts

-- areas 0 to 4, as a question is lent them
abbrev pub lent_of : Catalogue → Lent
lent_of k = lent_at k.words.now k.bytes.now k.middles.now k.larges.now k.labels.now

-- its type: five strings, four dictionaries
pub record Sized (c : Counts) : Type 0 where
  pub bits : length c.bits ≡ 5
  pub bytes : length c.bytes ≡ 4
  pub middles : length c.middles ≡ 4
  pub larges : length c.larges ≡ 4

-- counts of nothing
abbrev pub no_counts : Counts
no_counts = record { nodes = 0; bits = replicate 5 0; bytes = replicate 4 0; middles = replicate 4 0; larges = replicate 4 0 }

-- of the counts that come, where nothing is refused
abbrev pub SizedIn : Result Counts Refusal → Type 0
SizedIn r = IfOk r Sized

-- the tree, or the refusal
abbrev pub said_tree : Result Counts Refusal → Answer Tree
said_tree = said_by tree_in
