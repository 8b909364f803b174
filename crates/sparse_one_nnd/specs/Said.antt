-- What the code's answers say, and the areas and counts that they are about.
use Rattle.std.specs.Prelude.{◌≡◌, true, false, List, ℕ, Result, Ok, Err}
use Rattle.meaning.specs.Answers.{Answer}
use Rattle.meaning.specs.Dictionary.{Dict}
use Rattle.meaning.specs.Direct.{Entries, DictAfter, dict_in, entries_fit}
use Rattle.refusal.specs.Said.{said_by}
use Rattle.refusal.specs.declared.Refusal.{Refusal}
use Rattle.refusal.specs.declared.Refusal.TheVariants.{Broken}
use Rattle.sparse_one_nnd.specs.declared.SparseOneNnd.{SparseOneNnd}
use Rattle.sparse_one_nnd.specs.declared.DictAreas.{DictAreas}

-- the record of counts
abbrev pub entries_in : SparseOneNnd → Entries
entries_in c = record { bytes = c.bytes; middle = c.middles; large = c.larges }

-- areas 1 to 3, or a level's own part of them
abbrev pub dict_at : List ℕ → List ℕ → List ℕ → Dict
dict_at B M L = record { bytes = B; middle = M; large = L }

-- what they hold, as a question is lent them
abbrev pub areas_in : DictAreas → Dict
areas_in a = dict_at a.bytes.now a.middles.now a.larges.now

-- the plan, a write and a build: the counts, or a refusal
abbrev pub said_entries : Result SparseOneNnd Refusal → Answer Entries
said_entries = said_by entries_in

-- the answer, and what areas 1 to 3 hold after the call
abbrev pub after : Answer Entries → Dict → DictAfter
after r a = record { reply = r; areas = a }

-- the part of the areas that the counts say, or BROKEN where they do not fit
abbrev pub IsOwn : Entries → Dict → Result DictAreas Refusal → Type 0
IsOwn e d (Ok a) = (entries_fit e d ≡ true) × (areas_in a ≡ dict_in e d)
IsOwn e d (Err r) = (entries_fit e d ≡ false) × (r ≡ Broken)
