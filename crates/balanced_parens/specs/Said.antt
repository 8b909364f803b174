-- What build and growth answer: the tree, or the refusal.
use Rattle.std.specs.Prelude.{Result}
use Rattle.meaning.specs.Answers.{Answer}
use Rattle.meaning.specs.Build.{Tree}
use Rattle.refusal.specs.declared.Refusal.{Refusal}
use Rattle.record.specs.Record.{said_tree}
use Rattle.record.specs.declared.Counts.{Counts}

abbrev pub said : Result Counts Refusal → Answer Tree
said = said_tree
