-- `write_label`: past the end nothing is written.
use mathlib.Core.Path.{sym}
use native.Mathlib.Omega.{arith}
use lib.Seq.{set_out}
use Rattle.balanced_parens.proofs.growth.write_label.Goals as goal

pub returns-else-n-area : goal.returns-else-n-area
returns-else-n-area c = sym (set_out _ _ _ (omega arith))
