-- `byte_size` meets its contract.
use mathlib.Core.Path.{ap, ◌∙◌}
use Rattle.refusal.specs.Said.{said_number}
use Rattle.sparse_one_nnd.proofs.Replies.{said_or}
use Rattle.sparse_one_nnd.proofs.Parts.{size_is}
use Rattle.sparse_one_nnd.proofs.SparseOneNnd.byte_size.Goals as goal

pub returns : goal.returns
returns c = ap said_number c.ok_or.ensures.value ∙ said_or _ _ c.size.ensures ∙ size_is _
