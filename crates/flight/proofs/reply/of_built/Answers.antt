-- `of_built`: the nodes of the tree.
use mathlib.Core.Path.{sym, ap, ◌∙◌}
use Rattle.record.specs.Record.{tree_in, said_tree}
use Rattle.flight.specs.Layout.{reply, of_tree}
use Rattle.flight.proofs.reply.of_built.Goals as goal

pub returns-in-Ok : goal.returns-in-Ok
unfolding tree_in
returns-in-Ok c = c.found.ensures ∙ sym (ap (λ b. reply of_tree (said_tree b)) c.in-Ok.is)
