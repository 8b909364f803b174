-- `oscjardum_root`: the root told.
use mathlib.Core.Path.{ap, ◌∙◌}
use Rattle.meaning.specs.Answers.{is}
use Rattle.meaning.specs.Child.{root}
use Rattle.flight.specs.Layout.{reply, of_node}
use Rattle.flight.proofs.Called.{says}
use Rattle.flight.proofs.asks.oscjardum_root.Goals as goal

pub returns : goal.returns
returns c =
    says of_node (is root) _ _ _ (c.of_node.ensures ∙ ap (λ n. reply of_node (is n)) c.root.ensures) c.answer.ensures
