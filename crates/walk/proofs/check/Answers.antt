-- `check` meets its contract. Assumes nothing.
use Rattle.std.proofs.Common.{arith}
use Rattle.record.specs.Record.{lent_of}
use Rattle.walk.proofs.Checks.{few, no_counts, no_scratch, no_levels, no_labels, no_refusal}
use borrow.Author.Rules.{rules}
use Rattle.walk.proofs.check.Goals as goal

pub returns-in_err-nodes : goal.returns-in_err-nodes
returns-in_err-nodes c = search (no_counts, rules)

pub overflow_mul-nodes : goal.overflow_mul-nodes
overflow_mul-nodes c =
    let n = few c.args.catalogue.now.counts (lent_of c.args.catalogue.now) c.in_ok-nodes.nodes c.in_ok-nodes.ensures in
    omega (arith, n)

pub overflow_add-nodes : goal.overflow_add-nodes
overflow_add-nodes c =
    let n = few c.args.catalogue.now.counts (lent_of c.args.catalogue.now) c.in_ok-nodes.nodes c.in_ok-nodes.ensures in
    omega (arith, n)

pub returns-then-scratch-nodes : goal.returns-then-scratch-nodes
returns-then-scratch-nodes c = search (no_scratch, c.in_ok-nodes.ensures, rules)

pub returns-then-out_levels-nodes : goal.returns-then-out_levels-nodes
returns-then-out_levels-nodes c = search (no_levels, c.in_ok-nodes.ensures, rules)

pub returns-then-out_labels-nodes : goal.returns-then-out_labels-nodes
returns-then-out_labels-nodes c = search (no_labels, c.in_ok-nodes.ensures, rules)

pub returns : goal.returns
returns c = search (no_refusal, c.in_ok-nodes.ensures, rules)
