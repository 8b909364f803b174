-- `edge_to` meets its contract. Assumes nothing.
use Rattle.questions.proofs.Links.{edge_lost, edge_kept}
use Rattle.std.proofs.lemmas.Result.{err_from_is_err_and}
use Rattle.record.specs.Record.{lent_of}
use Rattle.questions.proofs.link.edge_to.Goals as goal

pub returns-in_err-label : goal.returns-in_err-label
returns-in_err-label c =
    let p = err_from_is_err_and c.from_residual.result c.from_residual.ensures.1 in
    rw (p.1, p.2) (edge_lost c.args.catalogue.now.counts (lent_of c.args.catalogue.now) c.args.place c.args.k _ c.in_err-label.ensures.label)

pub returns : goal.returns
returns c = edge_kept c.args.catalogue.now.counts (lent_of c.args.catalogue.now) c.args.place c.args.k c.in_ok-label.label c.in_ok-label.ensures.label
