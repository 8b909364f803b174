-- `build` meets its contract: a write over zeros, past nothing.
use Rattle.sparse_one_nnd.proofs.Writes.{write_zeros}
use Rattle.sparse_one_nnd.proofs.SparseOneNnd.build.Goals as goal

pub returns : goal.returns
returns c =
    let a = c.args in
    write_zeros _ _ a.bytes.now a.middles.now a.larges.now _ _ _ c.empty.result _ (c.fill.ensures.after (λ _ e. e)) (c.fill-2.ensures.after (λ _ e. e)) (c.fill-3.ensures.after (λ _ e. e)) c.empty.ensures c.write.ensures
