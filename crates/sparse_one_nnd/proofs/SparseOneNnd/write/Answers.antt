-- `write` meets its contract: by what the first pass finds, then ROOM by area in order, then the second pass.
use mathlib.Core.Path.{ap, ◌∙◌}
use Rattle.sparse_one_nnd.specs.Said.{dict_at, said_entries, after}
use Rattle.sparse_one_nnd.proofs.Replies.{passed_on}
use Rattle.sparse_one_nnd.proofs.Plans.{counts_few}
use Rattle.sparse_one_nnd.proofs.Writes.{write_unplanned, room_1, room_2, room_3, writable, made}
use Rattle.sparse_one_nnd.proofs.SparseOneNnd.write.Goals as goal

pub returns-in_err-found : goal.returns-in_err-found
returns-in_err-found c =
    let a = c.args in
    ap (λ r. after (said_entries r) (dict_at a.bytes.now a.middles.now a.larges.now)) (passed_on _ _ c.from_residual.ensures.1)
    ∙ write_unplanned _ _ _ c.in_err-found.ensures a.from a.bytes.now a.middles.now a.larges.now

pub counts_of-counts-requires : goal.counts_of-counts-requires
counts_of-counts-requires c = counts_few c.in_ok-found.ensures

pub returns-then-saturating_sub-counts : goal.returns-then-saturating_sub-counts
returns-then-saturating_sub-counts c =
    let a = c.args in
    room_1 c.in_ok-found.ensures a.from a.bytes.now a.middles.now a.larges.now _ c.counts_of-counts.ensures _ c.saturating_sub.ensures c.if-saturating_sub-counts.true

pub returns-then-saturating_sub-counts-2 : goal.returns-then-saturating_sub-counts-2
returns-then-saturating_sub-counts-2 c =
    let a = c.args in
    room_2 c.in_ok-found.ensures a.from a.bytes.now a.middles.now a.larges.now _ c.counts_of-counts.ensures _ c.saturating_sub.ensures c.if-saturating_sub-counts.false
    _ c.saturating_sub-2.ensures c.if-saturating_sub-counts-2.true

pub returns-then-saturating_sub-counts-3 : goal.returns-then-saturating_sub-counts-3
returns-then-saturating_sub-counts-3 c =
    let a = c.args in
    room_3 c.in_ok-found.ensures a.from a.bytes.now a.middles.now a.larges.now _ c.counts_of-counts.ensures _ c.saturating_sub.ensures c.if-saturating_sub-counts.false
    _ c.saturating_sub-2.ensures c.if-saturating_sub-counts-2.false _ c.saturating_sub-3.ensures c.if-saturating_sub-counts-3.true

pub put_blocks-requires : goal.put_blocks-requires
put_blocks-requires c =
    let a = c.args in
    writable c.in_ok-found.ensures a.from a.bytes.now a.middles.now a.larges.now _ c.counts_of-counts.ensures _ c.saturating_sub.ensures c.if-saturating_sub-counts.false
    _ c.saturating_sub-2.ensures c.if-saturating_sub-counts-2.false _ c.saturating_sub-3.ensures c.if-saturating_sub-counts-3.false

pub returns : goal.returns
returns c =
    let a = c.args in
    let p = c.put_blocks.ensures in
    made c.in_ok-found.ensures a.from a.bytes.now a.middles.now a.larges.now _ c.counts_of-counts.ensures _ c.saturating_sub.ensures c.if-saturating_sub-counts.false
    _ c.saturating_sub-2.ensures c.if-saturating_sub-counts-2.false _ c.saturating_sub-3.ensures c.if-saturating_sub-counts-3.false _ _ _ p.bytes_after p.middles_after p.larges_after
