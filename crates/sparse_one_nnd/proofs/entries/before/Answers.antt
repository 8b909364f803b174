-- `before` meets its contract. The invariant is `Seeking`.
use mathlib.Core.Path.{◌≡◌, ◌∙◌}
use Prim.Native.Nat.{◌/◌}
use native.Mathlib.Omega.{arith}
use lib.ListN.{length}
use Rattle.sparse_one_nnd.proofs.Seeks.{seek_end, seek_stop, seek_on, item_number, as_many}
use Rattle.sparse_one_nnd.proofs.entries.before.Goals as goal

pub returns-then-q-wide : goal.returns-then-q-wide
returns-then-q-wide g c =
    let f = g.T.Number.number in
    let es = c.args.es.now in
    (seek_stop c.loop-i.invariant _ (item_number f es _ _ _ c.loop-i-test.true c.index-es-i.is c.wide.ensures) (omega (arith, as_many f es)) c.if-q-wide.true, omega arith)

pub loop-i-preserved : goal.loop-i-preserved
loop-i-preserved g c =
    let f = g.T.Number.number in
    let es = c.args.es.now in
    seek_on c.loop-i.invariant _ (item_number f es _ _ _ c.loop-i-test.true c.index-es-i.is c.wide.ensures) (omega (arith, as_many f es)) c.if-q-wide.false

pub returns : goal.returns
returns g c =
    let e : length c.args.es.now / 2 ≡ c.loop-i.i = omega arith in
    (e ∙ seek_end c.loop-i.invariant (omega (arith, as_many g.T.Number.number c.args.es.now)), omega arith)
