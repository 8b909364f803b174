-- `listwalk::tree::write_listing` meets its contract. Assumes nothing.
use native.Mathlib.Omega.{arith}
use Rattle.listwalk.proofs.Build.{listing_halted, listing_next}
use Rattle.listwalk.proofs.tree.write_listing.Goals as goal

pub returns-in_err-at : goal.returns-in_err-at
returns-in_err-at c =
    listing_halted c.requires.1 _ c.size_of-size.ensures c.args.labels.now c.write_head.ensures c.in_err-at.was c.from_residual.ensures

pub returns : goal.returns
returns c =
    listing_next c.requires.1 _ c.size_of-size.ensures c.args.labels.now c.write_head.ensures _ _ (omega (arith, c.requires.0))
    c.siblings_of.ensures _ c.in_ok-at.was
    c.write_nodes.ensures
