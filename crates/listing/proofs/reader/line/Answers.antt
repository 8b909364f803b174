-- `listing::reader::line` meets its contract.
use Rattle.listing.proofs.Scan.{row_none, row_half, row_got}
use Rattle.listing.proofs.reader.line.Goals as goal

pub returns-in_err-level : goal.returns-in_err-level
returns-in_err-level c = row_none _ _ c.number.ensures c.in_err-level.was c.from_residual.ensures

pub returns-in_err-label : goal.returns-in_err-label
returns-in_err-label c =
    row_half _ _ c.number.ensures _ c.in_ok-level.was _ c.number-2.ensures c.in_err-label.was c.from_residual-in_err-label.ensures

pub returns : goal.returns
returns c = row_got _ _ c.number.ensures _ c.in_ok-level.was _ c.number-2.ensures _ c.in_ok-label.was
