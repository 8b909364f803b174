-- `listing::reader::number` meets its contract.
use Rattle.listing.proofs.Scan.{field_end, field_bad, field_on}
use Rattle.listing.proofs.reader.number.Goals as goal

pub returns-in_err-b : goal.returns-in_err-b
returns-in_err-b c = field_end _ _ c.in_err-b.ensures.cases c.from_residual.ensures

pub returns-in_err-digit_of : goal.returns-in_err-digit_of
returns-in_err-digit_of c =
    field_bad _ _ _ _ c.in_ok-b.ensures.cases.0 _ c.digit_of.ensures c.in_err-digit_of.was c.from_residual-in_err-digit_of.ensures

pub returns : goal.returns
returns c = field_on _ _ _ _ c.in_ok-b.ensures.cases.0 _ c.digit_of.ensures _ _ c.in_ok-digit_of.was c.scan.ensures
