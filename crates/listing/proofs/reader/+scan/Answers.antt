-- `listing::reader::scan` meets its contract. The measure is the text's length.
use Rattle.std.proofs.Common.{refl}
use Rattle.listing.proofs.Scan.{scan_done, scan_bad, scan_on, scan_end}
use Rattle.listing.proofs.reader.+scan.Goals as goal

pub returns-then-b-stop : goal.returns-then-b-stop
returns-then-b-stop t c = scan_done _ _ _ _ _ c.in-Some.ensures.cases.0 c.if-b-stop.true

pub returns-in_err-with_digit-in-Some : goal.returns-in_err-with_digit-in-Some
returns-in_err-with_digit-in-Some t c =
    scan_bad _ _ _ _ _ c.in-Some.ensures.cases.0 _ c.if-b-stop.false c.with_digit.ensures c.in_err-with_digit-in-Some.was c.from_residual.ensures

pub returns-in_ok-with_digit-in-Some : goal.returns-in_ok-with_digit-in-Some
returns-in_ok-with_digit-in-Some t c =
    scan_on _ _ _ _ _ c.in-Some.ensures.cases.0 _ c.if-b-stop.false c.with_digit.ensures _ _ c.in_ok-with_digit-in-Some.was c.scan.ensures

pub returns-in-None : goal.returns-in-None
returns-in-None t c = scan_end _ _ _ c.in-None.ensures.cases refl
