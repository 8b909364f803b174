-- `find::nth_in` meets its contract.
use Rattle.bit_string.proofs.Behind.{nth_found}
use Rattle.bit_string.proofs.find.nth_in.Goals as goal

pub returns : goal.returns
returns c =
    let a = c.args in
    nth_found a.x a.k _ c.select_one.ensures _ c.pop_count-ones.ensures c.if-ones-k.false c.ok_or.result c.ok_or.ensures.value
