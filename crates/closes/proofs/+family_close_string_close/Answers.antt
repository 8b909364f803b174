-- `family_close` and `string_close`, which call each other, meet their contracts. A string close at a level measures one more than the family close there. Assumes nothing.
use Rattle.std.proofs.Common.{◌≡◌, ◌<◌, ◌≤◌, get_or, suc, ap, arith}
use Rattle.closes.proofs.Rising.{close_over, near_found, near_broken, far_lone, far_last, fits_up, counted, family_none, family_zero, family_broken, family_found, no_pioneer, no_close, far_found}
use borrow.Author.Rules.{rules}
use Rattle.closes.specs.declared.family.At.{At}
use Rattle.closes.proofs.+family_close_string_close.Goals as goal
use Rattle.closes.proofs.+family_close_string_close.Goals.{string_close-then-string-le64-via-then-string-le64, string_close-then-string-le64-via-else-string-le64+then-at-eq4}

pub family_close-returns-in_err-r : goal.family_close-returns-in_err-r
family_close-returns-in_err-r t c = search (family_none, c.in_err-r.was, rules)

pub family_close-returns-then-r-eq0 : goal.family_close-returns-then-r-eq0
family_close-returns-then-r-eq0 t c = search (family_zero, c.in_ok-r.was, rules)

pub family_close-above-next-requires : goal.family_close-above-next-requires
family_close-above-next-requires t c = search (counted, rules)

pub family_close-string_close-requires : goal.family_close-string_close-requires
family_close-string_close-requires t c =
    let up : c.above-next.result.level ≡ suc c.args.at.level = ap (λ (x : At). x.level) c.above-next.ensures in
    (omega arith, search (fits_up, rules))

pub family_close-returns-in_err-k : goal.family_close-returns-in_err-k
family_close-returns-in_err-k t c = search (family_broken, c.in_ok-r.was, c.in_err-k.was, rules)

pub family_close-returns : goal.family_close-returns
family_close-returns t c = search (family_found, c.in_ok-r.was, c.in_ok-k.was, rules)

pub string_close-returns-then-at-ge5 : goal.string_close-returns-then-at-ge5
string_close-returns-then-at-ge5 t c = search (close_over, rules)

pub string_close-returns-in_err-i : goal.string_close-returns-in_err-i
string_close-returns-in_err-i t c = search (near_broken, c.in_err-i.was, rules)

pub string_close-returns-in-Some : goal.string_close-returns-in-Some
string_close-returns-in-Some t c = search (near_found, c.in_ok-i.was, rules)

pub string_close-returns-then-string-le64 : goal.string_close-returns-then-string-le64
string_close-returns-then-string-le64 t c =
    elim c.then-string-le64.branch [
      | string_close-then-string-le64-via-then-string-le64 w ↦
          let few : get_or c.args.catalogue.now.counts.bits c.args.at.level 0 ≤ 64 = omega arith in search (far_lone, c.in_ok-i.was, few, rules)
      | string_close-then-string-le64-via-else-string-le64+then-at-eq4 w ↦ search (far_last, c.in_ok-i.was, rules)
    ]

pub string_close-returns-in_err-q : goal.string_close-returns-in_err-q
string_close-returns-in_err-q t c =
    let many : 64 < get_or c.args.catalogue.now.counts.bits c.args.at.level 0 = omega arith in search (no_pioneer, many, c.in_ok-i.was, c.in_err-q.was, rules)

pub string_close-returns-in_err-close : goal.string_close-returns-in_err-close
string_close-returns-in_err-close t c =
    let many : 64 < get_or c.args.catalogue.now.counts.bits c.args.at.level 0 = omega arith in search (no_close, many, c.in_ok-i.was, c.in_ok-q.was, c.in_err-close.was, rules)

pub string_close-returns : goal.string_close-returns
string_close-returns t c =
    let many : 64 < get_or c.args.catalogue.now.counts.bits c.args.at.level 0 = omega arith in search (far_found, many, c.in_ok-i.was, c.in_ok-q.was, c.in_ok-close.was, rules)
