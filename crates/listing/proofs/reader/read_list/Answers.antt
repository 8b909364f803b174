-- `listing::reader::read_list` meets its contract. The loop's invariant: k entries are stored, and the next line starts at `at`.
use Rattle.listing.proofs.Fill.{from_zeros, narrow, narrow_labels, filled_more, filled_bad, filled_over, filled_all}
use Rattle.std.proofs.Common.{sym, ◌∙◌}
use borrow.Author.Rules.{rules}
use borrow.Author.Tests.{eqb-false}
use Rattle.listing.proofs.reader.read_list.Goals as goal
use Rattle.listing.proofs.reader.read_list.Goals.{then-levels-lt-MOST-via-then-levels-lt-MOST, then-levels-lt-MOST-via-else-levels-lt-MOST+then-labels-lt-MOST, then-k-lt-MOST, else-k-lt-MOST}

pub returns-then-levels-lt-MOST : goal.returns-then-levels-lt-MOST
returns-then-levels-lt-MOST c =
    let p = c.fill.ensures.after (λ y e. e) in
    let q = c.fill-2.ensures.after (λ y e. e) in
    elim c.then-levels-lt-MOST.branch [
      | then-levels-lt-MOST-via-then-levels-lt-MOST w ↦ narrow _ _ _ _ _ p q w.if-levels-lt-MOST.true
      | then-levels-lt-MOST-via-else-levels-lt-MOST+then-labels-lt-MOST w ↦ narrow_labels _ _ _ _ _ p q w.if-levels-lt-MOST.false w.if-labels-lt-MOST.true
    ]

pub loop-rest-init : goal.loop-rest-init
loop-rest-init c =
    from_zeros _ _ _ _ _ (c.fill.ensures.after (λ y e. e)) (c.fill-2.ensures.after (λ y e. e)) c.if-levels-lt-MOST.false c.if-labels-lt-MOST.false

pub returns-in_default : goal.returns-in_default
returns-in_default c =
    let p = c.fill-in_default.ensures.after (λ y e. e) in
    let q = c.fill-in_default-2.ensures.after (λ y e. e) in
    let x = c.fill.ensures.len in
    let y = c.fill-2.ensures.len in
    let n = eqb-false _ _ (sym c.is_empty.ensures ∙ c.loop-rest-test.true) in
    elim c.if-k-lt-MOST.branch [
      | then-k-lt-MOST w ↦ filled_bad c.loop-rest.invariant p q x y _ n w.if-k-lt-MOST.true w.line-next.ensures (λ r e. c.in_default.not-Some r (w.next-is ∙ e))
      | else-k-lt-MOST w ↦ filled_over c.loop-rest.invariant p q x y n w.if-k-lt-MOST.false
    ]

pub loop-rest-preserved : goal.loop-rest-preserved
loop-rest-preserved c =
    elim c.if-k-lt-MOST.branch [
      | then-k-lt-MOST w ↦ filled_more c.loop-rest.invariant _ _ w.if-k-lt-MOST.true w.line-next.ensures (sym w.next-is ∙ c.in-Some.is)
      | else-k-lt-MOST w ↦ let e = w.next-is in let f = c.in-Some.is in absurd cc
    ]

pub returns : goal.returns
returns c = search (filled_all, rules)
