-- `select_large` meets its contract: by the tests on the way.
use mathlib.Core.Path.{sym, ap, ◌∙◌}
use Rattle.refusal.specs.Said.{found_number}
use Rattle.sparse_one_nnd.proofs.Replies.{broken_of, value_of}
use Rattle.sparse_one_nnd.proofs.Asked.{large_out, large_above, large_none, large_on}
use Rattle.sparse_one_nnd.proofs.DictAreas.select_large.Goals as goal
use Rattle.sparse_one_nnd.proofs.DictAreas.select_large.Goals.{then-q-ones-via-then-q-ones, then-q-ones-via-else-q-ones+then-self-g}

pub returns-in_err-ones : goal.returns-in_err-ones
returns-in_err-ones c =
    let p = broken_of _ _ _ c.in_err-ones.ensures.value c.from_residual.ensures.1 in
    ap found_number p.1 ∙ large_out _ _ _ _ _ (sym p.0 ∙ c.entry.ensures)

pub returns-then-q-ones : goal.returns-then-q-ones
returns-then-q-ones c =
    elim c.then-q-ones.branch [
      | then-q-ones-via-then-q-ones w ↦ large_above _ _ _ _ _ _ _ (sym (value_of _ _ c.in_ok-ones.ensures.value) ∙ c.entry.ensures) w.if-q-ones.true
      | then-q-ones-via-else-q-ones+then-self-g w ↦ large_none _ _ _ _ _ w.if-self-g.true
    ]

pub returns : goal.returns
returns c =
    c.select_from.ensures ∙ large_on _ _ _ _ _ _ _ (sym (value_of _ _ c.in_ok-ones.ensures.value) ∙ c.entry.ensures) _ c.if-q-ones.false c.middle_of-m.ensures
