-- `write_levels`: `left` falls at each call; each way out by its law.
use Rattle.std.proofs.Common.{inl, inr, arith}
use Rattle.parentheses.proofs.Written.{write_room, write_last, write_putting, write_refused, write_small, write_next, write_more}
use Rattle.parentheses.proofs.writes.+write_levels.Goals as goal
use Rattle.parentheses.proofs.writes.+write_levels.Goals.{then-lay-le64-via-then-lay-le64, then-lay-le64-via-else-lay-le64+then-left-eq0}

pub write_string-requires : goal.write_string-requires
write_string-requires t c = write_room _ _ _ _ _ _ _ _ c.requires

pub returns-then-lay-le64-clause-written : goal.returns-then-lay-le64-clause-written
returns-then-lay-le64-clause-written t c =
    elim c.then-lay-le64.branch [
      | then-lay-le64-via-then-lay-le64 w ↦ write_last _ _ _ _ _ _ _ _ c.requires _ c.write_string.ensures (inl w.if-lay-le64.true) _ (c.fill.ensures.after (λ y e. e))
      | then-lay-le64-via-else-lay-le64+then-left-eq0 w ↦ write_last _ _ _ _ _ _ _ _ c.requires _ c.write_string.ensures (inr w.if-left-eq0.true) _ (c.fill.ensures.after (λ y e. e))
    ]

pub write_family-requires : goal.write_family-requires
write_family-requires t c = write_putting _ _ _ _ _ _ _ _ c.requires _ c.write_string.ensures c.if-lay-le64.false c.if-left-eq0.false

pub returns-in_default : goal.returns-in_default
returns-in_default t c =
    write_refused _ _ _ _ _ _ _ _ c.requires _ c.write_string.ensures c.if-lay-le64.false c.if-left-eq0.false _ _ _ _ c.in_default.ensures

pub add-past-requires : goal.add-past-requires
add-past-requires t c =
    write_small _ _ _ _ _ _ _ _ c.requires _ c.write_string.ensures c.if-lay-le64.false c.if-left-eq0.false _ _ _ _ _ c.in-Some.ensures

pub write_levels-requires : goal.write_levels-requires
write_levels-requires t c =
    (omega (arith, c.if-left-eq0.false), write_next _ _ _ _ _ _ _ _ c.requires _ c.write_string.ensures c.if-lay-le64.false c.if-left-eq0.false _ _ _ _ _ c.in-Some.ensures _ c.add-past.ensures)

pub returns-clause-written : goal.returns-clause-written
returns-clause-written t c =
    write_more _ _ _ _ _ _ _ _ c.requires _ c.write_string.ensures c.if-lay-le64.false c.if-left-eq0.false _ _ _ _ _ c.in-Some.ensures _ c.add-past.ensures _ _ _ _ _ c.write_levels.ensures.written
