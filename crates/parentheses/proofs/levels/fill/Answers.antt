-- `fill`: zeros first, then the levels.
use Rattle.parentheses.proofs.Outcomes.{fill_writing, fill_written}
use Rattle.parentheses.proofs.levels.fill.Goals as goal

pub layout-requires : goal.layout-requires
layout-requires c = c.requires.holds.stands.few

pub write_levels-requires : goal.write_levels-requires
write_levels-requires c =
    fill_writing _ _ _ _ _ _ c.requires _ _ _ _ (c.fill.ensures.after (λ y e. e)) (c.fill-2.ensures.after (λ y e. e)) (c.fill-3.ensures.after (λ y e. e)) (c.fill-4.ensures.after (λ y e. e)) _ c.empty.ensures _ c.layout.ensures

pub returns-clause-filled : goal.returns-clause-filled
returns-clause-filled c =
    fill_written _ _ _ _ _ _ c.requires _ _ _ _ (c.fill.ensures.after (λ y e. e)) (c.fill-2.ensures.after (λ y e. e)) (c.fill-3.ensures.after (λ y e. e)) (c.fill-4.ensures.after (λ y e. e)) _ c.empty.ensures _ c.layout.ensures _ _ _ _ _ c.write_levels.ensures.written
