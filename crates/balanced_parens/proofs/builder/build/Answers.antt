-- `build`: each way out by its law.
use Rattle.balanced_parens.proofs.Builds.{build_lengths, build_ready, build_whole}
use borrow.Author.Rules.{rules}
use Rattle.balanced_parens.proofs.builder.build.Goals as goal

pub returns-then-levels-labels : goal.returns-then-levels-labels
returns-then-levels-labels c = build_lengths _ _ _ _ _ _ _ _ _ _ _ _ _ c.zero_areas.ensures c.if-levels-labels.true _ (c.fill.ensures.after (λ y e. e))

pub build_list-requires : goal.build_list-requires
build_list-requires c = build_ready c.args.levels.now c.args.labels.now c.args.words.now c.args.bytes.now c.args.middles.now c.args.larges.now c.args.label_area.now c.args.scratch.now _ _ _ _ _ c.zero_areas.ensures c.if-levels-labels.false

pub returns : goal.returns
returns c = build_whole _ _ _ _ _ _ _ _ _ _ _ _ _ c.zero_areas.ensures _ _ _ c.build_list.ensures.built (search rules)
