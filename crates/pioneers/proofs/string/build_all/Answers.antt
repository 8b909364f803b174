-- `build_all` meets its contract: a turn of the builder puts a node, or the list is at its end.
use Rattle.std.proofs.Common.{length, Bool, not, sym, subst, ◌∙◌}
use lib.Dec.{T}
use Rattle.pioneers.proofs.Builds.{stands_first, stands_allows, stands_on, stands_end}
use Rattle.pioneers.proofs.string.build_all.Goals as goal

pub loop-builder-init : goal.loop-builder-init
loop-builder-init c = stands_first c.args.levels.now c.args.words.now c.requires

pub build_once-requires : goal.build_once-requires
build_once-requires c = stands_allows c.args.levels.now (length c.args.words.now) c.loop-builder.builder c.loop-builder.words c.loop-builder.invariant

pub loop-builder-smaller : goal.loop-builder-smaller
loop-builder-smaller c =
    let t = subst T (sym c.loop-builder-test.true ∙ c.build_once.ensures.0) tt in
    rw c.build_once.ensures.1 (stands_on c.args.levels.now (length c.args.words.now) c.loop-builder.builder c.loop-builder.words c.loop-builder.invariant t).1

pub loop-builder-preserved : goal.loop-builder-preserved
loop-builder-preserved c =
    let t = subst T (sym c.loop-builder-test.true ∙ c.build_once.ensures.0) tt in
    rw (c.build_once.ensures.1, c.build_once.ensures.2) (stands_on c.args.levels.now (length c.args.words.now) c.loop-builder.builder c.loop-builder.words c.loop-builder.invariant t).0

pub returns : goal.returns
returns c =
    let t = subst (λ (b : Bool). T (not b)) (sym c.loop-builder-test.false ∙ c.build_once.ensures.0) tt in
    c.build_once.ensures.2 ∙ stands_end c.args.levels.now (length c.args.words.now) c.loop-builder.builder c.loop-builder.words c.loop-builder.invariant t
