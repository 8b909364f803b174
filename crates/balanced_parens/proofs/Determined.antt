-- Any two outcomes that the contract of a public function allows agree: the answer with its counts, and all areas that are lent.
use mathlib.Core.Path.{◌≡◌, refl, sym, ap, ◌∙◌}
use mathlib.Core.List.{List}
use Prim.Native.Nat.{ℕ}
use Rattle.meaning.specs.Build.{Lent, After}
use Rattle.meaning.specs.Determined.{Determined}
use Rattle.balanced_parens.specs.Said.{said}
use Rattle.balanced_parens.specs.Areas.{after}
use Rattle.record.specs.Record.{SizedIn}
use Rattle.balanced_parens.specs.Demands.{Made}
use Rattle.balanced_parens.proofs.Agree.{outcomes_agree}
use Rattle.balanced_parens.proofs.builder.zero_areas.Reads as zero_areas
use Rattle.balanced_parens.proofs.builder.zero_areas.Kinds as zero_areas_kinds
use Rattle.balanced_parens.proofs.builder.build.Reads as build
use Rattle.balanced_parens.proofs.builder.build.Kinds as build_kinds
use Rattle.balanced_parens.proofs.growth.grow.Reads as grow
use Rattle.balanced_parens.proofs.growth.grow.Kinds as grow_kinds

-- zeros
pub zero_areas_determined : Determined _ zero_areas_kinds.ps zero_areas_kinds.r zero_areas.Asked zero_areas.Learnt
    (List ℕ × List ℕ × List ℕ × List ℕ × List ℕ) (λ κs e. (
      e.0.now,
      e.1.0.now,
      e.1.1.0.now,
      e.1.1.1.0.now,
      e.1.1.1.1.0.now,
    ))
zero_areas_determined =
    record {
      asks_nothing = λ κs a. tt;
      agree = λ κs a z z' e e' p q. (
        refl,
        λ i. (
          (p.words ∙ sym q.words) i,
          (p.bytes ∙ sym q.bytes) i,
          (p.middle ∙ sym q.middle) i,
          (p.large ∙ sym q.large) i,
          (p.labels ∙ sym q.labels) i,
        ),
      );
    }

-- the six areas
abbrev six : Lent → List ℕ × List ℕ × List ℕ × List ℕ × List ℕ × List ℕ
six a = (a.held.words, a.held.bytes, a.held.middle, a.held.large, a.labels, a.scratch)

six_agree : {x : After} {y y' : Lent} (r r' : Made) → SizedIn r → SizedIn r' → after (said r) y ≡ x → after (said r') y' ≡ x → (r ≡ r') × (six y ≡ six y')
six_agree {x} {y} {y'} r r' c c' e e' = let g = outcomes_agree y y' r r' x c c' e e' in (g.0, ap six g.1)

pub build_determined : Determined _ build_kinds.ps build_kinds.r build.Asked build.Learnt
    (List ℕ × List ℕ × List ℕ × List ℕ × List ℕ × List ℕ) (λ κs e. (
      e.1.1.0.now,
      e.1.1.1.0.now,
      e.1.1.1.1.0.now,
      e.1.1.1.1.1.0.now,
      e.1.1.1.1.1.1.0.now,
      e.1.1.1.1.1.1.1.0.now,
    ))
build_determined =
    record {
      asks_nothing = λ κs a. tt;
      agree = λ κs a z z' e e' p q. six_agree z z' p.sized q.sized p.outcome q.outcome;
    }

pub grow_determined : Determined _ grow_kinds.ps grow_kinds.r grow.Asked grow.Learnt
    (List ℕ × List ℕ × List ℕ × List ℕ × List ℕ × List ℕ) (λ κs e. (
      e.0.now,
      e.1.0.now,
      e.1.1.0.now,
      e.1.1.1.0.now,
      e.1.1.1.1.0.now,
      e.1.1.1.1.1.0.now,
    ))
grow_determined =
    record {
      asks_nothing = λ κs a. tt;
      agree = λ κs a z z' e e' p q. six_agree z z' p.sized q.sized p.outcome q.outcome;
    }
