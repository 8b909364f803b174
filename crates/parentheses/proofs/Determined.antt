-- Any two outcomes that the contract of a public function allows agree: the answer with its counts, scratch and areas 0 to 3.
use mathlib.Core.Path.{sym, ap, ◌∙◌}
use mathlib.Core.List.{List}
use Prim.Native.Nat.{ℕ}
use Rattle.meaning.specs.Determined.{Determined}
use Rattle.record.proofs.Agree.{replies_agree}
use Rattle.parentheses.specs.Raises.{Raising}
use Rattle.parentheses.proofs.levels.raise.Reads as raise
use Rattle.parentheses.proofs.levels.raise.Kinds as raise_kinds

pub raise_determined : Determined _ raise_kinds.ps raise_kinds.r raise.Asked raise.Learnt
    (List ℕ × List ℕ × List ℕ × List ℕ × List ℕ) (λ κs e. (
      e.0.now,
      e.1.1.0.now,
      e.1.1.1.0.now,
      e.1.1.1.1.0.now,
      e.1.1.1.1.1.0.now,
    ))
raise_determined =
    record {
      asks_nothing = λ κs a. tt;
      agree = λ κs a z z' e e' p q.
          let g = p.outcome ∙ sym q.outcome in (
            replies_agree z z' p.sized q.sized (ap (λ (x : Raising). x.reply) g),
            ap (λ (x : Raising). (x.scr, x.held.words, x.held.bytes, x.held.middle, x.held.large)) g,
          );
    }
