-- `words::store` meets its contract.
use mathlib.Core.Path.{sym, ap}
use Prim.Native.Nat.{ℕ, ◌/◌}
use lib.ListN.{set}
use lib.Seq.{set_out}
use Rattle.meaning.specs.Bits.{stored}
use Rattle.words.proofs.store.Goals as goal

pub returns-then-q-words : goal.returns-then-q-words
unfolding stored
returns-then-q-words c = let a = c.args in ap (λ (v : ℕ). set a.words.now (a.i / 64) v) c.with_bit.ensures

pub returns-else-q-words : goal.returns-else-q-words
unfolding stored
returns-else-q-words c = let a = c.args in sym (set_out a.words.now (a.i / 64) _ c.if-q-words.false)
