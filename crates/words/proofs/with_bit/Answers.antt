-- `words::with_bit` meets its contract.
use Prim.Native.Nat.{◌%◌}
use native.Mathlib.Omega.{arith}
use Rattle.meaning.proofs.Mask.{set_one, set_zero}
use Rattle.words.proofs.with_bit.Goals as goal

pub returns-then-b : goal.returns-then-b
returns-then-b c = simp (c.if-b.true, set_one 64 c.args.x (c.args.i % 64) (omega arith))

pub returns-else-b : goal.returns-else-b
returns-else-b c = simp (c.if-b.false, set_zero 64 c.args.x (c.args.i % 64) (omega arith))
