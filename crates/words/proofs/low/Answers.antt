-- `words::low` meets its contract: the mask keeps the k low bits; of 64 or more there is nothing to mask.
use mathlib.Core.Path.{sym}
use native.Mathlib.Nat.{mod-eq_of_lt, lt_of_lt_of_le}
use lib.Pow.{pow_mono}
use Rattle.meaning.proofs.Mask.{mask_low}
use Rattle.words.proofs.low.Goals as goal

pub returns-then-k-lt64 : goal.returns-then-k-lt64
returns-then-k-lt64 c = mask_low 64 c.args.x c.args.k c.if-k-lt64.true

pub returns-else-k-lt64 : goal.returns-else-k-lt64
returns-else-k-lt64 c = sym (mod-eq_of_lt (lt_of_lt_of_le c.ranges.x.fits (pow_mono {i = 64} c.if-k-lt64.false)))
