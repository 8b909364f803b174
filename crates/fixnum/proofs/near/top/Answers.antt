-- `near::top` meets its contract: smeared downwards, the word lacks the ones above its highest place, and they are counted.
use mathlib.Core.Path.{◌≡◌, subst}
use Prim.Native.Nat.{ℕ, ◌+◌, ◌-◌, ◌/◌, ◌^◌, ◌<◌}
use native.Mathlib.Omega.{arith}
use lib.Bits.{bit_or}
use lib.Dec.{lit≤}
use Rattle.meaning.specs.Bits.{bit}
use Rattle.meaning.specs.Count.{count}
use Rattle.meaning.proofs.Word.{ones_word}
use Rattle.fixnum.specs.Extremes.{TopIs}
use Rattle.fixnum.proofs.Smear.{top_of, smeared_one, smear, zeros_left}
use Rattle.fixnum.proofs.near.top.Goals as goal

abbrev smeared : ℕ → ℕ → ℕ
smeared s v = bit_or v (v / 2 ^ s)

abbrev all : ℕ → ℕ
all y = smeared 32 (smeared 16 (smeared 8 (smeared 4 (smeared 2 (smeared 1 y)))))

place : (y : ℕ) → 0 < y → y < 2 ^ 64 → (r : ℕ) × TopIs y r × (count (bit (2 ^ 64 - 1 - all y)) 64 + (r + 1) ≡ 64)
place y p h = let t = top_of 64 y p h in (t.0, t.1, zeros_left 64 t.2 (lit≤ tt) (smear (smear (smear (smear (smear (smear (smeared_one t.1))))))))

pub overflow_sub-result : goal.overflow_sub-result
overflow_sub-result c =
    let y = c.args.y in
    let t = place y c.requires c.ranges.y.fits in
    omega (arith, c.pop_count.ensures, ones_word 64 (2 ^ 64 - 1 - all y), t.2)

pub overflow_sub-result-2 : goal.overflow_sub-result-2
overflow_sub-result-2 c =
    let y = c.args.y in
    let t = place y c.requires c.ranges.y.fits in
    omega (arith, c.pop_count.ensures, ones_word 64 (2 ^ 64 - 1 - all y), t.2)

pub returns : goal.returns
returns c =
    let y = c.args.y in
    let t = place y c.requires c.ranges.y.fits in
    let e : t.0 ≡ 64 - c.pop_count.result - 1 = omega (arith, c.pop_count.ensures, ones_word 64 (2 ^ 64 - 1 - all y), t.2) in
    subst (TopIs y) e t.1
