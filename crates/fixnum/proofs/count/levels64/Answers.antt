-- `count::levels64` meets its contract: each sum holds its counts, since a mask bounds it, and the lowest seven bits of the last are the count.
use mathlib.Core.Path.{refl}
use Prim.Native.Nat.{ℕ, ◌+◌, ◌/◌, ◌^◌, ◌<◌}
use native.Mathlib.Nat.{lt_of_le_of_lt}
use lib.Dec.{lit<}
use Rattle.fixnum.proofs.Descent.{levels64}
use Rattle.fixnum.proofs.Fields.{evens, pairs, fours, eights_le, by_four, slide, masked, counted64}
use Rattle.fixnum.proofs.count.levels64.Goals as goal

abbrev m₁ : ℕ
m₁ = 0x5555_5555_5555_5555

abbrev m₂ : ℕ
m₂ = 0x3333_3333_3333_3333

-- the sum before the third mask
sum₃_fits : (x : ℕ) → fours m₂ (pairs m₁ x) + fours m₂ (pairs m₁ x) / 2 ^ 4 < 2 ^ 64
sum₃_fits x = lt_of_le_of_lt (eights_le m₂ (pairs m₁ x)) (lit< tt)

pub invariant_of-result : goal.invariant_of-result
unfolding evens
invariant_of-result c =
    let x = c.args.x in
    let h = by_four {e₁ = m₁} {e₂ = m₂} 16 x refl refl c.ranges.x.fits in
    let h₈ = masked {k = 4} {F = 8} 8 (sum₃_fits x) (slide 4 1 (lit< tt) h.1) in
    let h₁₆ = slide 8 1 (lit< tt) h₈ in
    let h₃₂ = slide 8 2 (lit< tt) h₁₆ in
    record { counted = levels64 h.0 h.1 h₈ h₁₆ h₃₂ c.ranges.x.fits (counted64 (slide 8 4 (lit< tt) h₃₂)) }
