-- Counting over places: f gives the 0 or 1 of each place.
use Rattle.std.specs.Prelude.{ℕ, zero, suc, ◌+◌}

-- f 0 + .. + f (n - 1): how many of the places below n have a 1
unfoldable pub count : (ℕ → ℕ) → ℕ → ℕ
count f zero = zero
count f (suc n) = count f n + f n
