-- How many elements lie at the front of an area.
use Rattle.std.specs.Prelude.{◌≡◌, ℕ, ◌≤◌, List, length, take}

-- `&xs[..n]` is in bounds and has n elements. The second part follows from the first, and spares a caller's `&area[..n]` a proof file.
abbrev pub IsFrontLen : {A : Type 0} → ℕ → List A → Type 0
IsFrontLen n xs = (n ≤ length xs) × (n ≡ length (take n xs))
