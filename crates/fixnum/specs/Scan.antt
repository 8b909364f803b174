-- One turn of the scan for a close.
use Rattle.std.specs.Prelude.{◌≡◌, true, false, ℕ, suc, ◌≤◌, ◌<◌, eqb}
use Rattle.meaning.specs.Bits.{bit}

-- n opens wait before place j, the one that is asked for among them
pub record OneOpen (j n : ℕ) : Type 0 where
  pub inside : j < 64
  pub some : 1 ≤ n
  pub few : n ≤ j

-- an open waits too, and a close takes one
pub record Passed (x j n r : ℕ) : Type 0 where
  pub opened : eqb (bit x j) 1 ≡ true → r ≡ suc n
  pub shut : eqb (bit x j) 1 ≡ false → suc r ≡ n
