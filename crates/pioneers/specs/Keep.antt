-- The flagged bits, one after the other.
use Rattle.std.specs.Prelude.{true, false, List, ◌++◌, ℕ, ◌+◌, ◌*◌, ◌-◌, length, take, replicate}
use Rattle.meaning.specs.Bits.{bit_at, stored, pack}
use Rattle.meaning.specs.Pioneers.{keep}
use Rattle.pioneers.specs.Pick.{pick}
use Rattle.pioneers.specs.Scratch.{text_of, flags_of, fits_in}
use Rattle.pioneers.specs.declared.flags.Layout.{Layout}

-- where the next bit goes, and scratch
pub record Keeping : Type 0 where
  pub at : ℕ
  pub scr : List ℕ

abbrev pub keeping : ℕ → List ℕ → Keeping
keeping a w = record { at = a; scr = w }

-- what place i leaves
unfoldable pub keep_turn : List ℕ → Layout → ℕ → ℕ → Keeping
keep_turn scr lay i at =
    pick (bit_at scr (64 * lay.flags + i)) (keeping (at + 1) (stored scr (64 * lay.text + at) (bit_at scr (64 * lay.text + i)))) (keeping at scr)

-- the kept bits in the place of the string, and zeros behind them
unfoldable pub trimmed : List ℕ → Layout → Keeping
trimmed scr lay =
    keeping (length (keep (flags_of scr lay) (text_of scr lay)))
    (take lay.text scr ++ pack (length scr - lay.text) (keep (flags_of scr lay) (text_of scr lay)))

-- if the parts fit
unfoldable pub compact_in : List ℕ → Layout → Keeping
compact_in scr lay = elim (fits_in lay (length scr)) [ true ↦ trimmed scr lay | false ↦ keeping 0 (replicate (length scr) 0) ]
