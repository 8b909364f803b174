-- The parts of scratch: the stack of open places, the string's words, and its flags' words.
use Rattle.std.specs.Prelude.{◌≡◌, Bool, true, false, ◌&&◌, List, ◌++◌, ℕ, ◌-◌, ◌*◌, leb, length, drop, replicate}
use Rattle.std.proofs.Math.Seq.{slice}
use Rattle.meaning.specs.Bits.{bits_of, pack}
use Rattle.meaning.specs.Pioneers.{flags}
use Rattle.meaning.specs.Growth.{one_root}
use Rattle.pioneers.specs.declared.flags.Layout.{Layout}

-- the string that scratch holds
unfoldable pub text_of : List ℕ → Layout → List Bool
text_of scr lay = bits_of (drop lay.text scr) lay.bits

-- and the flags
unfoldable pub flags_of : List ℕ → Layout → List Bool
flags_of scr lay = bits_of (drop lay.flags scr) lay.bits

-- the parts fit k words: the stack takes half the bits, and each of the two others the bits
unfoldable pub fits_in : Layout → ℕ → Bool
fits_in lay k =
    leb lay.text lay.flags
    && (leb lay.flags k
    && (leb lay.flags 33554432
    && (leb lay.bits (2 * lay.text)
    && (leb lay.bits (64 * (lay.flags - lay.text))
    && leb lay.bits (64 * (k - lay.flags))))))

-- scratch with the flags f beside its string, and zeros where the stack was
unfoldable pub with_flags : List ℕ → Layout → List Bool → List ℕ
with_flags scr lay f = replicate lay.text 0 ++ (slice lay.text lay.flags scr ++ pack (length scr - lay.flags) f)

-- an answer with scratch as it is left
pub record Marking : Type 0 where
  pub done : Bool
  pub scr : List ℕ

abbrev pub marking : Bool → List ℕ → Marking
marking b s = record { done = b; scr = s }

-- the flags of a string that is balanced under one root; any other leaves zeros
unfoldable pub mark_in : List ℕ → Layout → Marking
mark_in scr lay =
    elim (fits_in lay (length scr) && one_root (text_of scr lay)) [
      | true ↦ marking true (with_flags scr lay (flags (text_of scr lay)))
      | false ↦ marking false (replicate (length scr) 0)
    ]

-- what the pass starts from: such a string, and flags that are zero
pub record Bare (scr : List ℕ) (lay : Layout) : Type 0 where
  pub fits : fits_in lay (length scr) ≡ true
  pub root : one_root (text_of scr lay) ≡ true
  pub zeros : drop lay.flags scr ≡ replicate (length scr - lay.flags) 0
