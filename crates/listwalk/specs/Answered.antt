-- What the program leaves in a buffer for an input, and how many of its bytes are the answer.
use Rattle.std.specs.Prelude.{◌≡◌, true, false, List, ℕ, ◌≤◌, leb, length, take}
use Rattle.std.proofs.lemmas.List.Edits.{sets}
use Rattle.io.specs.Counts.{IsPrefixLen}
use Rattle.meaning.specs.Listing.{listwalk_of}

-- k bytes in m: all of them or none
unfoldable pub all_or_none : ℕ → ℕ → ℕ
all_or_none k m = elim (leb k m) [ true ↦ k | false ↦ 0 ]

-- the answer to the input s stands at the start of a buffer, as far as there is room, and nothing else in it is changed; n is its
-- length, or 0 where it does not fit. A buffer of 53,828 bytes has room for every answer.
pub record Answered (s before : List ℕ) (n : ℕ) (after : List ℕ) : Type 0 where
  pub counts : IsPrefixLen n after
  pub number : n ≡ all_or_none (length (listwalk_of s)) (length before)
  pub bytes : after ≡ sets before 0 (listwalk_of s)
  pub text : 53828 ≤ length before → take n after ≡ listwalk_of s
