-- Any two outcomes that a contract allows agree: the answer, and the slices that are written.
use mathlib.Core.Path.{◌≡◌, sym, ap, ◌∙◌}
use mathlib.Core.List.{List}
use Prim.Native.Nat.{ℕ}
use Rattle.std.specs.Prelude.{Option, Result}
use Rattle.meaning.specs.Listing.{Reading, reading}
use Rattle.refusal.specs.Said.{found_number}
use Rattle.refusal.specs.declared.Refusal.{Refusal}
use Rattle.refusal.proofs.Agree.{same_found_number}
use Rattle.listing.specs.Said.{Puts}

-- the reader
pub reads_agree : (x : Reading) (r q : Result (Option ℕ) Refusal) (vs us bs cs : List ℕ) → reading (found_number r) vs bs ≡ x
    → reading (found_number q) us cs ≡ x → (r ≡ q) × (vs ≡ us) × (bs ≡ cs)
reads_agree x r q vs us bs cs e f =
    let g : reading (found_number r) vs bs ≡ reading (found_number q) us cs = e ∙ sym f in (
      same_found_number r q (ap (λ (y : Reading). y.reply) g),
      ap (λ (y : Reading). y.levels) g,
      ap (λ (y : Reading). y.labels) g,
    )

-- the writers
pub puts_agree : (s : List ℕ) (a : ℕ) (bs : List ℕ) (r q : Option ℕ) (t u : List ℕ) → Puts s a bs r t → Puts s a bs q u → (r ≡ q) × (t ≡ u)
puts_agree s a bs r q t u e f = (e.answer ∙ sym f.answer, e.bytes ∙ sym f.bytes)
