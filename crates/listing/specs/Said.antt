-- What the crate's answers say, in the terms of the definitions.
use Rattle.std.specs.Prelude.{◌≡◌, Bool, true, false, List, [], ◌∷◌, map, ℕ, ◌+◌, leb, length, get_or}
use Rattle.std.specs.Prelude.{Option, None, Some}
use Rattle.std.specs.Borrow.{Bor}
use Rattle.std.proofs.Math.Option as maybe
use Rattle.std.proofs.lemmas.List.Edits.{sets}
use Rattle.meaning.specs.Answers.{Refusal}
use Rattle.meaning.specs.Listing.{digits, line, Field, got, Row, got_row}
use Rattle.refusal.specs.Said.{numbered}
use Rattle.listing.specs.declared.Line.{Line}
use Rattle.listing.specs.declared.Carried.{Carried}
use Rattle.listing.specs.declared.Carried.TheVariants.{One, Two}

-- a number, and the text after it
abbrev pub field_of : Option (ℕ × Bor (List ℕ)) → maybe.Option Field
field_of (Some f) = got f.0 f.1.now
field_of None = maybe.none

abbrev pub row_of : Option Line → maybe.Option Row
row_of (Some l) = got_row l.level l.label l.rest.now
row_of None = maybe.none

-- what a refusal carries
abbrev pub carries : Carried → List ℕ
carries (One x) = x ∷ []
carries (Two x y) = x ∷ y ∷ []

abbrev pub refusal_with : ℕ → Carried → Refusal
refusal_with n c = numbered n (carries c)

-- the part of a refusal's line after its number
abbrev pub carried_text : Carried → List ℕ
carried_text c = line (map digits (carries c))

-- the siblings' ids in a slice
abbrev pub ids_in : List ℕ → ℕ → ℕ
ids_in ns k = get_or ns k 0

-- k bytes from place a on, in m: the place after them
abbrev pub put_by : Bool → ℕ → Option ℕ
put_by true p = Some p
put_by false p = None

abbrev pub put_of : ℕ → ℕ → ℕ → Option ℕ
put_of m a k = put_by (leb (a + k) m) (a + k)

-- the bytes bs stand from place a on, as many as there is room for, and nothing else is changed; the answer says whether all of them do
pub record Puts (s : List ℕ) (a : ℕ) (bs : List ℕ) (r : Option ℕ) (t : List ℕ) : Type 0 where
  pub answer : r ≡ put_of (length s) a (length bs)
  pub bytes : t ≡ sets s a bs
