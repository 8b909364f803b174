-- The steps of reading a text: one law for each way out of a function.
use mathlib.Core.Bool.{Bool, true, false}
use mathlib.Core.Path.{◌≡◌, refl, sym, ap, ◌∙◌}
use mathlib.Core.Option.{Option, none, some}
use mathlib.Core.List.{List, [], ◌∷◌}
use Prim.Native.Nat.{ℕ, ◌+◌, ◌-◌, ◌*◌, ◌<◌, ◌≤◌}
use native.Mathlib.Omega.{arith}
use borrow.Author.Tests.{lt-ltb, le-ltb, le-leb, leb-true}
use lib.Dec.{ltb, leb}
use lib.ListN.{length}
use Rattle.meaning.specs.Close.{and_then, test}
use Rattle.meaning.specs.Listing.{wide, Field, got, Row, got_row, scan, field, row, with_digit, digit}
use Rattle.meaning.proofs.ReadLine.{then_some, then_none, scan_stop, scan_digit, field_cons}
use Rattle.std.specs.Prelude as rust
use Rattle.std.specs.Prelude.{None, Some}
use Rattle.std.specs.Borrow.{Bor}
use Rattle.std.specs.Char.{digit_value}
use Rattle.std.specs.Option.{SomeIff}
use Rattle.std.proofs.lemmas.Str.{digit_value_digit}
use Rattle.std.proofs.lemmas.Str.Parse.{digit_from_value}
use Rattle.refusal.specs.Said.{option_of}
use Rattle.listing.specs.Said.{field_of, row_of}
use Rattle.listing.specs.declared.Line.{Line}

-- a scan's step, by the first byte
module _ (stop v b : ℕ) (s t : List ℕ) (c : s ≡ b ∷ t) where
  pub scan_done : b ≡ stop → got v t ≡ scan stop v s
  scan_done e = sym (ap (scan stop v) c ∙ scan_stop stop v b t e)

  -- by what `with_digit` answered
  module _ (d : rust.Option ℕ) (n : b ≡ stop → ⊥) (e : option_of d ≡ with_digit v b) where
    scan_here : scan stop v s ≡ and_then (with_digit v b) (λ x. scan stop x t)
    scan_here = ap (scan stop v) c ∙ scan_digit stop v b t n

    pub scan_bad : {r : rust.Option (ℕ × Bor (List ℕ))} → d ≡ None → r ≡ None → field_of r ≡ scan stop v s
    scan_bad g h = ap field_of h ∙ sym (scan_here ∙ then_none (λ x. scan stop x t) (sym e ∙ ap option_of g))

    pub scan_on : (w : ℕ) (x : Option Field) → d ≡ Some w → x ≡ scan stop w t → x ≡ scan stop v s
    scan_on w x g h = h ∙ sym (scan_here ∙ then_some (λ x. scan stop x t) w (sym e ∙ ap option_of g))

pub scan_end : (stop v : ℕ) (s : List ℕ) {r : rust.Option (ℕ × Bor (List ℕ))} → length s ≡ 0 → r ≡ None → field_of r ≡ scan stop v s
unfolding scan
scan_end stop v [] l h = ap field_of h
scan_end stop v (b ∷ t) l h = absurd (omega arith)

pub field_end : (stop : ℕ) (s : List ℕ) {r : rust.Option (ℕ × Bor (List ℕ))} → length s ≡ 0 → r ≡ None → field_of r ≡ field stop s
unfolding field
field_end stop [] l h = ap field_of h
field_end stop (b ∷ t) l h = absurd (omega arith)

-- by what `digit_of` answered
module _ (stop b : ℕ) (s t : List ℕ) (c : s ≡ b ∷ t) (d : rust.Option ℕ) (e : option_of d ≡ digit b) where
  field_here : field stop s ≡ and_then (digit b) (λ v. scan stop v t)
  field_here = ap (field stop) c ∙ field_cons stop b t

  pub field_bad : {r : rust.Option (ℕ × Bor (List ℕ))} → d ≡ None → r ≡ None → field_of r ≡ field stop s
  field_bad g h = ap field_of h ∙ sym (field_here ∙ then_none (λ v. scan stop v t) (sym e ∙ ap option_of g))

  pub field_on : (v : ℕ) (x : Option Field) → d ≡ Some v → x ≡ scan stop v t → x ≡ field stop s
  field_on v x g h = h ∙ sym (field_here ∙ then_some (λ v. scan stop v t) v (sym e ∙ ap option_of g))

-- a line is a level's field and a label's, by what `number` answered
label_step : Field → Option Row
label_step f = and_then (field 10 f.rest) (λ g. got_row f.value g.value g.rest)

module _ (s : List ℕ) (x : rust.Option (ℕ × Bor (List ℕ))) (e : field_of x ≡ field 9 s) where
  pub row_none : {r : rust.Option Line} → x ≡ None → r ≡ None → row_of r ≡ row s
  unfolding row label_step
  row_none g h = ap row_of h ∙ sym (then_none label_step (sym e ∙ ap field_of g))

  module _ (f : ℕ × Bor (List ℕ)) (g : x ≡ Some f) (y : rust.Option (ℕ × Bor (List ℕ))) (h : field_of y ≡ field 10 f.1.now) where
    level_read : row s ≡ and_then (field 10 f.1.now) (λ g. got_row f.0 g.value g.rest)
    unfolding row label_step
    level_read = then_some label_step (record { value = f.0; rest = f.1.now }) (sym e ∙ ap field_of g)

    pub row_half : {r : rust.Option Line} → y ≡ None → r ≡ None → row_of r ≡ row s
    row_half k q = ap row_of q ∙ sym (level_read ∙ then_none (λ g. got_row f.0 g.value g.rest) (sym h ∙ ap field_of k))

    pub row_got : (q : ℕ × Bor (List ℕ)) → y ≡ Some q → got_row f.0 q.0 q.1.now ≡ row s
    row_got q k =
        sym (level_read ∙ then_some (λ g. got_row f.0 g.value g.rest) (record { value = q.0; rest = q.1.now }) (sym h ∙ ap field_of k))

-- a digit, as `to_digit` answers
module _ (b : ℕ) where
  no_digit : (digit_value b < 10 → ⊥) → (x y : Bool) → leb 48 b ≡ x → leb b 57 ≡ y → none ≡ test x (test y (some (b - 48)))
  unfolding test
  no_digit n true true p q =
      let v = digit_value_digit b (leb-true 48 b p, leb-true b 57 q) in
      let h = leb-true b 57 q in
      absurd (n (omega arith))
  no_digit n true false p q = refl
  no_digit n false y p q = refl

  pub digit_said : (r : rust.Option ℕ) → SomeIff r (digit_value b < 10) (digit_value b) → option_of r ≡ digit b
  unfolding digit test
  digit_said None n = no_digit n (leb 48 b) (leb b 57) refl refl
  digit_said (Some x) (l, e) =
      let h = digit_from_value b l in
      let v = digit_value_digit b h in
      let u : x ≡ b - 48 = omega arith in
      simp (le-leb 48 b h.0, le-leb b 57 h.1) (ap some u)

-- a digit after a value
module _ (v b : ℕ) where
  pub with_zero : v ≡ 0 → none ≡ with_digit v b
  unfolding with_digit test
  with_zero e = simp (le-ltb 0 v (omega arith))

  with_digit_lem : (v ≡ 0 → ⊥) → with_digit v b ≡ and_then (digit b) (λ d. test (ltb (10 * v + d) wide) (some (10 * v + d)))
  unfolding with_digit test
  with_digit_lem n = simp (lt-ltb 0 v (omega (arith, n)))

  digit_none : (t : Bool) → digit b ≡ none → none ≡ test t (and_then (digit b) (λ d. test (ltb (10 * v + d) wide) (some (10 * v + d))))
  unfolding test
  digit_none true h = sym (then_none (λ d. test (ltb (10 * v + d) wide) (some (10 * v + d))) h)
  digit_none false h = refl

  -- by what `digit_of` answered
  pub with_none : (d : rust.Option ℕ) → option_of d ≡ digit b → {r : rust.Option ℕ} → d ≡ None → r ≡ None → option_of r ≡ with_digit v b
  unfolding with_digit
  with_none d e f g = ap option_of g ∙ digit_none (ltb 0 v) (sym e ∙ ap option_of f)

  module _ (d : rust.Option ℕ) (n : v ≡ 0 → ⊥) (e : option_of d ≡ digit b) where
    module _ (x : ℕ) (f : d ≡ Some x) where
      with_read : with_digit v b ≡ test (ltb (10 * v + x) wide) (some (10 * v + x))
      with_read = with_digit_lem n ∙ then_some (λ d. test (ltb (10 * v + d) wide) (some (10 * v + d))) x (sym e ∙ ap option_of f)

      over : wide ≤ 10 * v + x → none ≡ with_digit v b
      unfolding test
      over h = sym (with_read ∙ simp (le-ltb (10 * v + x) wide h))

      -- by what `checked_mul` and `checked_add` answered
      pub with_large : {r : rust.Option ℕ} → (v * 10 < wide → ⊥) → r ≡ None → option_of r ≡ with_digit v b
      with_large h g = ap option_of g ∙ over (omega (arith, h))

      pub with_sum : (y : ℕ) (r : rust.Option ℕ) → y ≡ v * 10 → SomeIff r (y + x < wide) (y + x) → option_of r ≡ with_digit v b
      unfolding test
      with_sum y None h g = over (omega (arith, g))
      with_sum y (Some z) h (l, u) =
          let w : 10 * v + x < wide = omega arith in
          let t : z ≡ 10 * v + x = omega arith in
          ap some t ∙ sym (with_read ∙ simp (lt-ltb (10 * v + x) wide w))
