-- Two answers that say the same are the same: what a contract `said r ≡ ..` allows is one answer.
use mathlib.Core.Path.{◌≡◌, refl, sym, ap, ◌∙◌}
use mathlib.Core.Bool.{Bool, true, false}
use Prim.Native.Nat.{ℕ}
use native.Mathlib.Omega.{arith}
use Rattle.std.specs.Prelude.{eqb, get_or, Option, None, Some, Result, Ok, Err}
use Rattle.meaning.specs.Answers as answers
use Rattle.meaning.specs.Answers.{Answer, is, nothing, refused}
use Rattle.meaning.specs.Bits.{as_bit}
use Rattle.refusal.specs.Said.{refusal_of, said_by, found_by, only_found_by, option_of, said_number, said_truth, said_bit, found_number, found_bit, only_found}
use Rattle.refusal.specs.declared.Refusal.{Refusal}
use Rattle.refusal.specs.declared.Refusal.TheVariants.{Lengths, Many, Level, Room, Full, Deep, Place, Close, Broken, Text}

-- the refusal of a number, that carries x and y
named : ℕ → ℕ → ℕ → Refusal
named n x y =
    elim (eqb n 1) [
      | true ↦ Lengths
      | false ↦ elim (eqb n 2) [
        | true ↦ Many x
        | false ↦ elim (eqb n 3) [
          | true ↦ Level x
          | false ↦ elim (eqb n 4) [
            | true ↦ Room x
            | false ↦ elim (eqb n 5) [
              | true ↦ Full x y
              | false ↦ elim (eqb n 6) [
                | true ↦ Deep
                | false ↦ elim (eqb n 7) [
                  | true ↦ Place x
                  | false ↦ elim (eqb n 8) [ true ↦ Close x | false ↦ elim (eqb n 9) [ true ↦ Broken | false ↦ Text x ] ]
                ]
              ]
            ]
          ]
        ]
      ]
    ]

again : answers.Refusal → Refusal
again r = named r.number (get_or r.carries 0 0) (get_or r.carries 1 0)

back : (r : Refusal) → again (refusal_of r) ≡ r
unfolding again named
back Lengths = refl
back (Many n) = refl
back (Level k) = refl
back (Room a) = refl
back (Full l b) = refl
back Deep = refl
back (Place p) = refl
back (Close p) = refl
back Broken = refl
back (Text k) = refl

pub same_refusal : (r s : Refusal) → refusal_of r ≡ refusal_of s → r ≡ s
same_refusal r s e = sym (back r) ∙ ap again e ∙ back s

-- f tells its argument
abbrev pub Tells : {A B : Type 0} → (A → B) → Type 0
Tells {A} f = (x y : A) → f x ≡ f y → x ≡ y

value_same : {A B : Type 0} (f : A → B) → Tells f → (x y : A) → ◌≡◌ {A = Answer B} (is (f x)) (is (f y)) → x ≡ y
value_same f t x y e = let p : f x ≡ f y = cc in t x y p

refused_same : {B : Type 0} (r s : Refusal) → ◌≡◌ {A = Answer B} (refused (refusal_of r)) (refused (refusal_of s)) → r ≡ s
refused_same r s e = let p : refusal_of r ≡ refusal_of s = cc in same_refusal r s p

-- a value or a refusal
pub same_said : {A B : Type 0} (f : A → B) → Tells f → (r s : Result A Refusal) → said_by f r ≡ said_by f s → r ≡ s
same_said f t (Ok x) (Ok y) e = ap Ok (value_same f t x y e)
same_said f t (Ok x) (Err s) e = absurd cc
same_said f t (Err r) (Ok y) e = absurd cc
same_said f t (Err r) (Err s) e = ap Err (refused_same r s e)

-- a value, nothing, or a refusal
pub same_found : {A B : Type 0} (f : A → B) → Tells f → (r s : Result (Option A) Refusal) → found_by f r ≡ found_by f s → r ≡ s
same_found f t (Ok (Some x)) (Ok (Some y)) e = ap (λ z. Ok (Some z)) (value_same f t x y e)
same_found f t (Ok (Some x)) (Ok None) e = absurd cc
same_found f t (Ok (Some x)) (Err s) e = absurd cc
same_found f t (Ok None) (Ok (Some y)) e = absurd cc
same_found f t (Ok None) (Ok None) e = refl
same_found f t (Ok None) (Err s) e = absurd cc
same_found f t (Err r) (Ok (Some y)) e = absurd cc
same_found f t (Err r) (Ok None) e = absurd cc
same_found f t (Err r) (Err s) e = ap Err (refused_same r s e)

-- a value or nothing
pub same_only_found : {A B : Type 0} (f : A → B) → Tells f → (r s : Option A) → only_found_by f r ≡ only_found_by f s → r ≡ s
same_only_found f t (Some x) (Some y) e = ap Some (value_same f t x y e)
same_only_found f t (Some x) None e = absurd cc
same_only_found f t None (Some y) e = absurd cc
same_only_found f t None None e = refl

pub bit_tells : Tells as_bit
bit_tells true true e = refl
bit_tells true false e = absurd (omega arith)
bit_tells false true e = absurd (omega arith)
bit_tells false false e = refl

pub same_number : (r s : Result ℕ Refusal) → said_number r ≡ said_number s → r ≡ s
same_number r s e = same_said (λ n. n) (λ x y p. p) r s e

pub same_truth : (r s : Result Bool Refusal) → said_truth r ≡ said_truth s → r ≡ s
same_truth r s e = same_said (λ b. b) (λ x y p. p) r s e

pub same_bit : (r s : Result Bool Refusal) → said_bit r ≡ said_bit s → r ≡ s
same_bit r s e = same_said as_bit bit_tells r s e

pub same_found_number : (r s : Result (Option ℕ) Refusal) → found_number r ≡ found_number s → r ≡ s
same_found_number r s e = same_found (λ n. n) (λ x y p. p) r s e

pub same_found_bit : (r s : Result (Option Bool) Refusal) → found_bit r ≡ found_bit s → r ≡ s
same_found_bit r s e = same_found as_bit bit_tells r s e

pub same_only_found_number : (r s : Option ℕ) → only_found r ≡ only_found s → r ≡ s
same_only_found_number r s e = same_only_found (λ n. n) (λ x y p. p) r s e

pub same_option : {A : Type 0} (r s : Option A) → option_of r ≡ option_of s → r ≡ s
same_option (Some x) (Some y) e = cc
same_option (Some x) None e = absurd cc
same_option None (Some y) e = absurd cc
same_option None None e = refl
