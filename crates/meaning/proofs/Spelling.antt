-- The decimal text of a number, digit by digit, and how long it is.
use mathlib.Core.Path.{◌≡◌, refl, sym, ap, ◌∙◌}
use mathlib.Core.Bool.{Bool, true, false}
use mathlib.Core.List.{[], ◌∷◌, ◌++◌}
use Prim.Native.Nat.{ℕ, zero, suc, ◌+◌, ◌/◌, ◌%◌, ◌^◌, ◌<◌, ◌≤◌}
use native.Mathlib.Nat.{pow-suc}
use native.Mathlib.Omega.{arith}
use borrow.Author.Tests.{ltb-true, ltb-false, lt-ltb, le-ltb}
use lib.Dec.{ltb}
use lib.ListN.{length, length-append}
use Rattle.meaning.specs.Listing.{decimal, digits}
use Rattle.meaning.proofs.If.{if_true, if_false}

pub decimal_small : (k n : ℕ) → n < 10 → decimal (suc k) n ≡ (48 + n) ∷ []
unfolding decimal
decimal_small k n l = if_true _ _ (lt-ltb n 10 l)

pub decimal_large : (k n : ℕ) → 10 ≤ n → decimal (suc k) n ≡ decimal k (n / 10) ++ (48 + n % 10) ∷ []
unfolding decimal
decimal_large k n l = if_false _ _ (le-ltb n 10 l)

-- one place more than are needed says the same
decimal_more : (k n : ℕ) → n < 10 ^ suc k → decimal (suc k) n ≡ decimal (suc (suc k)) n
decimal_more zero n l = decimal_small 0 n l ∙ sym (decimal_small 1 n l)
decimal_more (suc k) n l = go (ltb n 10) refl (decimal_more k (n / 10) (omega (arith, pow-suc 10 (suc k))))
  where
    go : (b : Bool) → ltb n 10 ≡ b → decimal (suc k) (n / 10) ≡ decimal (suc (suc k)) (n / 10) → decimal (suc (suc k)) n ≡ decimal (suc (suc (suc k))) n
    go true e h = decimal_small (suc k) n (ltb-true n 10 e) ∙ sym (decimal_small (suc (suc k)) n (ltb-true n 10 e))
    go false e h =
        decimal_large (suc k) n (ltb-false n 10 e)
        ∙ ap (λ t. t ++ (48 + n % 10) ∷ []) h
        ∙ sym (decimal_large (suc (suc k)) n (ltb-false n 10 e))

pub digits_small : (n : ℕ) → n < 10 → digits n ≡ (48 + n) ∷ []
unfolding digits
digits_small n l = decimal_small 19 n l

pub digits_large : (n : ℕ) → 10 ≤ n → n < 18446744073709551616 → digits n ≡ digits (n / 10) ++ (48 + n % 10) ∷ []
unfolding digits
digits_large n l h =
    let u : n / 10 < 10 ^ 19 = omega arith in
    decimal_large 19 n l ∙ ap (λ t. t ++ (48 + n % 10) ∷ []) (decimal_more 18 (n / 10) u)

-- at most as many digits as places
decimal_places : (k n : ℕ) → length (decimal k n) ≤ k
unfolding decimal
decimal_places zero n = omega arith
decimal_places (suc k) n = go (ltb n 10) refl (decimal_places k (n / 10))
  where
    go : (b : Bool) → ltb n 10 ≡ b → length (decimal k (n / 10)) ≤ k → length (decimal (suc k) n) ≤ suc k
    go true e h = omega (arith, ap length (decimal_small k n (ltb-true n 10 e)))
    go false e h =
        omega (arith, ap length (decimal_large k n (ltb-false n 10 e)), length-append (decimal k (n / 10)) ((48 + n % 10) ∷ []))

pub digits_few : (n : ℕ) → length (digits n) ≤ 20
unfolding digits
digits_few n = decimal_places 20 n

-- a number below ten to the j has at most j digits
pub decimal_size : (k j n : ℕ) → n < 10 ^ suc j → length (decimal k n) ≤ suc j
unfolding decimal
decimal_size zero j n l = omega arith
decimal_size (suc k) zero n l = omega (arith, ap length (decimal_small k n l))
decimal_size (suc k) (suc j) n l = go (ltb n 10) refl (decimal_size k j (n / 10) (omega (arith, pow-suc 10 (suc j))))
  where
    go : (b : Bool) → ltb n 10 ≡ b → length (decimal k (n / 10)) ≤ suc j → length (decimal (suc k) n) ≤ suc (suc j)
    go true e h = omega (arith, ap length (decimal_small k n (ltb-true n 10 e)))
    go false e h =
        omega (arith, ap length (decimal_large k n (ltb-false n 10 e)), length-append (decimal k (n / 10)) ((48 + n % 10) ∷ []))
