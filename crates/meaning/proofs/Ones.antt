-- How many ones: laws of counting over places, and over the bits of a number.
use mathlib.Core.Path.{◌≡◌, refl, sym, ap, ap₂, ◌∙◌}
use Prim.Native.Nat.{ℕ, zero, suc, ◌+◌, ◌-◌, ◌/◌, ◌%◌, ◌^◌, ◌≤◌, ◌<◌, zero-le}
use native.Mathlib.Nat.{add_assoc, add-suc, add-zero, div-eq_of_lt, mod-lt}
use native.Mathlib.Omega.{arith}
use lib.Pow.{pow_pos, shr-shr}
use Rattle.meaning.specs.Bits.{bit}
use Rattle.meaning.specs.Count.{count}
use Rattle.meaning.proofs.Bit.{bit_low, bit_lt, bit_not, bit_of_zero}

-- two functions that agree below n have one count there
pub count_same : (f g : ℕ → ℕ) (n : ℕ) → ((i : ℕ) → i < n → f i ≡ g i) → count f n ≡ count g n
unfolding count
count_same f g zero h = refl
count_same f g (suc n) h = ap₂ (λ (a b : ℕ). a + b) (count_same f g n (λ i l. h i (omega arith))) (h n (omega arith))

-- the places below a, and the b places from a on
pub count_add : (f : ℕ → ℕ) (a b : ℕ) → count f (a + b) ≡ count f a + count (λ j. f (a + j)) b
unfolding count
count_add f a zero = ap (count f) (add-zero a) ∙ sym (add-zero (count f a))
count_add f a (suc b) =
    ap (count f) (add-suc a b) ∙ ap (λ (n : ℕ). n + f (a + b)) (count_add f a b)
    ∙ add_assoc (count f a) (count (λ j. f (a + j)) b) (f (a + b))

-- at most one for each place
pub count_le : (f : ℕ → ℕ) (n : ℕ) → ((i : ℕ) → f i < 2) → count f n ≤ n
unfolding count
count_le f zero h = zero-le
count_le f (suc n) h = omega (arith, count_le f n h, h n)

-- one for each place
pub count_ones : (f : ℕ → ℕ) (n : ℕ) → ((i : ℕ) → i < n → f i ≡ 1) → count f n ≡ n
unfolding count
count_ones f zero h = refl
count_ones f (suc n) h = omega (arith, count_ones f n (λ i l. h i (omega arith)), h n (omega arith))

-- shifting moves the places
pub bits_add : (x a b : ℕ) → count (bit x) (a + b) ≡ count (bit x) a + count (bit (x / 2 ^ a)) b
bits_add x a b =
    count_add (bit x) a b
    ∙ ap (λ (n : ℕ). count (bit x) a + n) (count_same (λ j. bit x (a + j)) (bit (x / 2 ^ a)) b (λ j l. ap (λ (n : ℕ). n % 2) (sym (shr-shr x a j))))

pub bits_le : (x n : ℕ) → count (bit x) n ≤ n
bits_le x n = count_le (bit x) n (bit_lt x)

pub count_zero : (n : ℕ) → count (bit 0) n ≡ 0
unfolding count
count_zero zero = refl
count_zero (suc n) = omega (arith, count_zero n, bit_of_zero 0 n refl)

-- a number of n bits has no others
pub count_above : (y n w : ℕ) → y < 2 ^ n → n ≤ w → count (bit y) w ≡ count (bit y) n
count_above y n w l h =
    let e : w ≡ n + (w - n) = omega arith in
    ap (count (bit y)) e ∙ bits_add y n (w - n)
    ∙ omega (arith, ap (λ (m : ℕ). count (bit m) (w - n)) (div-eq_of_lt l), count_zero (w - n))

-- the ones of the n low bits
pub low_count : (x n w : ℕ) → n ≤ w → count (bit (x % 2 ^ n)) w ≡ count (bit x) n
low_count x n w h = count_above (x % 2 ^ n) n w (mod-lt x (pow_pos n)) h ∙ count_same (bit (x % 2 ^ n)) (bit x) n (bit_low x n)

-- the zeros and the ones are all
count_other : (f g : ℕ → ℕ) (n : ℕ) → ((i : ℕ) → i < n → g i ≡ 1 - f i) → ((i : ℕ) → f i < 2) → count g n + count f n ≡ n
unfolding count
count_other f g zero e h = refl
count_other f g (suc n) e h = omega (arith, count_other f g n (λ i l. e i (omega arith)) h, e n (omega arith), h n)

pub count_not : (w x : ℕ) → x < 2 ^ w → count (bit (2 ^ w - 1 - x)) w + count (bit x) w ≡ w
count_not w x h = count_other (bit x) (bit (2 ^ w - 1 - x)) w (λ i l. bit_not w x i h l) (bit_lt x)
