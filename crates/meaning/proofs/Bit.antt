-- Laws of one bit of a number, lowest first, over any width.
use mathlib.Core.Path.{◌≡◌, refl, sym, ap, ap₂, ◌∙◌, subst}
use mathlib.Core.Bool.{Bool, true, false}
use Prim.Native.Nat.{ℕ, zero, suc, ◌+◌, ◌-◌, ◌*◌, ◌/◌, ◌%◌, ◌^◌, ◌≤◌, ◌<◌, max, suc-le-suc}
use native.Mathlib.Nat.{add_comm, add-mul, div-eq_of_lt, div-one, le_of_suc-le-suc, lt_of_lt_of_le, max-le, mod-lt, mul_assoc, not-suc-le-zero, two-pow-succ, zero-div, zero-lt-suc}
use native.Mathlib.Numerals.{one-add}
use native.Mathlib.Omega.{arith}
use lib.Arith.{digits_div, digits_mod, digits_lt, lt-one}
use lib.Bits.{bit_or, or_shr, or_step}
use lib.Dec.{eqb}
use lib.Pow.{pow_pos, pow_mono, pow-add, shr_lt, shr-shr, split, field, mod-mod-pow}
use Rattle.meaning.specs.Bits.{bit, as_bit, with_bit}

pub bit_lt : (x i : ℕ) → bit x i < 2
bit_lt x i = mod-lt (x / 2 ^ i) (zero-lt-suc 1)

pub as_lt : (b : Bool) → as_bit b < 2
as_lt true = omega arith
as_lt false = omega arith

-- a bit as a Bool, and back
pub as_eqb : (b : Bool) → eqb (as_bit b) 1 ≡ b
as_eqb true = refl
as_eqb false = refl

pub eqb_as : (x : ℕ) → x < 2 → as_bit (eqb x 1) ≡ x
eqb_as zero h = refl
eqb_as (suc zero) h = refl
eqb_as (suc (suc x)) h = absurd (omega arith)

pub bit_none : (i : ℕ) → bit 0 i ≡ 0
bit_none i = ap (λ (n : ℕ). n % 2) (zero-div (2 ^ i))

-- bit 0, and bit i + 1 as bit i of the half
pub bit_zero : (x : ℕ) → bit x 0 ≡ x % 2
bit_zero x = ap (λ (n : ℕ). n % 2) (div-one x)

pub bit_suc : (x i : ℕ) → bit x (suc i) ≡ bit (x / 2) i
bit_suc x i = ap (λ (n : ℕ). n % 2) (ap (λ (n : ℕ). x / 2 ^ n) (sym (one-add i)) ∙ sym (shr-shr x 1 i))

-- `x >> k`
pub bit_shr : (x k i : ℕ) → bit (x / 2 ^ k) i ≡ bit x (k + i)
bit_shr x k i = ap (λ (n : ℕ). n % 2) (shr-shr x k i)

-- the n low bits are kept, and a number of n bits has no others
pub bit_low : (x n i : ℕ) → i < n → bit (x % 2 ^ n) i ≡ bit x i
bit_low x n i h =
    let e : n ≡ (n - i - 1 + 1) + i = omega arith in
    ap (λ (m : ℕ). bit (x % 2 ^ m) i) e ∙ ap (λ (m : ℕ). m % 2) (field x (n - i - 1 + 1) i) ∙ mod-mod-pow (x / 2 ^ i) (n - i - 1) 1

pub bit_past : (y n m : ℕ) → y < 2 ^ n → n ≤ m → bit y m ≡ 0
bit_past y n m h l = ap (λ (k : ℕ). k % 2) (div-eq_of_lt (lt_of_lt_of_le h (pow_mono l)))

-- two numbers of n bits with the same bits are one
pub number_ext : (n x y : ℕ) → x < 2 ^ n → y < 2 ^ n → ((j : ℕ) → j < n → bit x j ≡ bit y j) → x ≡ y
number_ext zero x y p q h = lt-one p ∙ sym (lt-one q)
number_ext (suc n) x y p q h =
    omega (
      arith,
      number_ext n (x / 2) (y / 2) (omega (arith, two-pow-succ n)) (omega (arith, two-pow-succ n))
          (λ j l. sym (bit_suc x j) ∙ h (suc j) (omega arith) ∙ bit_suc y j),
      bit_zero x,
      bit_zero y,
      h 0 (omega arith),
    )

-- a number with bit i made b: b there, and elsewhere as it was
module _ (x i b : ℕ) (h : b < 2) where
  tail_lt : b * 2 ^ i + x % 2 ^ i < 2 ^ (1 + i)
  tail_lt = subst (λ (n : ℕ). b * 2 ^ i + x % 2 ^ i < n) (sym (pow-add 2 1 i)) (digits_lt h (mod-lt x (pow_pos i)))

  above : with_bit x i b / 2 ^ (1 + i) ≡ x / 2 ^ (1 + i)
  above = digits_div (x / 2 ^ (1 + i)) tail_lt

  joined : with_bit x i b ≡ (x / 2 ^ (1 + i) * 2 + b) * 2 ^ i + x % 2 ^ i
  joined = omega (arith, add-mul (x / 2 ^ (1 + i) * 2) b (2 ^ i), mul_assoc (x / 2 ^ (1 + i)) 2 (2 ^ i), ap (λ (n : ℕ). x / 2 ^ (1 + i) * n) (pow-add 2 1 i))

  pub bit_set : bit (with_bit x i b) i ≡ b
  bit_set =
      ap (λ (n : ℕ). n / 2 ^ i % 2) joined ∙ ap (λ (n : ℕ). n % 2) (digits_div (x / 2 ^ (1 + i) * 2 + b) (mod-lt x (pow_pos i)))
      ∙ digits_mod (x / 2 ^ (1 + i)) h

  pub bit_below : (j : ℕ) → j < i → bit (with_bit x i b) j ≡ bit x j
  bit_below j l =
      sym (bit_low (with_bit x i b) i j l)
      ∙ ap (λ (n : ℕ). bit n j) (ap (λ (n : ℕ). n % 2 ^ i) joined ∙ digits_mod (x / 2 ^ (1 + i) * 2 + b) (mod-lt x (pow_pos i)))
      ∙ bit_low x i j l

  pub bit_above : (j : ℕ) → i < j → bit (with_bit x i b) j ≡ bit x j
  bit_above j l =
      let e : j ≡ 1 + i + (j - (1 + i)) = omega arith in
      ap (bit (with_bit x i b)) e ∙ sym (bit_shr (with_bit x i b) (1 + i) (j - (1 + i))) ∙ ap (λ (n : ℕ). bit n (j - (1 + i))) above
      ∙ bit_shr x (1 + i) (j - (1 + i)) ∙ ap (bit x) (sym e)

  -- and a number of n bits still
  pub with_lt : (n : ℕ) → i < n → x < 2 ^ n → with_bit x i b < 2 ^ n
  with_lt n l g =
      let e : n ≡ (n - (1 + i)) + (1 + i) = omega arith in
      let q : x / 2 ^ (1 + i) < 2 ^ (n - (1 + i)) = shr_lt (n - (1 + i)) (1 + i) (subst (λ (m : ℕ). x < 2 ^ m) e g) in
      subst (λ (m : ℕ). with_bit x i b < m) (sym (ap (λ (m : ℕ). 2 ^ m) e ∙ pow-add 2 (n - (1 + i)) (1 + i))) (digits_lt q tail_lt)

pub bit_of_zero : (y m : ℕ) → y ≡ 0 → bit y m ≡ 0
bit_of_zero y m e = ap (λ (n : ℕ). bit n m) e ∙ ap (λ (n : ℕ). n % 2) (zero-div (2 ^ m))

-- x as the bits above i, bit i and the bits below
pub parted : (x i : ℕ) → x ≡ with_bit x i (bit x i)
parted x i =
    let d : x / 2 ^ i / 2 ≡ x / 2 ^ (1 + i) = shr-shr x i 1 ∙ ap (λ (n : ℕ). x / 2 ^ n) (add_comm i 1) in
    let q : ℕ = x / 2 ^ i / 2 in
    let e : 2 ^ (1 + i) ≡ 2 * 2 ^ i = pow-add 2 1 i in
    sym (split x i)
    ∙ ap (λ (n : ℕ). n * 2 ^ i + x % 2 ^ i) (sym (split (x / 2 ^ i) 1))
    ∙ omega (arith, add-mul (q * 2) (bit x i) (2 ^ i), mul_assoc q 2 (2 ^ i))
    ∙ ap₂ (λ (a b : ℕ). a * b + (bit x i * 2 ^ i + x % 2 ^ i)) d (sym e)

max_lt : (a b : ℕ) → a < 2 → b < 2 → max a b < 2
max_lt a b p q = suc-le-suc (max-le (le_of_suc-le-suc p) (le_of_suc-le-suc q))

-- a bit of `a | b`
pub bit_or_lem : (a b i : ℕ) → bit (bit_or a b) i ≡ max (bit a i) (bit b i)
bit_or_lem a b i =
    ap (λ (n : ℕ). n % 2) (or_shr a b i ∙ or_step (a / 2 ^ i) (b / 2 ^ i))
    ∙ digits_mod (bit_or (a / 2 ^ i / 2) (b / 2 ^ i / 2)) (max_lt (bit a i) (bit b i) (bit_lt a i) (bit_lt b i))

-- stated of any p, so that omega has few facts in reach
pub odd_not : (p x : ℕ) → x < p + p → (p + p - 1 - x) % 2 ≡ 1 - x % 2
odd_not p x h = omega arith

pub half_not : (w x : ℕ) → x < 2 ^ suc w → (2 ^ suc w - 1 - x) / 2 ≡ 2 ^ w - 1 - x / 2
half_not w x h = omega (arith, two-pow-succ w)

-- a bit of `!x` at w bits
pub bit_not : (w x i : ℕ) → x < 2 ^ w → i < w → bit (2 ^ w - 1 - x) i ≡ 1 - bit x i
bit_not zero x i h l = absurd (not-suc-le-zero l)
bit_not (suc w) x zero h l =
    bit_zero (2 ^ suc w - 1 - x) ∙ ap (λ (p : ℕ). (p - 1 - x) % 2) (two-pow-succ w)
    ∙ odd_not (2 ^ w) x (subst (λ (p : ℕ). x < p) (two-pow-succ w) h) ∙ ap (λ (n : ℕ). 1 - n) (sym (bit_zero x))
bit_not (suc w) x (suc i) h l =
    bit_suc (2 ^ suc w - 1 - x) i ∙ ap (λ (n : ℕ). bit n i) (half_not w x h)
    ∙ bit_not w (x / 2) i (omega (arith, two-pow-succ w)) (omega arith) ∙ ap (λ (n : ℕ). 1 - n) (sym (bit_suc x i))
