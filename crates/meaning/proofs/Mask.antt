-- What the code's masks and shifts give at w bits: `1 << i`, `x & (1 << i)`, the two stores, `x & ((1 << n) - 1)`.
use mathlib.Core.Path.{◌≡◌, refl, sym, ap, ◌∙◌, subst}
use mathlib.Core.Bool.{Bool, true, false, not}
use Prim.Native.Nat.{ℕ, zero, suc, ◌+◌, ◌-◌, ◌*◌, ◌%◌, ◌^◌, ◌≤◌, ◌<◌, suc-le-suc}
use native.Mathlib.Nat.{le_of_suc-le-suc, mod-lt, not-suc-le-zero, one-mul, zero-mul}
use native.Mathlib.Omega.{arith}
use lib.Arith.{digits_lt}
use lib.Bits.{bit_and, bit_or, bit_xor, and_comm, and_high, and_mask, and_zero_r, or_add_and, xor_add_and}
use lib.Dec.{lit<, eqb, eqb-suc-zero}
use lib.Pow.{high_ones, pow-add, pow_pos, shl_exact, shr_lt}
use Rattle.meaning.specs.Bits.{bit, as_bit, with_bit}
use Rattle.meaning.proofs.Bit.{bit_lt, parted}

-- `1 << i`
pub one_shl : (w i : ℕ) → i < w → (1 * 2 ^ i) % 2 ^ w ≡ 2 ^ i
one_shl w i h = shl_exact {a = 1} 1 i w (lit< tt) (omega arith) ∙ one-mul (2 ^ i)

pub shl_pos : (w n : ℕ) → n < w → 1 ≤ (1 * 2 ^ n) % 2 ^ w
shl_pos w n h = omega (arith, one_shl w n h, pow_pos n)

-- `x & ((1 << n) - 1)`
pub mask_low : (w x n : ℕ) → n < w → bit_and x ((1 * 2 ^ n) % 2 ^ w - 1) ≡ x % 2 ^ n
mask_low w x n h = ap (λ (p : ℕ). bit_and x (p - 1)) (one_shl w n h) ∙ and_mask x n

-- `x & (1 << i)`
pub and_pow : (x i : ℕ) → bit_and x (2 ^ i) ≡ bit x i * 2 ^ i
and_pow x i = ap (bit_and x) (sym (high_ones 1 i ∙ one-mul (2 ^ i))) ∙ and_high x 1 i

is_one : (b p : ℕ) → b < 2 → zero < p → not (eqb (b * p) 0) ≡ eqb b 1
is_one zero p h k = ap (λ (n : ℕ). not (eqb n 0)) (zero-mul p)
is_one (suc zero) p h (suc-le-suc {m = a} k) = ap (λ (n : ℕ). not (eqb n 0)) (one-mul (suc a)) ∙ ap not (eqb-suc-zero a)
is_one (suc (suc b)) p h k = absurd (not-suc-le-zero (le_of_suc-le-suc (le_of_suc-le-suc h)))

-- `x & (1 << i) != 0`
pub get_mask : (w x i : ℕ) → i < w → not (eqb (bit_and x ((1 * 2 ^ i) % 2 ^ w)) 0) ≡ eqb (bit x i) 1
get_mask w x i h =
    ap (λ (n : ℕ). not (eqb (bit_and x n) 0)) (one_shl w i h) ∙ ap (λ (n : ℕ). not (eqb n 0)) (and_pow x i)
    ∙ is_one (bit x i) (2 ^ i) (bit_lt x i) (pow_pos i)

or_pow : (x i : ℕ) → bit_or x (2 ^ i) ≡ with_bit x i 1
or_pow x i = omega (arith, or_add_and x (2 ^ i), and_pow x i, parted x i)

-- x and its own bit i have just that bit in common
and_own : (x i b : ℕ) → b ≡ bit x i → b < 2 → bit_and x (b * 2 ^ i) ≡ b * 2 ^ i
and_own x i zero e h = ap (bit_and x) (zero-mul (2 ^ i)) ∙ and_zero_r x ∙ sym (zero-mul (2 ^ i))
and_own x i (suc zero) e h = ap (bit_and x) (one-mul (2 ^ i)) ∙ and_pow x i ∙ ap (λ (b : ℕ). b * 2 ^ i) (sym e)
and_own x i (suc (suc b)) e h = absurd (not-suc-le-zero (le_of_suc-le-suc (le_of_suc-le-suc h)))

xor_pow : (x i : ℕ) → bit_xor x (bit_and (2 ^ i) x) ≡ with_bit x i 0
xor_pow x i =
    ap (bit_xor x) (and_comm (2 ^ i) x ∙ and_pow x i)
    ∙ omega (arith, xor_add_and x (bit x i * 2 ^ i), and_own x i (bit x i) refl (bit_lt x i), parted x i)

-- `x | (1 << i)`
pub set_one : (w x i : ℕ) → i < w → bit_or x ((1 * 2 ^ i) % 2 ^ w) ≡ with_bit x i 1
set_one w x i h = ap (bit_or x) (one_shl w i h) ∙ or_pow x i

-- `x ^ ((1 << i) & x)`
pub set_zero : (w x i : ℕ) → i < w → bit_xor x (bit_and ((1 * 2 ^ i) % 2 ^ w) x) ≡ with_bit x i 0
set_zero w x i h = ap (λ (n : ℕ). bit_xor x (bit_and n x)) (one_shl w i h) ∙ xor_pow x i

-- a word of w bits with a bit changed is one of w bits
pub with_lt : (w x i b : ℕ) → x < 2 ^ w → i < w → b < 2 → with_bit x i b < 2 ^ w
with_lt w x i b h l q =
    let e : w ≡ w - (1 + i) + (1 + i) = omega arith in
    subst (λ (n : ℕ). with_bit x i b < n) (sym (ap (λ (n : ℕ). 2 ^ n) e ∙ pow-add 2 (w - (1 + i)) (1 + i)))
    (digits_lt (shr_lt (w - (1 + i)) (1 + i) (subst (λ (n : ℕ). x < 2 ^ n) e h)) tail)
  where
    tail : b * 2 ^ i + x % 2 ^ i < 2 ^ (1 + i)
    tail = subst (λ (n : ℕ). b * 2 ^ i + x % 2 ^ i < n) (sym (pow-add 2 1 i)) (digits_lt q (mod-lt x (pow_pos i)))

pub as_bit_lt : (b : Bool) → as_bit b < 2
as_bit_lt true = lit< tt
as_bit_lt false = lit< tt
