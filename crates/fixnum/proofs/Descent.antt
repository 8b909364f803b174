-- The descent to the k-th one, over any width.
use mathlib.Core.Bool.{true}
use mathlib.Core.Path.{◌≡◌, refl, sym, ap, ◌∙◌, subst, subst₂}
use mathlib.Core.List.{List, [], ◌∷◌}
use mathlib.Core.Logic.{◌⊎◌, inl, inr}
use Prim.Native.Nat.{ℕ, zero, suc, ◌+◌, ◌-◌, ◌*◌, ◌/◌, ◌%◌, ◌^◌, ◌≤◌, ◌<◌}
use native.Mathlib.Nat.{add-mul, add-zero, div-eq_of_lt, div-one, le_of_eq, le_trans, lt_of_le_of_lt, lt_of_lt_of_le, lt_of_not-le, lt-suc_self, mod-eq_of_lt, mul-add, mul_assoc, mul-zero, two-pow-succ, zero-add}
use native.Mathlib.Omega.{arith}
use lib.Bits.{bit_and, and_mask}
use lib.ListN.{length, get_or, take, drop}
use Rattle.std.proofs.lemmas.List.{length-take, length-drop, get_or-take, get_or-drop}
use lib.Pow.{mod-mod-pow, pow-add, pow-lt, pow_mono, pow_pos, shl-shr, shr-shr}
use Rattle.meaning.specs.Bits.{bit}
use Rattle.meaning.specs.Answers.{is, nothing}
use Rattle.meaning.specs.Count.{count}
use Rattle.meaning.specs.Word.{word_ones, word_select}
use Rattle.meaning.proofs.Bit.{bit_lt, bit_past}
use Rattle.meaning.proofs.Ones.{bits_add, bits_le, count_zero}
use Rattle.meaning.proofs.Word.{ones_word, select_in, select_nothing}
use Rattle.fixnum.specs.Fields.{sh, Holds}
use Rattle.fixnum.specs.Levels.{Level, Counted, Ready, NthOne, Steady, lower, Upper, Lower, Halved}
use Rattle.fixnum.specs.declared.select.Part.{Part}
use Rattle.fixnum.proofs.Fields.{sh_is, each_bit}

-- fields of k bits, each with the count of 2 ^ e bits, are such a level
pub level_of : {y x : ℕ} (k e p d : ℕ) → 2 ^ suc e ≡ k * p → k ≡ d + suc e → Holds k (2 ^ e) y x → Level y e x
level_of {y} {x} k e p d ep ek h = record {
  at = λ q.
      let o : (z : ℕ) → z / 2 ^ (2 ^ suc e * q) ≡ sh k (p * q) z = λ z.
      ap (λ (n : ℕ). z / 2 ^ n) (ap (λ (n : ℕ). n * q) ep ∙ mul_assoc k p q) ∙ sym (sh_is k (p * q) z) in
      ap (λ (n : ℕ). n % 2 ^ suc e) (o y)
      ∙ sym (mod-mod-pow (sh k (p * q) y) d (suc e))
      ∙ ap (λ (n : ℕ). sh k (p * q) y % 2 ^ n % 2 ^ suc e) (sym ek)
      ∙ ap (λ (n : ℕ). n % 2 ^ suc e) (h.at (p * q))
      ∙ mod-eq_of_lt (lt_of_le_of_lt (bits_le (sh k (p * q) x) (2 ^ e)) (pow-lt (lt-suc_self e)))
      ∙ ap (λ (n : ℕ). count (bit n) (2 ^ e)) (sym (o x));
}

-- the k-th one of x is the r-th of the n bits from o, a multiple of n
pub record Deep (x k o r n : ℕ) : Type 0 where
  pub sum : count (bit x) o + r ≡ k
  pub least : 1 ≤ r
  pub most : r ≤ count (bit (x / 2 ^ o)) n
  pub nth : ℕ
  pub spot : o ≡ n * nth

at_top : (x k n : ℕ) → 1 ≤ k → k ≤ count (bit x) n → Deep x k 0 k n
unfolding count
at_top x k n p q = record {
  sum = zero-add k;
  least = p;
  most = subst (λ (z : ℕ). k ≤ count (bit z) n) (sym (div-one x)) q;
  nth = 0;
  spot = sym (mul-zero n);
}

-- such a place is within the word
deep_lt : {x k o r n : ℕ} (w : ℕ) → x < 2 ^ w → Deep x k o r n → o < w
deep_lt {x} {k} {o} {r} {n} w l d =
    lt_of_not-le (λ g. omega (arith, d.least, d.most, ap (λ (z : ℕ). count (bit z) n) (div-eq_of_lt (lt_of_lt_of_le l (pow_mono g))), count_zero n))

module _ {y x k o r : ℕ} (e : ℕ) (v : Level y e x) (d : Deep x k o r (2 ^ suc e)) where
  -- what the mask leaves is the count of the lower half
  low_half : y / 2 ^ o % 2 ^ suc e ≡ count (bit (x / 2 ^ o)) (2 ^ e)
  low_half = subst (λ (n : ℕ). y / 2 ^ n % 2 ^ suc e ≡ count (bit (x / 2 ^ n)) (2 ^ e)) (sym d.spot) (v.at d.nth)

  both : count (bit (x / 2 ^ o)) (2 ^ suc e) ≡ count (bit (x / 2 ^ o)) (2 ^ e) + count (bit (x / 2 ^ (o + 2 ^ e))) (2 ^ e)
  both =
      ap (count (bit (x / 2 ^ o))) (two-pow-succ e) ∙ bits_add (x / 2 ^ o) (2 ^ e) (2 ^ e)
      ∙ ap (λ (z : ℕ). count (bit (x / 2 ^ o)) (2 ^ e) + count (bit z) (2 ^ e)) (shr-shr x o (2 ^ e))

  doubled : (q : ℕ) → 2 ^ suc e * q ≡ 2 ^ e * (q + q)
  doubled q = ap (λ (n : ℕ). n * q) (two-pow-succ e) ∙ omega (arith, mul-add (2 ^ e) q q, add-mul (2 ^ e) (2 ^ e) q)

  stay : r ≤ y / 2 ^ o % 2 ^ suc e → Deep x k o r (2 ^ e)
  stay h = record {
    sum = d.sum;
    least = d.least;
    most = omega (arith, h, low_half);
    nth = d.nth + d.nth;
    spot = d.spot ∙ doubled d.nth;
  }

  go_on : y / 2 ^ o % 2 ^ suc e < r → Deep x k (o + 2 ^ e) (r - y / 2 ^ o % 2 ^ suc e) (2 ^ e)
  go_on h = record {
    sum = omega (arith, h, d.sum, low_half, bits_add x o (2 ^ e));
    least = omega (arith, h);
    most = omega (arith, d.most, low_half, both);
    nth = d.nth + d.nth + 1;
    spot = omega (arith, d.spot, doubled d.nth, mul-add (2 ^ e) (d.nth + d.nth) 1);
  }

-- at the bottom, the place itself
at_bottom : {x k o r : ℕ} → Deep x k o r 1 → (bit x o ≡ 1) × (count (bit x) o + 1 ≡ k)
unfolding count
at_bottom {x} {k} {o} {r} d =
    let b : count (bit (x / 2 ^ o)) 1 ≡ bit x o = zero-add _ ∙ ap (λ (n : ℕ). n % 2) (div-one (x / 2 ^ o)) in
    (omega (arith, b, d.least, d.most, bit_lt x o), omega (arith, b, d.least, d.most, d.sum, bit_lt x o))

-- ---- the loop: of the levels xs, those below j are behind
pub record Descent (xs : List ℕ) (s k : ℕ) (p : Part) (j : ℕ) : Type 0 where
  pub ready : Ready xs s k
  pub from : s ≤ j
  pub to : j ≤ 6
  pub wide : p.width ≡ 2 ^ (6 - j)
  pub deep : Deep (get_or xs 5 0) k p.offset p.left (2 ^ (6 - j))

-- `64 >> s`
whole : (s : ℕ) → s ≤ 6 → 64 / 2 ^ s ≡ 2 ^ (6 - s)
whole s h =
    let e : 6 ≡ 6 - s + s = omega arith in
    ap (λ (n : ℕ). n / 2 ^ s) (ap (λ (n : ℕ). 2 ^ n) e ∙ pow-add 2 (6 - s) s) ∙ shl-shr (2 ^ (6 - s)) s

pub start : {xs : List ℕ} {s k : ℕ} → Ready xs s k → Descent xs s k (record { left = k; offset = 0; width = 64 / 2 ^ s }) s
start {xs} {s} {k} h = record {
  ready = h;
  from = omega arith;
  to = h.stages.start;
  wide = whole s h.stages.start;
  deep = at_top (get_or xs 5 0) k (2 ^ (6 - s)) h.least h.most;
}

module _ {xs : List ℕ} {s k j : ℕ} {p : Part} (d : Descent xs s k p j) where
  inside : p.offset < 64
  inside =
      let l : 6 - s ≤ 6 = omega arith in
      lt_of_lt_of_le (deep_lt (2 ^ (6 - s)) d.ready.stages.small d.deep) (pow_mono l)

  pub steady : Steady p
  steady = record {
    inside = inside;
    some = omega (arith, d.wide, pow_pos (6 - j));
    narrow = let l : 6 - j ≤ 6 = omega arith in le_trans (le_of_eq d.wide) (pow_mono l);
  }

  module _ (h : j < 6) where
    one_less : 6 - j ≡ suc (5 - j)
    one_less = omega arith

    still : 5 - j ≡ 6 - (j + 1)
    still = omega arith

    deeper : Deep (get_or xs 5 0) k p.offset p.left (2 ^ suc (5 - j))
    deeper = subst (λ (i : ℕ). Deep (get_or xs 5 0) k p.offset p.left (2 ^ i)) one_less d.deep

    masked_low : lower (get_or xs j 0) p ≡ get_or xs j 0 / 2 ^ p.offset % 2 ^ suc (5 - j)
    masked_low =
        ap (λ (v : ℕ). bit_and (get_or xs j 0 / 2 ^ p.offset) (v - 1)) (d.wide ∙ ap (λ (i : ℕ). 2 ^ i) one_less)
        ∙ and_mask (get_or xs j 0 / 2 ^ p.offset) (suc (5 - j))

    halved : p.width / 2 ≡ 2 ^ (5 - j)
    halved = omega (arith, d.wide ∙ ap (λ (i : ℕ). 2 ^ i) one_less, two-pow-succ (5 - j))

    level : Level (get_or xs j 0) (5 - j) (get_or xs 5 0)
    level = d.ready.stages.levels j d.from h

    lower_half : (r : Part) → Lower (get_or xs j 0) p r → Deep (get_or xs 5 0) k r.offset r.left (2 ^ (5 - j))
    lower_half r g =
        subst₂ (λ (a b : ℕ). Deep (get_or xs 5 0) k a b (2 ^ (5 - j))) (sym g.offset) (sym g.left)
        (stay (5 - j) level deeper (omega (arith, g.enough, masked_low)))

    upper_half : (r : Part) → Upper (get_or xs j 0) p r → Deep (get_or xs 5 0) k r.offset r.left (2 ^ (5 - j))
    upper_half r g =
        subst₂ (λ (a b : ℕ). Deep (get_or xs 5 0) k a b (2 ^ (5 - j)))
        (sym (g.offset ∙ ap (λ (i : ℕ). p.offset + i) halved)) (sym (g.left ∙ ap (λ (i : ℕ). p.left - i) masked_low))
        (go_on (5 - j) level deeper (omega (arith, g.more, masked_low)))

    pub turn : (r : Part) → Halved (get_or xs j 0) p r → Descent xs s k r (j + 1)
    turn r g = record {
      ready = d.ready;
      from = omega (arith, d.from);
      to = omega arith;
      wide = g.width ∙ halved ∙ ap (λ (i : ℕ). 2 ^ i) still;
      deep = subst (λ (i : ℕ). Deep (get_or xs 5 0) k r.offset r.left (2 ^ i)) still (go g.side);
    }
      where
        go : Upper (get_or xs j 0) p r ⊎ Lower (get_or xs j 0) p r → Deep (get_or xs 5 0) k r.offset r.left (2 ^ (5 - j))
        go (inl u) = upper_half r u
        go (inr l) = lower_half r l

  -- all levels behind: the answer
  pub reached : 6 ≤ j → NthOne (get_or xs 5 0) k p.offset
  reached h =
      let e : 6 - j ≡ 0 = omega arith in
      let r = at_bottom (subst (λ (i : ℕ). Deep (get_or xs 5 0) k p.offset p.left (2 ^ i)) e d.deep) in
      record { set = r.0; ones = r.1 }

-- ---- the loop over the levels from s on

abbrev rest : List ℕ → ℕ → List ℕ
rest xs s = take (length xs - s) (drop s xs)

rest_length : (xs : List ℕ) (s : ℕ) → length (rest xs s) ≡ length xs - s
rest_length xs s = omega (arith, length-take (length xs - s) (drop s xs), length-drop s xs)

pub from_start : {xs : List ℕ} {s k : ℕ} → Ready xs s k → Descent xs s k (record { left = k; offset = 0; width = 64 / 2 ^ s }) (s + 0)
from_start {xs} {s} {k} h = subst (Descent xs s k (record { left = k; offset = 0; width = 64 / 2 ^ s })) (sym (add-zero s)) (start h)

module _ {xs : List ℕ} {s k i : ℕ} {p : Part} (d : Descent xs s k p (s + i)) (six : length xs ≡ 6) where
  pub next_turn : i < length (rest xs s) → (r : Part) → Halved (get_or (rest xs s) i 0) p r → Descent xs s k r (s + (i + 1))
  next_turn h r g =
      let l : i < length xs - s = omega (arith, rest_length xs s) in
      let e : get_or (rest xs s) i 0 ≡ get_or xs (s + i) 0 = get_or-take (length xs - s) (drop s xs) i 0 l ∙ get_or-drop s xs i 0 in
      let n : s + i + 1 ≡ s + (i + 1) = omega arith in
      subst (Descent xs s k r) n (turn d (omega arith) r (subst (λ (y : ℕ). Halved y p r) e g))

  pub all_behind : length (rest xs s) ≤ i → NthOne (get_or xs 5 0) k p.offset
  all_behind h = reached d (omega (arith, rest_length xs s))

-- ---- the levels of each width: the last three are of one kind

module _ {x s₁ s₂ : ℕ} (two : Holds 2 2 s₁ x) (four : Holds 4 4 s₂ x) (a b d : ℕ) where
  abbrev levels : List ℕ
  levels = a ∷ b ∷ d ∷ s₂ ∷ s₁ ∷ x ∷ []

  last_levels : (i : ℕ) → 3 ≤ i → i < 6 → Level (get_or levels i 0) (5 - i) x
  last_levels (suc (suc (suc zero))) g l = level_of 4 2 2 1 refl refl four
  last_levels (suc (suc (suc (suc zero)))) g l = level_of 2 1 2 0 refl refl two
  last_levels (suc (suc (suc (suc (suc zero))))) g l = level_of 1 0 2 0 refl refl (each_bit x)
  last_levels (suc (suc (suc (suc (suc (suc i)))))) g l = absurd (omega arith)
  last_levels zero g l = absurd (omega arith)
  last_levels (suc zero) g l = absurd (omega arith)
  last_levels (suc (suc zero)) g l = absurd (omega arith)

pub levels8 : {x s₁ s₂ a b d n : ℕ} → a ≡ s₂ → b ≡ s₁ → d ≡ x → Holds 2 2 s₁ x → Holds 4 4 s₂ x → x < 2 ^ 8 → n ≡ count (bit x) 8
    → Counted (0 ∷ 0 ∷ 0 ∷ a ∷ b ∷ d ∷ []) 3 n
levels8 {x} {s₁} {s₂} {a} {b} {d} {n} p q r two four f e =
    subst₂ (λ (a b : ℕ). Counted (0 ∷ 0 ∷ 0 ∷ a ∷ b ∷ d ∷ []) 3 n) (sym p) (sym q)
    (subst (λ (d : ℕ). Counted (0 ∷ 0 ∷ 0 ∷ s₂ ∷ s₁ ∷ d ∷ []) 3 n) (sym r)
    (record { stages = record { start = omega arith; small = f; levels = last_levels two four 0 0 0 }; ones = e }))

pub levels64 : {x s₁ s₂ s₃ s₄ s₅ n : ℕ} → Holds 2 2 s₁ x → Holds 4 4 s₂ x → Holds 8 8 s₃ x → Holds 8 16 s₄ x → Holds 8 32 s₅ x → x < 2 ^ 64 → n ≡ count (bit x) 64
    → Counted (s₅ ∷ s₄ ∷ s₃ ∷ s₂ ∷ s₁ ∷ x ∷ []) 0 n
levels64 {x} {s₁} {s₂} {s₃} {s₄} {s₅} two four eight sixteen thirty_two f e = record { stages = record { start = omega arith; small = f; levels = all }; ones = e }
  where
    all : (i : ℕ) → 0 ≤ i → i < 6 → Level (get_or (s₅ ∷ s₄ ∷ s₃ ∷ s₂ ∷ s₁ ∷ x ∷ []) i 0) (5 - i) x
    all zero g l = level_of 8 5 8 2 refl refl thirty_two
    all (suc zero) g l = level_of 8 4 4 3 refl refl sixteen
    all (suc (suc zero)) g l = level_of 8 3 2 4 refl refl eight
    all (suc (suc (suc i))) g l = last_levels two four s₅ s₄ s₃ (suc (suc (suc i))) (omega arith) l

-- ---- the ways out
module _ {xs : List ℕ} {s n : ℕ} (k : ℕ) (h : Counted xs s n) where
  pub nothing_for : (k ≡ 0) ⊎ (n < k) → word_select true (2 ^ (6 - s)) (get_or xs 5 0) k ≡ nothing
  nothing_for (inl z) = select_nothing (2 ^ (6 - s)) (get_or xs 5 0) k (inl z)
  nothing_for (inr l) = select_nothing (2 ^ (6 - s)) (get_or xs 5 0) k (inr (omega (arith, h.ones)))

  pub may_descend : (k ≡ 0 → ⊥) → k ≤ n → Ready xs s k
  may_descend z l = record { stages = h.stages; least = omega arith; most = omega (arith, h.ones) }

  -- a word of w bits has no one past them
  pub found_at : (i : ℕ) → NthOne (get_or xs 5 0) k i → word_select true (2 ^ (6 - s)) (get_or xs 5 0) k ≡ is i
  found_at i o =
      select_in (2 ^ (6 - s)) (get_or xs 5 0) k i
      (lt_of_not-le (λ g. omega (arith, o.set, bit_past (get_or xs 5 0) (2 ^ (6 - s)) i h.stages.small g))) o.set o.ones

-- the count is that of the word
pub all_ones : {xs : List ℕ} {s n x w : ℕ} → Counted xs s n → get_or xs 5 0 ≡ x → 2 ^ (6 - s) ≡ w → n ≡ word_ones w x
all_ones {n = n} {x = x} {w = w} h e p = subst₂ (λ (x w : ℕ). n ≡ count (bit x) w) e p h.ones ∙ sym (ones_word w x)
