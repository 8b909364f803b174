-- Bits cut out of a word, and cleared word by word.
use mathlib.Core.Path.{◌≡◌, refl, sym, ap, ap₂, ◌∙◌, subst}
use mathlib.Core.List.{List}
use mathlib.Core.Logic.{◌⊎◌, inl, inr}
use Prim.Native.Nat.{ℕ, ◌+◌, ◌-◌, ◌*◌, ◌/◌, ◌%◌, ◌^◌, ◌≤◌, ◌<◌, min}
use native.Mathlib.Nat.{mod-lt, mod-le, lt_of_lt_of_le}
use native.Mathlib.Decide.{dec_le, dec_lt, ℕ_discrete}
use native.Mathlib.Omega.{arith}
use lib.Arith.{digits_div, digits_mod}
use lib.Dec.{eqb}
use lib.ListN.{length, get_or, set, length-set}
use lib.Pow.{pow_pos, pow_mono, split, mod-mod-pow}
use lib.Seq.{get_or-set_same, get_or-set_other}
use Rattle.meaning.specs.Bits.{bit, bit_at, cleared}
use Rattle.meaning.proofs.Bit.{bit_low, bit_past, bit_shr}
use Rattle.meaning.proofs.Tab.{Below}
use Rattle.meaning.proofs.Stored.{words_ext, length_cleared, cleared_below, cleared_out, cleared_in}
use Rattle.bit_string.specs.Part.{Cut}

-- ---- the k low bits of x, and those from h on

module _ (x k h : ℕ) (l : k ≤ h) where
  low_le : x % 2 ^ k ≤ x % 2 ^ h
  low_le =
      let e : h ≡ h - k + k = omega arith in
      let z : x % 2 ^ h % 2 ^ k ≡ x % 2 ^ k = ap (λ (n : ℕ). x % 2 ^ n % 2 ^ k) e ∙ mod-mod-pow x (h - k) k in
      omega (arith, z, mod-le (x % 2 ^ h) (2 ^ k))

  pub cut_fits : x % 2 ^ k + (x - x % 2 ^ h) ≤ x
  cut_fits = omega (arith, low_le, mod-le x (2 ^ h))

  halves : x % 2 ^ k + (x - x % 2 ^ h) ≡ x / 2 ^ h * 2 ^ h + x % 2 ^ k
  halves = omega (arith, split x h)

  low_lt : x % 2 ^ k < 2 ^ h
  low_lt = lt_of_lt_of_le (mod-lt x (pow_pos k)) (pow_mono l)

  under : (j : ℕ) → j < h → bit (x % 2 ^ k + (x - x % 2 ^ h)) j ≡ bit (x % 2 ^ k) j
  under j d =
      ap (λ (y : ℕ). bit y j) halves ∙ sym (bit_low (x / 2 ^ h * 2 ^ h + x % 2 ^ k) h j d)
      ∙ ap (λ (y : ℕ). bit y j) (digits_mod (x / 2 ^ h) low_lt)

  cut_zero : (j : ℕ) → k ≤ j → j < h → bit (x % 2 ^ k + (x - x % 2 ^ h)) j ≡ 0
  cut_zero j a d = under j d ∙ bit_past (x % 2 ^ k) k j (mod-lt x (pow_pos k)) a

  cut_kept : (j : ℕ) → (j < k) ⊎ (h ≤ j) → bit (x % 2 ^ k + (x - x % 2 ^ h)) j ≡ bit x j
  cut_kept j (inl a) = under j (omega arith) ∙ bit_low x k j a
  cut_kept j (inr d) =
      let e : j ≡ h + (j - h) = omega arith in
      let y : ℕ = x / 2 ^ h * 2 ^ h + x % 2 ^ k in
      ap (λ (z : ℕ). bit z j) halves ∙ ap (bit y) e ∙ sym (bit_shr y h (j - h)) ∙ ap (λ (z : ℕ). bit z (j - h)) (digits_div (x / 2 ^ h) low_lt)
      ∙ bit_shr x h (j - h) ∙ ap (bit x) (sym e)

-- of word q: f and t are how many of its bits are before each place, u and v the numbers of these bits
module _ (x q a e : ℕ) (h : a < e) (f t u v : ℕ) (p : f ≡ min 64 (a - 64 * q)) (r : t ≡ min 64 (e - 64 * q)) (y : u ≡ x % 2 ^ f) (z : v ≡ x % 2 ^ t) where
  order : f ≤ t
  order = omega arith

  pub without_low : v ≤ x
  without_low = omega (arith, mod-le x (2 ^ t))

  pub without_fits : u + (x - v) ≤ x
  without_fits = omega (arith, cut_fits x f t order)

  pub without_cut : Cut a e q x (u + (x - v))
  without_cut = record {
    zero = λ j l b d. cut j ∙ cut_zero x f t order j (omega arith) (omega arith);
    kept = λ j l b. cut j ∙ cut_kept x f t order j (side j l b);
  }
    where
      cut : (j : ℕ) → bit (u + (x - v)) j ≡ bit (x % 2 ^ f + (x - x % 2 ^ t)) j
      cut j = ap₂ (λ (m n : ℕ). bit (m + (x - n)) j) y z

      side : (j : ℕ) → j < 64 → (64 * q + j < a) ⊎ (e ≤ 64 * q + j) → (j < f) ⊎ (t ≤ j)
      side j l (inl b) = inl (omega arith)
      side j l (inr b) = inr (omega arith)

pub cut_none : (x q a e : ℕ) → e ≤ a → Cut a e q x x
cut_none x q a e h = record { zero = λ j l p r. absurd (omega arith); kept = λ j l p. refl }

-- ---- word by word, from a's word on: the places before word q are done, the words from q on are as they were
module _ (ws : List ℕ) (a e : ℕ) where
  pub record Clearing (vs : List ℕ) (q : ℕ) : Type 0 where
    pub order : a ≤ e
    pub start : a / 64 ≤ q
    pub was : Below (2 ^ 64) ws
    pub same : length vs ≡ length ws
    pub fit : Below (2 ^ 64) vs
    pub done : (i : ℕ) → i < 64 * q → bit_at vs i ≡ bit_at (cleared ws a (e - a)) i
    pub rest : (p : ℕ) → q ≤ p → get_or vs p 0 ≡ get_or ws p 0

  pub clear_start : a ≤ e → Below (2 ^ 64) ws → Clearing ws (a / 64)
  clear_start h f = record {
    order = h;
    start = omega arith;
    was = f;
    same = refl;
    fit = f;
    done = λ i l. sym (cleared_out ws a (e - a) i (inl (omega arith)));
    rest = λ p l. refl;
  }

  module _ {vs : List ℕ} {q : ℕ} (s : Clearing vs q) where
    -- word q as it was, place by place
    was_at : (i : ℕ) → q ≤ i / 64 → bit_at vs i ≡ bit_at ws i
    unfolding bit_at
    was_at i h = ap (λ x. eqb (bit x (i % 64)) 1) (s.rest (i / 64) h)

    pub clear_turn : (y : ℕ) → q < length vs → y < 2 ^ 64 → Cut a e q (get_or vs q 0) y → Clearing (set vs q y) (q + 1)
    unfolding bit_at
    clear_turn y h f b = record {
      order = s.order;
      start = omega (arith, s.start);
      was = s.was;
      same = length-set vs q y ∙ s.same;
      fit = λ p. fits p (ℕ_discrete p q);
      done = λ i l. at i l (ℕ_discrete (i / 64) q);
      rest = λ p l. get_or-set_other vs q p y 0 (λ d. omega arith) ∙ s.rest p (omega arith);
    }
      where
        fits : (p : ℕ) → Dec (p ≡ q) → get_or (set vs q y) p 0 < 2 ^ 64
        fits p (yes d) = subst (λ n. n < 2 ^ 64) (sym (ap (λ (r : ℕ). get_or (set vs q y) r 0) d ∙ get_or-set_same vs q y 0 h)) f
        fits p (no d) = subst (λ n. n < 2 ^ 64) (sym (get_or-set_other vs q p y 0 d)) (s.fit p)

        here : (i : ℕ) → i / 64 ≡ q → bit_at (set vs q y) i ≡ eqb (bit y (i % 64)) 1
        here i d = ap (λ (r : ℕ). eqb (bit (get_or (set vs q y) r 0) (i % 64)) 1) d ∙ ap (λ (x : ℕ). eqb (bit x (i % 64)) 1) (get_or-set_same vs q y 0 h)

        old : (i : ℕ) → i / 64 ≡ q → eqb (bit (get_or vs q 0) (i % 64)) 1 ≡ bit_at ws i
        old i d = ap (λ (r : ℕ). eqb (bit (get_or vs r 0) (i % 64)) 1) (sym d) ∙ was_at i (omega arith)

        new : (i : ℕ) → i / 64 ≡ q → Dec (i < a) → Dec (i < e) → eqb (bit y (i % 64)) 1 ≡ bit_at (cleared ws a (e - a)) i
        new i d (yes l) m =
            ap (λ x. eqb x 1) (b.kept (i % 64) (omega arith) (inl (omega arith))) ∙ old i d ∙ sym (cleared_out ws a (e - a) i (inl l))
        new i d (no l) (yes m) =
            ap (λ x. eqb x 1) (b.zero (i % 64) (omega arith) (omega arith) (omega arith)) ∙ sym (cleared_in ws a (e - a) i (omega arith) (omega (arith, s.order)))
        new i d (no l) (no m) =
            ap (λ x. eqb x 1) (b.kept (i % 64) (omega arith) (inr (omega arith))) ∙ old i d
            ∙ sym (cleared_out ws a (e - a) i (inr (omega (arith, s.order))))

        at : (i : ℕ) → i < 64 * (q + 1) → Dec (i / 64 ≡ q) → bit_at (set vs q y) i ≡ bit_at (cleared ws a (e - a)) i
        at i l (no d) = ap (λ (x : ℕ). eqb (bit x (i % 64)) 1) (get_or-set_other vs q (i / 64) y 0 d) ∙ s.done i (omega arith)
        at i l (yes d) = here i d ∙ new i d (dec_lt i a) (dec_lt i e)

    -- done where the words end or the places do
    all : ((i : ℕ) → i < 64 * length vs → (i < 64 * q) ⊎ (e ≤ i)) → vs ≡ cleared ws a (e - a)
    all h =
        words_ext vs (cleared ws a (e - a)) (s.same ∙ sym (length_cleared ws a (e - a))) s.fit (cleared_below ws a (e - a) s.was)
        (λ i l. go i (dec_lt i (64 * q)) (h i l))
      where
        go : (i : ℕ) → Dec (i < 64 * q) → (i < 64 * q) ⊎ (e ≤ i) → bit_at vs i ≡ bit_at (cleared ws a (e - a)) i
        go i (yes l) m = s.done i l
        go i (no l) (inl m) = s.done i m
        go i (no l) (inr m) = was_at i (omega arith) ∙ sym (cleared_out ws a (e - a) i (inr (omega (arith, s.order))))

    clear_ended : length vs ≤ q → vs ≡ cleared ws a (e - a)
    clear_ended h = all (λ i l. inl (omega arith))

    clear_past : e / 64 < q → vs ≡ cleared ws a (e - a)
    clear_past h = all (λ i l. either i (dec_le e i))
      where
        either : (i : ℕ) → Dec (e ≤ i) → (i < 64 * q) ⊎ (e ≤ i)
        either i (yes d) = inr d
        either i (no d) = inl (omega arith)

    pub clear_over : (m : ℕ) → m ≡ min (length ws) (e / 64 + 1) → m ≤ q → vs ≡ cleared ws a (e - a)
    clear_over m p h = go (dec_lt (e / 64) q)
      where
        go : Dec (e / 64 < q) → vs ≡ cleared ws a (e - a)
        go (yes l) = clear_past l
        go (no l) = clear_ended (omega (arith, s.same))
