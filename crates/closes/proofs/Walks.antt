-- The three walks over a level's bits, each as an invariant: what is left to walk gives the answer of the whole.
use mathlib.Core.Path.{◌≡◌, refl, sym, ap, ap₂, ◌∙◌, subst}
use mathlib.Core.Bool.{Bool, true, false, not}
use mathlib.Core.Option.{Option, none, some}
use mathlib.Core.List.{List}
use Prim.Native.Nat.{ℕ, zero, suc, ◌+◌, ◌*◌, ◌-◌, ◌/◌, ◌%◌, ◌^◌, ◌<◌, ◌≤◌}
use native.Mathlib.Numerals.{add-one}
use native.Mathlib.Omega.{arith}
use lib.ListN.{get_or, get_or-eq_default}
use borrow.Author.Tests.{le-ltb, lt-ltb, eq-eqb, ne_eqb, not-true, not-false}
use lib.Dec.{ltb, eqb}
use Rattle.meaning.specs.Bits.{bit_at, bits_of}
use Rattle.meaning.specs.Close.{in_word, excess, left_bit, left_from, from_close, less, and_then, test, close_at}
use Rattle.meaning.proofs.Inside.{from_inside}
use Rattle.meaning.proofs.Stored.{length_bits, bits_at}
use Rattle.std.specs.Prelude.{SomeIff, Option as Maybe, None, Some, Ok, Err}
use Rattle.refusal.specs.Said.{option_of}
use Rattle.refusal.specs.declared.Refusal.TheVariants.{Broken}
use Rattle.closes.specs.Steps.{Small, Finds, counted, NearIs}

-- a bit of the level
pub open_in : (ws : List ℕ) (n i : ℕ) (b : Bool) → i < n → b ≡ bit_at ws i → b ≡ get_or (bits_of ws n) i false
open_in ws n i b h e = e ∙ sym (bits_at ws n i h)

pub open_out : (ws : List ℕ) (n i : ℕ) → n ≤ i → false ≡ get_or (bits_of ws n) i false
open_out ws n i h = sym (get_or-eq_default (bits_of ws n) false (omega (arith, length_bits ws n)))

-- a count: at most one up
most : (b : Bool) (d n : ℕ) → counted b d ≡ some n → n ≤ suc d
unfolding counted less
most true d n e = let z : n ≡ suc d = cc in omega arith
most false zero n e = let z : ◌≡◌ {A = ℕ} 0 1 = cc in absurd (omega arith)
most false (suc d) n e = let z : n ≡ d = cc in omega arith

pub count_up : (b : Bool) (n : ℕ) → b ≡ true → some (n + 1) ≡ counted b n
unfolding counted
count_up b n e = ap some (add-one n) ∙ ap (λ x. counted x n) (sym e)

pub count_down : (b : Bool) (n : ℕ) (r : Maybe ℕ) → b ≡ false → SomeIff r (1 ≤ n) (n - 1) → option_of r ≡ counted b n
unfolding counted less
count_down b n r e f = go n r f ∙ ap (λ x. counted x n) (sym e)
  where
    go : (n : ℕ) (r : Maybe ℕ) → SomeIff r (1 ≤ n) (n - 1) → option_of r ≡ less n
    go zero None f = refl
    go zero (Some x) f = absurd (omega (arith, f.0))
    go (suc n) None f = absurd (f (omega arith))
    go (suc n) (Some x) f = let u : x ≡ n = omega (arith, f.1) in ap some u

some_of : (r : Maybe ℕ) (o : Option ℕ) (n : ℕ) → option_of r ≡ o → r ≡ Some n → o ≡ some n
some_of r o n e f = sym e ∙ ap option_of f

none_of : (r : Maybe ℕ) (o : Option ℕ) → option_of r ≡ o → r ≡ None → o ≡ none
none_of r o e f = sym e ∙ ap option_of f

one_left : (k : ℕ) → 0 < k → k ≡ suc (k - 1)
one_left k h = omega arith

-- in the word
word_on : (l : List Bool) (d n i k : ℕ) → counted (get_or l i false) d ≡ some n → in_word l d i (suc k) ≡ in_word l n (suc i) k
unfolding in_word counted less
word_on l d n i k e = go (get_or l i false) d e
  where
    go : (b : Bool) (d : ℕ) → counted b d ≡ some n
        → elim b [ true ↦ in_word l (suc d) (suc i) k | false ↦ elim d [ zero ↦ some i | suc e ↦ in_word l e (suc i) k ] ] ≡ in_word l n (suc i) k
    go true d e = let z : n ≡ suc d = cc in ap (λ x. in_word l x (suc i) k) (sym z)
    go false zero e = let z : ◌≡◌ {A = ℕ} 0 1 = cc in absurd (omega arith)
    go false (suc d) e = let z : n ≡ d = cc in ap (λ x. in_word l x (suc i) k) (sym z)

word_here : (l : List Bool) (d i k : ℕ) → counted (get_or l i false) d ≡ none → in_word l d i (suc k) ≡ some i
unfolding in_word counted less
word_here l d i k e = go (get_or l i false) d e
  where
    go : (b : Bool) (d : ℕ) → counted b d ≡ none
        → elim b [ true ↦ in_word l (suc d) (suc i) k | false ↦ elim d [ zero ↦ some i | suc e ↦ in_word l e (suc i) k ] ] ≡ some i
    go true d e = let z : ◌≡◌ {A = ℕ} 0 1 = cc in absurd (omega arith)
    go false zero e = refl
    go false (suc d) e = let z : ◌≡◌ {A = ℕ} 0 1 = cc in absurd (omega arith)

-- s places on from p
pub record Searching (l : List Bool) (p d s : ℕ) : Type 0 where
  pub same : in_word l d (p + s) (64 - p % 64 - s) ≡ in_word l 0 (suc p) (63 - p % 64)
  pub low : d < s

pub search_start : (l : List Bool) (p : ℕ) → Searching l p 0 1
search_start l p =
    let e : p + 1 ≡ suc p = omega arith in
    let f : 64 - p % 64 - 1 ≡ 63 - p % 64 = omega arith in
    record { same = ap₂ (in_word l 0) e f; low = omega arith }

module _ (l : List Bool) (p d s : ℕ) (b : Bool) (r : Maybe ℕ) (i : Searching l p d s) (h : s < 64 - p % 64) (e : b ≡ get_or l (p + s) false)
    (f : option_of r ≡ counted b d) where
  one_more : 64 - p % 64 - s ≡ suc (64 - p % 64 - (s + 1))
  one_more = omega arith

  pub search_on : (n : ℕ) → r ≡ Some n → Searching l p n (s + 1)
  search_on n g =
      let c : counted (get_or l (p + s) false) d ≡ some n = ap (λ x. counted x d) (sym e) ∙ some_of r (counted b d) n f g in
      let u : p + (s + 1) ≡ suc (p + s) = omega arith in
      record {
        same =
            ap (λ x. in_word l n x (64 - p % 64 - (s + 1))) u
            ∙ sym (word_on l d n (p + s) (64 - p % 64 - (s + 1)) c)
            ∙ ap (in_word l d (p + s)) (sym one_more)
            ∙ i.same;
        low = omega (arith, i.low, most (get_or l (p + s) false) d n c);
      }

  pub search_here : r ≡ None → some (p + s) ≡ in_word l 0 (suc p) (63 - p % 64)
  search_here g =
      let c : counted (get_or l (p + s) false) d ≡ none = ap (λ x. counted x d) (sym e) ∙ none_of r (counted b d) f g in
      sym (word_here l d (p + s) (64 - p % 64 - (s + 1)) c) ∙ ap (in_word l d (p + s)) (sym one_more) ∙ i.same

pub search_done : (l : List Bool) (p d s : ℕ) → Searching l p d s → 64 - p % 64 ≤ s → none ≡ in_word l 0 (suc p) (63 - p % 64)
unfolding in_word
search_done l p d s i h = let z : 0 ≡ 64 - p % 64 - s = omega arith in ap (in_word l d (p + s)) z ∙ i.same

-- opens less closes
excess_on : (l : List Bool) (d n i k : ℕ) → counted (get_or l i false) d ≡ some n → excess l d i (suc k) ≡ excess l n (suc i) k
unfolding excess counted less
excess_on l d n i k e = go (get_or l i false) d e
  where
    go : (b : Bool) (d : ℕ) → counted b d ≡ some n
        → elim b [ true ↦ excess l (suc d) (suc i) k | false ↦ elim d [ zero ↦ none | suc e ↦ excess l e (suc i) k ] ] ≡ excess l n (suc i) k
    go true d e = let z : n ≡ suc d = cc in ap (λ x. excess l x (suc i) k) (sym z)
    go false zero e = let z : ◌≡◌ {A = ℕ} 0 1 = cc in absurd (omega arith)
    go false (suc d) e = let z : n ≡ d = cc in ap (λ x. excess l x (suc i) k) (sym z)

excess_none : (l : List Bool) (d i k : ℕ) → counted (get_or l i false) d ≡ none → excess l d i (suc k) ≡ none
unfolding excess counted less
excess_none l d i k e = go (get_or l i false) d e
  where
    go : (b : Bool) (d : ℕ) → counted b d ≡ none
        → ◌≡◌ {A = Option ℕ} (elim b [ true ↦ excess l (suc d) (suc i) k | false ↦ elim d [ zero ↦ none | suc e ↦ excess l e (suc i) k ] ]) none
    go true d e = let z : ◌≡◌ {A = ℕ} 0 1 = cc in absurd (omega arith)
    go false zero e = refl
    go false (suc d) e = let z : ◌≡◌ {A = ℕ} 0 1 = cc in absurd (omega arith)

pub record Counting (l : List Bool) (q p d i : ℕ) : Type 0 where
  pub same : excess l d i (p - i) ≡ excess l 0 q (p - q)
  pub low : d ≤ i

pub count_start : (l : List Bool) (q p : ℕ) → Counting l q p 0 q
count_start l q p = record { same = refl; low = omega arith }

pub count_on : (l : List Bool) (q p d i n : ℕ) (b : Bool) (r : Maybe ℕ) → Counting l q p d i → i < p
    → b ≡ get_or l i false → option_of r ≡ counted b d → r ≡ Some n → Counting l q p n (i + 1)
count_on l q p d i n b r s h e f g =
    let c : counted (get_or l i false) d ≡ some n = ap (λ x. counted x d) (sym e) ∙ some_of r (counted b d) n f g in
    let u : p - i ≡ suc (p - (i + 1)) = omega arith in
    record {
      same =
          ap (λ x. excess l n x (p - (i + 1))) (add-one i) ∙ sym (excess_on l d n i (p - (i + 1)) c) ∙ ap (excess l d i) (sym u) ∙ s.same;
      low = omega (arith, s.low, most (get_or l i false) d n c);
    }

pub count_none : (l : List Bool) (q p d i : ℕ) (b : Bool) (r : Maybe ℕ) → Counting l q p d i → i < p
    → b ≡ get_or l i false → option_of r ≡ counted b d → r ≡ None → none ≡ excess l 0 q (p - q)
count_none l q p d i b r s h e f g =
    let c : counted (get_or l i false) d ≡ none = ap (λ x. counted x d) (sym e) ∙ none_of r (counted b d) f g in
    let u : p - i ≡ suc (p - (i + 1)) = omega arith in
    sym (excess_none l d i (p - (i + 1)) c) ∙ ap (excess l d i) (sym u) ∙ s.same

pub count_done : (l : List Bool) (q p d i : ℕ) → Counting l q p d i → p ≤ i → some d ≡ excess l 0 q (p - q)
unfolding excess
count_done l q p d i s h = let z : 0 ≡ p - i = omega arith in ap (excess l d i) z ∙ s.same

-- to the left: the answer so far, past an open (b true) or a close at place i at which the count is n
unfoldable closer : Bool → ℕ → ℕ → ℕ → Option ℕ → Option ℕ
closer true n d i best = best
closer false n d i best = elim (eqb n d) [ true ↦ some i | false ↦ best ]

left_on : (l : List Bool) (s d k e n : ℕ) (best : Option ℕ) → counted (not (get_or l (s + k) false)) e ≡ some n
    → left_from l s d (suc k) e best ≡ left_from l s d k n (closer (get_or l (s + k) false) n d (s + k) best)
unfolding left_from left_bit counted less closer
left_on l s d k e n best f = go (get_or l (s + k) false) e f
  where
    go : (b : Bool) (e : ℕ) → counted (not b) e ≡ some n
        → left_bit l s d k e best b (λ e b. left_from l s d k e b) ≡ left_from l s d k n (closer b n d (s + k) best)
    go false e f = let z : n ≡ suc e = cc in ap (λ x. left_from l s d k x (elim (eqb x d) [ true ↦ some (s + k) | false ↦ best ])) (sym z)
    go true zero f = let z : ◌≡◌ {A = ℕ} 0 1 = cc in absurd (omega arith)
    go true (suc e) f = let z : n ≡ e = cc in ap (λ x. left_from l s d k x best) (sym z)

left_none : (l : List Bool) (s d k e : ℕ) (best : Option ℕ) → counted (not (get_or l (s + k) false)) e ≡ none → left_from l s d (suc k) e best ≡ none
unfolding left_from left_bit counted less
left_none l s d k e best f = go (get_or l (s + k) false) e f
  where
    go : (b : Bool) (e : ℕ) → counted (not b) e ≡ none → left_bit l s d k e best b (λ e b. left_from l s d k e b) ≡ none
    go false e f = let z : ◌≡◌ {A = ℕ} 0 1 = cc in absurd (omega arith)
    go true zero f = refl
    go true (suc e) f = let z : ◌≡◌ {A = ℕ} 0 1 = cc in absurd (omega arith)

-- the places before i are left
pub record Walking (l : List Bool) (d c i e : ℕ) (best : Maybe ℕ) : Type 0 where
  pub same : left_from l (c / 64 * 64) d (i - c / 64 * 64) e (option_of best) ≡ left_from l (c / 64 * 64) d (c % 64) 0 none
  pub low : e + i ≤ c / 64 * 64 + 63

pub walk_start : (l : List Bool) (d c : ℕ) → Walking l d c c 0 None
walk_start l d c =
    let e : c - c / 64 * 64 ≡ c % 64 = omega arith in record { same = ap (λ x. left_from l (c / 64 * 64) d x 0 none) e; low = omega arith }

module _ (l : List Bool) (d c j e : ℕ) (best : Maybe ℕ) (b : Bool) (r : Maybe ℕ) (w : Walking l d c j e best) (h : c / 64 * 64 < j)
    (f : b ≡ get_or l (j - 1) false) (g : option_of r ≡ counted (not b) e) where
  abbrev i : ℕ
  i = j - 1

  here : get_or l (c / 64 * 64 + (i - c / 64 * 64)) false ≡ b
  here = let u : c / 64 * 64 + (i - c / 64 * 64) ≡ i = omega arith in ap (λ x. get_or l x false) u ∙ sym f

  one_before : j - c / 64 * 64 ≡ suc (i - c / 64 * 64)
  one_before = omega arith

  on : (n : ℕ) (next : Maybe ℕ) → r ≡ Some n → option_of next ≡ closer b n d i (option_of best) → Walking l d c (j - 1) n next
  on n next k m =
      let s : ℕ = c / 64 * 64 in
      let v : s + (i - s) ≡ i = omega arith in
      let u : counted (not (get_or l (s + (i - s)) false)) e ≡ some n = ap (λ x. counted (not x) e) here ∙ some_of r (counted (not b) e) n g k in
      record {
        same =
            ap (left_from l s d (i - s) n) (m ∙ ap₂ (λ x y. closer x n d y (option_of best)) (sym here) (sym v))
            ∙ sym (left_on l s d (i - s) e n (option_of best) u)
            ∙ ap (λ x. left_from l s d x e (option_of best)) (sym one_before)
            ∙ w.same;
        low = omega (arith, w.low, most (not (get_or l (s + (i - s)) false)) e n u);
      }

  pub walk_here : (n : ℕ) (next : Maybe ℕ) → r ≡ Some n → b ≡ false → n ≡ d → next ≡ Some (j - 1) → Walking l d c (j - 1) n next
  unfolding closer
  walk_here n next k x y z = on n next k (ap option_of z ∙ sym (rw (x, closer, eq-eqb n d y)))

  pub walk_open : (n : ℕ) (next : Maybe ℕ) → r ≡ Some n → b ≡ true → next ≡ best → Walking l d c (j - 1) n next
  unfolding closer
  walk_open n next k x z = on n next k (ap option_of z ∙ sym (rw x))

  pub walk_not : (n : ℕ) (next : Maybe ℕ) → r ≡ Some n → b ≡ false → ¬ (n ≡ d) → next ≡ best → Walking l d c (j - 1) n next
  unfolding closer
  walk_not n next k x y z = on n next k (ap option_of z ∙ sym (rw (x, closer, ne_eqb n d y)))

  pub walk_none : r ≡ None → none ≡ left_from l (c / 64 * 64) d (c % 64) 0 none
  walk_none k =
      let s : ℕ = c / 64 * 64 in
      let u : counted (not (get_or l (s + (i - s)) false)) e ≡ none = ap (λ x. counted (not x) e) here ∙ none_of r (counted (not b) e) g k in
      sym (left_none l s d (i - s) e (option_of best) u) ∙ ap (λ x. left_from l s d x e (option_of best)) (sym one_before) ∙ w.same

pub walk_done : (l : List Bool) (d c i e : ℕ) (best : Maybe ℕ) → Walking l d c i e best → i ≤ c / 64 * 64
    → option_of best ≡ left_from l (c / 64 * 64) d (c % 64) 0 none
unfolding left_from
walk_done l d c i e best w h =
    let z : 0 ≡ i - c / 64 * 64 = omega arith in ap (λ x. left_from l (c / 64 * 64) d x e (option_of best)) z ∙ w.same

-- if d is 0 the answer is c
pub child_here : (l : List Bool) (d c : ℕ) → d ≡ 0 → some c ≡ from_close l d c
unfolding from_close
child_here l d c e = ap (λ x. from_close l x c) (sym e)

pub child_left : (l : List Bool) (d c : ℕ) (r : Maybe ℕ) → ¬ (d ≡ 0) → option_of r ≡ left_from l (c / 64 * 64) d (c % 64) 0 none → option_of r ≡ from_close l d c
unfolding from_close
child_left l zero c r h e = absurd (h refl)
child_left l (suc d) c r h e = e

-- the word's close, by what is found at p and in its word
pub near_shut : (l : List Bool) (p : ℕ) (b : Bool) → b ≡ get_or l p false → not b ≡ true → NearIs l p (Err Broken)
unfolding close_at test
near_shut l p b e f = record { close = λ d up. rw (sym e ∙ not-true b f, test); small = tt }

module _ (ws : List ℕ) (n p : ℕ) (b : Bool) (r : Maybe ℕ) (e : b ≡ get_or (bits_of ws n) p false) (f : not b ≡ false)
    (g : option_of r ≡ in_word (bits_of ws n) 0 (suc p) (63 - p % 64)) where
  pub near_far : r ≡ None → NearIs (bits_of ws n) p (Ok None)
  unfolding close_at test
  near_far i = record { close = λ d up. rw (sym e ∙ not-false b f, test, sym g ∙ ap option_of i); small = tt }

  pub near_in : (c : ℕ) → r ≡ Some c → c < n → n < 2 ^ 64 → NearIs (bits_of ws n) p (Ok (Some c))
  unfolding close_at test
  near_in c i h k =
      record {
        close = λ d up. rw (sym e ∙ not-false b f, test, sym g ∙ ap option_of i, lt-ltb c _ (subst (λ x. c < x) (sym (length_bits ws n)) h), test);
        small = omega arith;
      }

  pub near_out : (c : ℕ) → r ≡ Some c → n ≤ c → NearIs (bits_of ws n) p (Err Broken)
  unfolding close_at test
  near_out c i h =
      record {
        close = λ d up. rw (sym e ∙ not-false b f, test, sym g ∙ ap option_of i, le-ltb c _ (subst (λ x. x ≤ c) (sym (length_bits ws n)) h), test);
        small = tt;
      }

-- the close of p from that of q
pub from_out : (o : Option ℕ) (n c : ℕ) → n ≤ c → Finds None (test (ltb c n) o)
unfolding test
from_out o n c h = record { is = rw (le-ltb c n h); small = tt }

pub from_none : (l : List Bool) (n p q c : ℕ) (r z : Maybe ℕ) → c < n → option_of r ≡ excess l 0 q (p - q) → r ≡ None → z ≡ None
    → Finds z (test (ltb c n) (and_then (excess l 0 q (p - q)) (λ d. from_close l d c)))
unfolding test and_then
from_none l n p q c r z h e f g =
    subst (λ x. Finds x (test (ltb c n) (and_then (excess l 0 q (p - q)) (λ d. from_close l d c)))) (sym g)
    (record { is = rw (lt-ltb c n h, test, sym e ∙ ap option_of f); small = tt })

step_small : (r : Maybe ℕ) (n : ℕ) → ((j : ℕ) → option_of r ≡ some j → j < n) → n < 2 ^ 64 → Small r
step_small (Some j) n h k = omega (arith, h j refl)
step_small None n h k = tt

pub from_left : (l : List Bool) (n p q c d : ℕ) (r s : Maybe ℕ) → c < n → n < 2 ^ 64 → option_of r ≡ excess l 0 q (p - q) → r ≡ Some d
    → option_of s ≡ from_close l d c → Finds s (test (ltb c n) (and_then (excess l 0 q (p - q)) (λ d. from_close l d c)))
unfolding test and_then
from_left l n p q c d r s h k e f g =
    record {
      is = rw (lt-ltb c n h, test, sym e ∙ ap option_of f) g;
      small = step_small s n (λ j u. omega (arith, from_inside l d c j (sym g ∙ u))) k;
    }
