-- Parts of the areas.
use mathlib.Core.Path.{◌≡◌, sym, ap, ap₂, ◌∙◌}
use mathlib.Core.Bool.{Bool, true, false, ◌&&◌}
use mathlib.Core.List.{List}
use Prim.Native.Nat.{ℕ, ◌+◌, ◌*◌, ◌/◌, ◌^◌, ◌≤◌, ◌<◌, min}
use mathlib.Core.Option.{some}
use native.Mathlib.Decide.{dec_le, dec_lt}
use native.Mathlib.Omega.{arith}
use lib.Dec.{leb, eqb}
use lib.ListN.{length, drop, drop_of_length-le}
use borrow.Author.Tests.{le-leb, lt-leb, lt-ltb, le-ltb, eq-eqb, ne_eqb}
use Rattle.std.proofs.lemmas.Bool.{eqb-true}
use Rattle.meaning.specs.Answers.{or_broken}
use Rattle.meaning.specs.Dictionary.{limit, is_empty}
use Rattle.meaning.specs.Direct.{Entries, dict_past, dict_size, entries_fit}
use Rattle.meaning.specs.Questions.{sized}
use Rattle.meaning.proofs.If.{if_true, if_false, and_true}
use Rattle.sparse_one_nnd.specs.Said.{dict_at}
use Rattle.sparse_one_nnd.proofs.Starts.{and_left, and_mid, and_right}

-- whether counts fit
module _ (e : Entries) (B M L : List ℕ) where
  pub unfit_bytes : length B < e.bytes → entries_fit e (dict_at B M L) ≡ false
  unfolding entries_fit
  unfit_bytes h = and_left _ _ (lt-leb e.bytes (length B) h)

  pub unfit_middles : length M / 2 < e.middle → entries_fit e (dict_at B M L) ≡ false
  unfolding entries_fit
  unfit_middles h = and_mid (leb e.bytes (length B)) (leb (2 * e.large) (length L)) (lt-leb (2 * e.middle) (length M) (omega arith))

  pub unfit_larges : length L / 2 < e.large → entries_fit e (dict_at B M L) ≡ false
  unfolding entries_fit
  unfit_larges h = and_right (leb e.bytes (length B) && leb (2 * e.middle) (length M)) (lt-leb (2 * e.large) (length L) (omega arith))

  pub fit_all : e.bytes ≤ length B → e.middle ≤ length M / 2 → e.large ≤ length L / 2 → entries_fit e (dict_at B M L) ≡ true
  unfolding entries_fit
  fit_all h k t = and_true (and_true (le-leb e.bytes (length B) h) (le-leb (2 * e.middle) (length M) (omega arith))) (le-leb (2 * e.large) (length L) (omega arith))

-- what is past entries whose number is cut off at the largest there is
past_most : (l : List ℕ) (n k : ℕ) → length l < 2 ^ 64 → k ≡ min (n * 2) 18446744073709551615 → drop k l ≡ drop (2 * n) l
past_most l n k h e = go (dec_le (length l) k)
  where
    go : Dec (length l ≤ k) → drop k l ≡ drop (2 * n) l
    go (yes t) = drop_of_length-le l {i = k} t ∙ sym (drop_of_length-le l {i = 2 * n} (omega arith))
    go (no t) = let u : k ≡ 2 * n = omega arith in ap (λ (k : ℕ). drop k l) u

pub past_is : (o : Entries) (B M L B' M' L' : List ℕ) (m l : ℕ) → (length M < 2 ^ 64) × (length L < 2 ^ 64) → m ≡ min (o.middle * 2) 18446744073709551615 → l ≡ min (o.large * 2) 18446744073709551615
    → B' ≡ drop o.bytes B → M' ≡ drop m M → L' ≡ drop l L → dict_at B' M' L' ≡ dict_past o (dict_at B M L)
unfolding dict_past
past_is o B M L B' M' L' m l h e f b u v =
    ap₂ (λ (m l : List ℕ). dict_at B' m l) (u ∙ past_most M o.middle m h.0 e) (v ∙ past_most L o.large l h.1 f)
    ∙ ap (λ (b : List ℕ). dict_at b (drop (2 * o.middle) M) (drop (2 * o.large) L)) b

-- "A dictionary without entries": none of the three lengths is above zero
module _ (B M L : List ℕ) where
  pub not_empty : (length B + length M + length L ≡ 0 → ⊥) → false ≡ is_empty (dict_at B M L)
  unfolding is_empty
  not_empty h = sym (ne_eqb (length B + length M + length L) 0 h)

  pub no_bytes : (b : Bool) → b ≡ eqb (length B) 0 → b ≡ false → false ≡ is_empty (dict_at B M L)
  no_bytes b e f = not_empty (λ z. absurd (let q = sym e ∙ f in let r : eqb (length B) 0 ≡ true = eq-eqb (length B) 0 (omega arith) in cc))

  pub no_middles : (b : Bool) → b ≡ eqb (length M) 0 → b ≡ false → false ≡ is_empty (dict_at B M L)
  no_middles b e f = not_empty (λ z. absurd (let q = sym e ∙ f in let r : eqb (length M) 0 ≡ true = eq-eqb (length M) 0 (omega arith) in cc))

  pub last_empty : (a b : Bool) → a ≡ eqb (length B) 0 → a ≡ true → b ≡ eqb (length M) 0 → b ≡ true → eqb (length L) 0 ≡ is_empty (dict_at B M L)
  unfolding is_empty
  last_empty a b e f g h =
      let u : length L ≡ length B + length M + length L =
      omega (arith, eqb-true (length B) 0 (sym e ∙ f), eqb-true (length M) 0 (sym g ∙ h)) in
      ap (λ (k : ℕ). eqb k 0) u

-- the byte size
pub size_is : (e : Entries) → or_broken (limit (some (e.bytes + 4 * e.middle + 16 * e.large))) ≡ dict_size e
unfolding dict_size sized limit or_broken
size_is e = go (e.bytes + 4 * e.middle + 16 * e.large) (dec_lt (e.bytes + 4 * e.middle + 16 * e.large) (2 ^ 64))
  where
    go : (n : ℕ) → Dec (n < 2 ^ 64) → or_broken (limit (some n)) ≡ sized n
    go n (yes h) = ap or_broken (if_true _ _ (lt-ltb n (2 ^ 64) h)) ∙ sym (if_true _ _ (lt-ltb n (2 ^ 64) h))
    go n (no h) = ap or_broken (if_false _ _ (le-ltb n (2 ^ 64) (omega arith))) ∙ sym (if_false _ _ (le-ltb n (2 ^ 64) (omega arith)))
