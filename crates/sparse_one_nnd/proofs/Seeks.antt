-- "the entry before the first whose rank exceeds r - 1": the loop over the entries, at any width.
use mathlib.Core.Path.{◌≡◌, refl, sym, ap, ◌∙◌}
use mathlib.Core.List.{List, [], ◌∷◌}
use Prim.Native.Nat.{ℕ, suc, pred, min, ◌+◌, ◌*◌, ◌-◌, ◌/◌, ◌≤◌, ◌<◌}
use native.Mathlib.Decide.{dec_lt}
use native.Mathlib.Omega.{arith}
use lib.ListN.{length, get_or, take, drop, length-drop}
use lib.Seq.{take_all}
use borrow.Author.Tests.{lt-ltb, le-ltb}
use Rattle.meaning.specs.Dictionary.{before}
use Rattle.meaning.proofs.If.{if_true, if_false}
use Rattle.std.specs.Prelude.{map}
use Rattle.std.proofs.lemmas.List.{map-id, length-map, get_or-map}
use Rattle.sparse_one_nnd.proofs.Lists.{two, past_rest}

pub record Seeking (q : ℕ) (E : List ℕ) (i : ℕ) : Type 0 where
  pub within : i ≤ length E / 2
  pub same : i + before 0 q (drop (2 * i) E) ≡ before 0 q E

pub seek_start : (q : ℕ) (E : List ℕ) → Seeking q E 0
seek_start q E = record { within = omega arith; same = omega arith }

short : (q : ℕ) (E : List ℕ) → length E < 2 → before 0 q E ≡ 0
unfolding before
short q [] h = refl
short q (a ∷ []) h = refl
short q (a ∷ b ∷ E) h = absurd (omega arith)

module _ {q : ℕ} {E : List ℕ} {i : ℕ} (s : Seeking q E i) where
  pub seek_end : length E / 2 ≤ i → i ≡ before 0 q E
  seek_end h = omega (arith, s.same, short q (drop (2 * i) E) (omega (arith, length-drop (2 * i) E)))

  module _ (k : ℕ) (e : k ≡ get_or E (2 * i + 1) 0) (h : i < length E / 2) where
    pub seek_stop : q ≤ k → i ≡ before 0 q E
    unfolding before
    seek_stop t = omega (arith, s.same, here)
      where
        here : before 0 q (drop (2 * i) E) ≡ 0
        here = ap (before 0 q) (two E i h) ∙ if_false _ _ (le-ltb (0 + get_or E (2 * i + 1) 0) q (omega arith))

    pub seek_on : k < q → Seeking q E (i + 1)
    unfolding before
    seek_on t = record { within = omega arith; same = omega (arith, s.same, here) }
      where
        here : before 0 q (drop (2 * i) E) ≡ suc (before 0 q (drop (2 * (i + 1)) E))
        here = ap (before 0 q) (two E i h) ∙ if_true _ _ (lt-ltb (0 + get_or E (2 * i + 1) 0) q (omega arith))

-- ranks relative to a large entry's
pub before_less : (b r : ℕ) (E : List ℕ) → b < r → before b r E ≡ before 0 (r - b) E
unfolding before
before_less b r [] h = refl
before_less b r (p ∷ []) h = refl
before_less b r (p ∷ k ∷ E) h = go (dec_lt (b + k) r) (before_less b r E h)
  where
    go : Dec (b + k < r) → before b r E ≡ before 0 (r - b) E → before b r (p ∷ k ∷ E) ≡ before 0 (r - b) (p ∷ k ∷ E)
    go (yes t) ih = if_true _ _ (lt-ltb (b + k) r t) ∙ ap suc ih ∙ sym (if_true _ _ (lt-ltb (0 + k) (r - b) (omega arith)))
    go (no t) ih = if_false _ _ (le-ltb (b + k) r (omega arith)) ∙ sym (if_false _ _ (le-ltb (0 + k) (r - b) (omega arith)))

-- the middle entry, found in the 64 numbers of large entry g, or what there are of them
pub middle_is : (M R : List ℕ) (g q n k p : ℕ) → R ≡ take (length M - 64 * g) (drop (64 * g) M) → k ≡ min (length R) 64 → n ≡ before 0 q (map (λ x. x) (take k R)) → p ≡ n - 1
    → 32 * g + p ≡ 32 * g + pred (before 0 q (take 64 (drop (64 * g) M)))
middle_is M R g q n k p r f e h =
    ap (λ (k : ℕ). 32 * g + k) (h ∙ ap (λ (n : ℕ). n - 1) (e ∙ ap (before 0 q) (map-id (take k R) ∙ front ∙ ap (take 64) (r ∙ past_rest M (64 * g)))) ∙ less (before 0 q (take 64 (drop (64 * g) M))))
  where
    front : take k R ≡ take 64 R
    front = go (dec_lt (length R) 64)
      where
        go : Dec (length R < 64) → take k R ≡ take 64 R
        go (yes t) = take_all k R (omega arith) ∙ sym (take_all 64 R (omega arith))
        go (no t) = let u : k ≡ 64 = omega arith in ap (λ (k : ℕ). take k R) u

    less : (n : ℕ) → n - 1 ≡ pred n
    less n = omega arith

-- at elements of any type, by their numbers
module _ {A : Type 0} (f : A → ℕ) (E : List A) where
  pub item_number : (i k : ℕ) (x : A) → i < length E / 2 → x ≡ get_or E (2 * i + 1) x → k ≡ f x → k ≡ get_or (map f E) (2 * i + 1) 0
  item_number i k x h u e = e ∙ ap f u ∙ sym (get_or-map f E (2 * i + 1) x 0 (omega arith))

  pub as_many : length (map f E) / 2 ≡ length E / 2
  as_many = ap (λ (n : ℕ). n / 2) (length-map E f)
