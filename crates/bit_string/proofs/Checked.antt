-- get and the byte size behind the test of the length; a longer or a shorter string.
use mathlib.Core.Path.{◌≡◌, refl, ap, ap₂, ◌∙◌}
use mathlib.Core.Bool.{Bool, not, true, false}
use mathlib.Core.List.{List}
use Prim.Native.Nat.{ℕ, ◌+◌, ◌-◌, ◌*◌, ◌^◌, ◌≤◌, ◌<◌, min, max}
use native.Mathlib.Decide.{dec_lt}
use native.Mathlib.Omega.{arith}
use lib.Dec.{leb}
use lib.ListN.{length}
use Rattle.meaning.specs.Answers.{is, nothing, refused, room, Refusal}
use Rattle.meaning.specs.Bits.{as_bit, bit_at, stored, cleared, word_count}
use Rattle.meaning.specs.BitString.{edited, string_get, string_size, string_push, string_resize}
use Rattle.meaning.proofs.BitString.{get_past, get_held, size_held, push_longest, push_room, push_held, resize_shrink, resize_grow}
use Rattle.ops.specs.Asked.{checked}
use Rattle.ops.proofs.Asked.{checked_refused, checked_passed}

module _ (ws : List ℕ) (n : ℕ) where
  pub get_refused : (i : ℕ) (e : Refusal) → refused e ≡ checked ws n → refused e ≡ string_get ws n i
  unfolding string_get
  get_refused i e q = checked_refused ws n e q _

  pub size_refused : (e : Refusal) → refused e ≡ checked ws n → refused e ≡ string_size ws n
  unfolding string_size
  size_refused e q = checked_refused ws n e q _

  module _ (m : ℕ) (q : is m ≡ checked ws n) where
    pub get_none : (i : ℕ) → m ≤ i → nothing ≡ string_get ws n i
    get_none i l = let h = checked_passed ws n m q in get_past ws n i h.0 refl (omega (arith, h.1))

    pub get_bit : (i : ℕ) → i < m → (b : Bool) → b ≡ bit_at ws i → is (as_bit b) ≡ string_get ws n i
    get_bit i l b e = let h = checked_passed ws n m q in get_held ws n i h.0 refl (omega (arith, h.1)) e

    pub size_known : m < 2 ^ 64 → (k : ℕ) → k ≡ word_count m → is (8 * k) ≡ string_size ws n
    size_known l k e = let h = checked_passed ws n m q in size_held ws n h.0 refl (omega (arith, h.1)) (e ∙ ap word_count h.1)

-- a string of one bit more
module _ (ws : List ℕ) (n : ℕ) (b : Bool) {t : Bool} (e : t ≡ leb n (64 * length ws)) (h : not t ≡ false) where
  pub no_longer : n < 2 ^ 64 → (n + 1 < 2 ^ 64 → ⊥) → edited (refused (room 0)) ws ≡ string_push ws n b
  no_longer l g = push_longest ws n e b h (omega (arith, g))

  module _ (m : ℕ) (q : (n + 1 < 2 ^ 64) × (m ≡ n + 1)) {u : Bool} (f : u ≡ leb m (64 * length ws)) where
    same : u ≡ leb (n + 1) (64 * length ws)
    same = f ∙ ap (λ k. leb k (64 * length ws)) q.1

    pub longer_room : not u ≡ true → edited (refused (room 0)) ws ≡ string_push ws n b
    longer_room g = push_room ws n e b h same g

    pub longer_held : not u ≡ false → {vs : List ℕ} → vs ≡ stored ws n b → edited (is m) vs ≡ string_push ws n b
    longer_held g {vs} r = ap (λ k. edited (is k) vs) q.1 ∙ push_held ws n e b h same g (omega (arith, q.0)) (λ z. omega (arith, q.0)) r

-- the length made m, whichever is the longer
pub resize_to : (ws vs : List ℕ) (n m : ℕ) {t : Bool} → t ≡ leb n (64 * length ws) → not t ≡ false → {u : Bool} → u ≡ leb m (64 * length ws) → not u ≡ false
    → vs ≡ cleared ws (min n m) (max n m - min n m) → edited (is m) vs ≡ string_resize ws n m
resize_to ws vs n m e h f g q = go (dec_lt m n)
  where
    go : Dec (m < n) → edited (is m) vs ≡ string_resize ws n m
    go (yes l) =
        let a : min n m ≡ m = omega arith in
        let b : max n m - min n m ≡ n - m = omega arith in
        resize_shrink ws n e m h f g l (q ∙ ap₂ (cleared ws) a b)
    go (no l) =
        let a : min n m ≡ n = omega arith in
        let b : max n m - min n m ≡ m - n = omega arith in
        resize_grow ws n e m h f g (omega arith) (q ∙ ap₂ (cleared ws) a b)
