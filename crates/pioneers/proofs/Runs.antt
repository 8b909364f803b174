-- Far pairs in the order of their closes: those alike come one after the other, the outermost last.
use mathlib.Core.Path.{◌≡◌, sym, ◌∙◌, subst}
use mathlib.Core.Logic.{◌⊎◌, inl, inr}
use Prim.Native.Nat.{ℕ, ◌/◌, ◌≤◌, ◌<◌}
use native.Mathlib.Decide.{dec_lt}
use native.Mathlib.Omega.{arith}
use Rattle.meaning.proofs.Match.{Matched, unique, nested, same_close}
use Rattle.meaning.proofs.Pioneers.{Pioneer}

abbrev pub Far : ℕ → ℕ → Type 0
Far p c = ¬ (p / 64 ≡ c / 64)

pub tri : (a b : ℕ) → (a < b) ⊎ (a ≡ b) ⊎ (b < a)
tri a b = elim (dec_lt a b) [ yes h ↦ inl h | no h ↦ elim (dec_lt b a) [ yes g ↦ inr (inr g) | no g ↦ inr (inl (omega arith)) ] ]

module _ (D : ℕ → ℕ) (n : ℕ) where
  -- no place is both an open and a close
  not_both : (p c d : ℕ) → Matched D n p c → Matched D n c d → ⊥
  not_both p c d m m' = omega (arith, m.aft, m'.fore, m.above c m.after (omega arith))

  -- of two pairs, of which the second closes later, the first opens before the second or lies inside it
  pub later : (o c p i : ℕ) → Matched D n o c → Matched D n p i → c < i → (c < p) ⊎ (p < o)
  later o c p i m m' h = go (tri p o) (tri p c)
    where
      go : (p < o) ⊎ (p ≡ o) ⊎ (o < p) → (p < c) ⊎ (p ≡ c) ⊎ (c < p) → (c < p) ⊎ (p < o)
      go (inl a) y = inr a
      go (inr (inl a)) y = absurd (omega (arith, unique D n p i c m' (subst (λ x. Matched D n x c) (sym a) m)))
      go (inr (inr a)) (inl b) = absurd (omega (arith, nested D n o c p i m m' a b))
      go (inr (inr a)) (inr (inl b)) = absurd (not_both o c i m (subst (λ x. Matched D n x i) b m'))
      go (inr (inr a)) (inr (inr b)) = inl b

  -- a far pair that closes later and is alike opens before
  pub outside : (o c p i : ℕ) → Matched D n o c → Matched D n p i → c < i → Far o c → p / 64 ≡ o / 64 → p < o
  outside o c p i m m' h far e = go (later o c p i m m' h)
    where
      go : (c < p) ⊎ (p < o) → p < o
      go (inl a) = absurd (omega (arith, m.after, far))
      go (inr a) = a

  -- the pending pair (o, c), and the next far pair (p, i)
  module _ (o c p i : ℕ) (m : Matched D n o c) (m' : Matched D n p i) (h : c < i) (far : Far o c) (far' : Far p i) where
    -- alike: the pending one is not the outermost
    pub not_outermost : o / 64 ≡ p / 64 → c / 64 ≡ i / 64 → Pioneer D n o c → ⊥
    not_outermost e f w = omega (arith, w.outermost p i m' (sym e) (sym f), outside o c p i m m' h far (sym e))

    -- a pair alike to the pending one that closes after i: then the next pair is alike too
    between : (q d : ℕ) → Matched D n q d → q / 64 ≡ o / 64 → d / 64 ≡ c / 64 → i < d → (o / 64 ≡ p / 64) × (c / 64 ≡ i / 64)
    between q d k e f g = go (later o c p i m m' h) (later p i q d m' k g)
      where
        go : (c < p) ⊎ (p < o) → (i < q) ⊎ (q < p) → (o / 64 ≡ p / 64) × (c / 64 ≡ i / 64)
        go (inl a) y = absurd (far' (omega (arith, m'.after)))
        go (inr a) (inl b) = absurd (omega (arith, m.after, far))
        go (inr a) (inr b) = (omega arith, omega arith)

    pub is_outermost : ((q d : ℕ) → Matched D n q d → Far q d → d < i → d ≤ c) → ((o / 64 ≡ p / 64) × (c / 64 ≡ i / 64) → ⊥) → Pioneer D n o c
    is_outermost last apart = record { pair = m; far = far; outermost = λ q d k e f. omega (arith, no_less q d k e f) }
      where
        no_less : (q d : ℕ) → Matched D n q d → q / 64 ≡ o / 64 → d / 64 ≡ c / 64 → ¬ (q < o)
        no_less q d k e f l = go (tri d i)
          where
            far_q : Far q d
            far_q x = far (sym e ∙ x ∙ f)

            past : c < d
            past = nested D n q d o c k m l (omega (arith, m.after, far))

            go : (d < i) ⊎ (d ≡ i) ⊎ (i < d) → ⊥
            go (inl a) = omega (arith, last q d k far_q a, past)
            go (inr (inl a)) =
                let s : p ≡ q = same_close D n p q i m' (subst (λ x. Matched D n q x) a k) in
                apart (omega arith, omega arith)
            go (inr (inr a)) = apart (between q d k e f a)

  -- the last far pair of all
  pub last_outermost : (o c : ℕ) → Matched D n o c → Far o c → ((q d : ℕ) → Matched D n q d → Far q d → d < n → d ≤ c) → Pioneer D n o c
  last_outermost o c m far last =
      record {
        pair = m;
        far = far;
        outermost = λ q d k e f. omega (arith, no_less q d k e f);
      }
    where
      no_less : (q d : ℕ) → Matched D n q d → q / 64 ≡ o / 64 → d / 64 ≡ c / 64 → ¬ (q < o)
      no_less q d k e f l =
          omega (arith, last q d k (λ x. far (sym e ∙ x ∙ f)) k.inside, nested D n q d o c k m l (omega (arith, m.after, far)))
