-- The close by steps is the matching close: close_at over the tower finds close_of.
use mathlib.Core.Path.{◌≡◌, refl, ap, ◌∙◌, subst}
use mathlib.Core.Bool.{Bool, true, false}
use mathlib.Core.Option.{Option, none, some}
use mathlib.Core.Logic.{◌⊎◌, inl, inr}
use mathlib.Core.List.{List, [], ◌∷◌}
use Prim.Native.Nat.{ℕ, zero, suc, ◌+◌, ◌*◌, ◌-◌, ◌/◌, ◌%◌, ◌^◌, ◌≤◌, ◌<◌}
use native.Mathlib.Decide.{ℕ_discrete, dec_le}
use native.Mathlib.Nat.{eq-or-lt_of_le}
use native.Mathlib.Omega.{arith}
use lib.ListN.{length, get_or}
use borrow.Author.Tests.{lt-ltb, le-leb, lt-leb, eq-eqb}
use Rattle.meaning.specs.Answers.{is}
use Rattle.meaning.specs.Bits.{opens}
use Rattle.meaning.specs.Match.{close_of}
use Rattle.meaning.specs.Pioneers.{flags, pioneer_string}
use Rattle.meaning.specs.Dictionary.{Dict, dict_of, pred_of}
use Rattle.meaning.specs.Family.{Level, no_dict, tower, Fits}
use Rattle.meaning.specs.Close.{in_word, excess, left_from, from_close, and_then, found, test, less, family_close, far_close, close_at}
use Rattle.meaning.proofs.If.{clash, bit, if_true, if_false, and_true}
use Rattle.meaning.proofs.Tab.{opens_closes}
use Rattle.meaning.proofs.Match.{Matched, unique, nested}
use Rattle.meaning.proofs.String.{Walk}
use Rattle.meaning.proofs.Depth.{O, depth, up, down}
use Rattle.meaning.proofs.Count.{Last, last_one, O-true}
use Rattle.meaning.proofs.Rank.{rank_of_lem}
use Rattle.meaning.proofs.Select.{select_at}
use Rattle.meaning.proofs.Pioneers.{Pioneer, Outer, outer, last_flag}
use Rattle.meaning.proofs.Flag.{matched, opening, dec, flag_sound, flag_complete}
use Rattle.meaning.proofs.Keep.{length_keep}
use Rattle.meaning.proofs.Up.{closing, length_flags, flag_open, flag_close, up_walk, up_matched, up_bit}
use Rattle.meaning.proofs.Left.{left_finds}

module _ (l : List Bool) (w : Walk 0 l 0) (p c : ℕ) (m : Matched (depth l) (length l) p c) where
  -- at place i, p's pair still open and d opens more: it is no close of p's, or it is c
  rise_at : (i d : ℕ) → i ≤ c → depth l i ≡ suc (depth l p) + d → get_or l i false ≡ true → (suc i ≤ c) × (depth l (suc i) ≡ suc (depth l p) + suc d)
  rise_at i d h e t = (omega (arith, not_c), omega (arith, up l w i (omega (arith, m.inside)) t))
    where
      not_c : ¬ (i ≡ c)
      not_c z = clash t (ap (λ j. get_or l j false) z ∙ closing l w p c m)

  fall_at : (i d : ℕ) → i ≤ c → depth l i ≡ suc (depth l p) + suc d → get_or l i false ≡ false → (suc i ≤ c) × (depth l (suc i) ≡ suc (depth l p) + d)
  fall_at i d h e t = (omega (arith, not_c), omega (arith, down l w i (omega (arith, m.inside)) t))
    where
      not_c : ¬ (i ≡ c)
      not_c z = omega (arith, down l w i (omega (arith, m.inside)) t, ap (λ j. depth l (suc j)) z, m.aft)

  close_here : (i : ℕ) → i ≤ c → p < i → depth l i ≡ suc (depth l p) + 0 → get_or l i false ≡ false → i ≡ c
  close_here i h k e t = go (eq-or-lt_of_le h)
    where
      go : (i ≡ c) ⊎ (i < c) → i ≡ c
      go (inl z) = z
      go (inr z) = absurd (omega (arith, down l w i (omega (arith, m.inside)) t, m.above (suc i) (omega arith) z))

  in_word_lem : (k i d : ℕ) → p < i → i ≤ c → depth l i ≡ suc (depth l p) + d → c < i + k → in_word l d i k ≡ some c
  unfolding in_word
  in_word_lem zero i d a b e h = absurd (omega arith)
  in_word_lem (suc k) i d a b e h = go (bit (get_or l i false)) d e (in_word_lem k (suc i))
    where
      go : (get_or l i false ≡ true) ⊎ (get_or l i false ≡ false) → (d : ℕ) → depth l i ≡ suc (depth l p) + d
          → ((d : ℕ) → p < suc i → suc i ≤ c → depth l (suc i) ≡ suc (depth l p) + d → c < suc i + k → in_word l d (suc i) k ≡ some c)
          → in_word l d i (suc k) ≡ some c
      go (inl t) d e ih = let r = rise_at i d b e t in if_true _ _ t ∙ ih (suc d) (omega arith) r.0 r.1 (omega arith)
      go (inr t) zero e ih = if_false _ _ t ∙ ap some (close_here i b a e t)
      go (inr t) (suc d) e ih = let r = fall_at i d b e t in if_false _ _ t ∙ ih d (omega arith) r.0 r.1 (omega arith)

  past_word : (k i d : ℕ) → p < i → depth l i ≡ suc (depth l p) + d → i + k ≤ c → in_word l d i k ≡ none
  unfolding in_word
  past_word zero i d a e h = refl
  past_word (suc k) i d a e h = go (bit (get_or l i false)) d e (past_word k (suc i))
    where
      go : (get_or l i false ≡ true) ⊎ (get_or l i false ≡ false) → (d : ℕ) → depth l i ≡ suc (depth l p) + d
          → ((d : ℕ) → p < suc i → depth l (suc i) ≡ suc (depth l p) + d → suc i + k ≤ c → in_word l d (suc i) k ≡ none)
          → in_word l d i (suc k) ≡ none
      go (inl t) d e ih = let r = rise_at i d (omega arith) e t in if_true _ _ t ∙ ih (suc d) (omega arith) r.1 (omega arith)
      go (inr t) zero e ih = absurd (omega (arith, close_here i (omega arith) a e t))
      go (inr t) (suc d) e ih = let r = fall_at i d (omega arith) e t in if_false _ _ t ∙ ih d (omega arith) r.1 (omega arith)

  start : depth l (suc p) ≡ suc (depth l p) + 0
  start = omega (arith, m.fore)

  -- a near pair
  near : (d : Dict) (ups : List Level) → p / 64 ≡ c / 64 → close_at (record { bits = l; dict = d } ∷ ups) p ≡ some c
  unfolding close_at test
  near d ups z =
      rw (
        opening l w p c m,
        in_word_lem (63 - p % 64) (suc p) 0 (omega arith) m.after start (omega (arith, m.after)),
        lt-ltb c (length l) m.inside,
      )

  -- a far one
  far : (d : Dict) (ups : List Level) → ¬ (p / 64 ≡ c / 64)
      → close_at (record { bits = l; dict = d } ∷ ups) p ≡ far_close (record { bits = l; dict = d }) (λ i. close_at ups i) p
  unfolding close_at test
  far d ups z = rw (opening l w p c m, past_word (63 - p % 64) (suc p) 0 (omega arith) start (omega (arith, m.after)))

-- opens less closes from i up to before p, from q on never below that at q
excess_is : (l : List Bool) (w : Walk 0 l 0) (p q : ℕ) → p ≤ length l → ((j : ℕ) → q ≤ j → j ≤ p → depth l q ≤ depth l j)
    → (k i d : ℕ) → q ≤ i → i + k ≡ p → depth l i ≡ depth l q + d → excess l d i k ≡ some (depth l p - depth l q)
unfolding excess
excess_is l w p q n low zero i d h s e = let u : i ≡ p = omega arith in ap some (omega (arith, ap (depth l) u))
excess_is l w p q n low (suc k) i d h s e = go (bit (get_or l i false)) d e (excess_is l w p q n low k (suc i))
  where
    go : (get_or l i false ≡ true) ⊎ (get_or l i false ≡ false) → (d : ℕ) → depth l i ≡ depth l q + d
        → ((d : ℕ) → q ≤ suc i → suc i + k ≡ p → depth l (suc i) ≡ depth l q + d → excess l d (suc i) k ≡ some (depth l p - depth l q))
        → excess l d i (suc k) ≡ some (depth l p - depth l q)
    go (inl t) d e ih = if_true _ _ t ∙ ih (suc d) (omega arith) (omega arith) (omega (arith, up l w i (omega arith) t))
    go (inr t) zero e ih = absurd (omega (arith, down l w i (omega arith) t, low (suc i) (omega arith) (omega arith)))
    go (inr t) (suc d) e ih = if_false _ _ t ∙ ih d (omega arith) (omega arith) (omega (arith, down l w i (omega arith) t))

-- the walk to the left is made where d is above 0
left_of : (l : List Bool) (d c : ℕ) → 0 < d → from_close l d c ≡ left_from l (c / 64 * 64) d (c % 64) 0 none
unfolding from_close
left_of l zero c h = absurd (omega arith)
left_of l (suc d) c h = refl

-- a string whose length a u64 holds has no more flags, and no longer a pioneer string
flags_small : (l : List Bool) → length l < 2 ^ 64 → length (flags l) < 2 ^ 64
flags_small l h = omega (arith, length_flags l)

up_small : (l : List Bool) → length l < 2 ^ 64 → length (pioneer_string l) < 2 ^ 64
unfolding pioneer_string
up_small l h = omega (arith, length_keep (flags l) l (length_flags l), opens_closes (flags l), length_flags l)

ones_small : (f : List Bool) → length f < 2 ^ 64 → opens f < 2 ^ 64
ones_small f h = omega (arith, opens_closes f)

pred_of_lem : (f : List Bool) (p : ℕ) (r : Last f p) → length f < 2 ^ 64 → pred_of (dict_of f) p ≡ is r.at
unfolding pred_of O
pred_of_lem f p r small = rw (rank_of_lem f p (ones_small f small), pred_of, r.count) (select_at f r.at small r.one)

-- the family's close of a flagged q, whose close c is flagged, if the pioneer string's is found
family : (f : List Bool) (ups : ℕ → Option ℕ) (q c : ℕ) → length f < 2 ^ 64 → get_or f q false ≡ true → get_or f c false ≡ true → ups (O f q) ≡ some (O f c)
    → family_close (dict_of f) ups q ≡ some c
unfolding family_close and_then less found O
family f ups q c small a b e = rw (rank_of_lem f q (ones_small f small), O-true f q a, e, select_at f c small b)

-- the far close by the family: q is the last flagged place at or before p, and c' its close
module _ (l : List Bool) (w : Walk 0 l 0) (small : length l < 2 ^ 64) (p c : ℕ) (m : Matched (depth l) (length l) p c) (z : ¬ (p / 64 ≡ c / 64))
    (ups : ℕ → Option ℕ) (ih : (q d : ℕ) → Pioneer (depth l) (length l) q d → ups (O (flags l) q) ≡ some (O (flags l) d)) where
  last : Last (flags l) p
  last = go (outer (depth l) (length l) (dec l w) p c m z)
    where
      go : Outer (depth l) (length l) (dec l w) p c → Last (flags l) p
      go o =
          last_one (flags l) p o.q o.at_most (omega (arith, length_flags l, m.after, m.inside))
          (flag_open l w o.q o.d o.pioneer)

  module _ (q c' : ℕ) (k : Pioneer (depth l) (length l) q c') (le : q ≤ p) (fore : q / 64 ≡ p / 64) (aft : c' / 64 ≡ c / 64) where
    over : (j : ℕ) → q ≤ j → j ≤ p → depth l q ≤ depth l j
    over j a b = go (eq-or-lt_of_le a)
      where
        go : (q ≡ j) ⊎ (q < j) → depth l q ≤ depth l j
        go (inl e) = omega (arith, ap (depth l) e)
        go (inr h) = omega (arith, k.pair.above j h (omega (arith, k.pair.after, m.after)))

    count : excess l 0 q (p - q) ≡ some (depth l p - depth l q)
    count = excess_is l w p q (omega (arith, m.after, m.inside)) over (p - q) q 0 (omega arith) (omega arith) (omega arith)

    ends : from_close l (depth l p - depth l q) c' ≡ some c
    unfolding from_close
    ends = go (eq-or-lt_of_le le)
      where
        go : (q ≡ p) ⊎ (q < p) → from_close l (depth l p - depth l q) c' ≡ some c
        go (inl e) =
            let u : depth l p - depth l q ≡ 0 = omega (arith, ap (depth l) e) in
            rw u (ap some (unique (depth l) (length l) p c' c (subst (λ i. Matched (depth l) (length l) i c') e k.pair) m))
        go (inr h) =
            left_of l (depth l p - depth l q) c' (omega (arith, k.pair.above p h (omega (arith, m.after))))
            ∙ left_finds l (depth l) (length l) (up l w) (down l w) p c q c' m k.pair h
            (nested (depth l) (length l) q c' p c k.pair m h (omega (arith, m.after)))
            (c' / 64 * 64)
            (omega (arith, m.after))
            (omega arith)
            (c' % 64)
            (omega arith)

    steps : (r : Last (flags l) p) → r.at ≡ q → far_close (record { bits = l; dict = dict_of (flags l) }) ups p ≡ some c
    unfolding far_close and_then found test
    steps r e =
        rw (
          pred_of_lem (flags l) p r (flags_small l small),
          e,
          and_true (le-leb q p le) (eq-eqb (q / 64) (p / 64) fore),
          family (flags l) ups q c' (flags_small l small) (flag_open l w q c' k) (flag_close l w q c' k) (ih q c' k),
          lt-ltb c' (length l) k.pair.inside,
          count,
        )
        ends

  far_close_lem : far_close (record { bits = l; dict = dict_of (flags l) }) ups p ≡ some c
  far_close_lem =
      let r = last_flag (depth l) (length l) (dec l w) p c last.at m z (flag_sound l w last.at last.one) last.low
      (λ g f h. last.last g (flag_complete l w g f) h) in
      steps last.at r.d r.pioneer last.low r.fore r.aft last refl

-- THE END: at every open place of a balanced string the steps find the close
pub close_steps : (k : ℕ) (l : List Bool) → Walk 0 l 0 → length l < 2 ^ 64 → Fits k l → (p : ℕ) → get_or l p false ≡ true → close_at (tower k l) p ≡ some (close_of l p)
unfolding tower Fits pioneer_string
close_steps zero l w small fit p e = near l w p (close_of l p) (matched l w p e) no_dict [] (omega (arith, (matched l w p e).after, (matched l w p e).inside))
close_steps (suc k) l w small fit p e = go (dec_le (length l) 64) (close_steps k (pioneer_string l) (up_walk l w) (up_small l small))
  where
    c : ℕ
    c = close_of l p

    m : Matched (depth l) (length l) p c
    m = matched l w p e

    ups : List Level
    ups = tower k (pioneer_string l)

    open_up : (q d : ℕ) → Pioneer (depth l) (length l) q d → get_or (pioneer_string l) (O (flags l) q) false ≡ true
    open_up q d k = up_bit l w q (flag_open l w q d k) ∙ opening l w q d k.pair

    close_up : (q d : ℕ) → Pioneer (depth l) (length l) q d → close_of (pioneer_string l) (O (flags l) q) ≡ O (flags l) d
    close_up q d k =
        unique (depth (pioneer_string l)) (length (pioneer_string l)) (O (flags l) q) _ _
        (matched (pioneer_string l) (up_walk l w) (O (flags l) q) (open_up q d k))
        (up_matched l w q d k)

    blocks : Dec (p / 64 ≡ c / 64) → ((q d : ℕ) → Pioneer (depth l) (length l) q d → close_at ups (O (flags l) q) ≡ some (O (flags l) d))
        → close_at (record { bits = l; dict = dict_of (flags l) } ∷ ups) p ≡ some c
    blocks (yes z) ih = near l w p c m (dict_of (flags l)) ups z
    blocks (no z) ih = far l w p c m (dict_of (flags l)) ups z ∙ far_close_lem l w small p c m z (λ i. close_at ups i) ih

    go : Dec (length l ≤ 64)
        → (Fits k (pioneer_string l) → (p : ℕ) → get_or (pioneer_string l) p false ≡ true → close_at ups p ≡ some (close_of (pioneer_string l) p))
        → close_at (tower (suc k) l) p ≡ some c
    go (yes h) ih =
        ap (λ t. close_at t p) (if_true _ _ (le-leb (length l) 64 h))
        ∙ near l w p c m no_dict [] (omega (arith, m.after, m.inside))
    go (no h) ih =
        ap (λ t. close_at t p) (if_false _ _ (lt-leb (length l) 64 (omega arith)))
        ∙ blocks (ℕ_discrete (p / 64) (c / 64)) (λ q d k. ih (fit (omega arith)) (O (flags l) q) (open_up q d k) ∙ ap some (close_up q d k))
