-- The parent by looking back, and the node lines one after another.
use mathlib.Core.Path.{◌≡◌, refl, sym, ap, ◌∙◌}
use mathlib.Core.List.{List, [], ◌∷◌, ◌++◌, append_assoc, append-nil}
use Prim.Native.Nat.{ℕ, zero, suc, ◌+◌, ◌-◌, ◌<◌, ◌≤◌}
use native.Mathlib.Nat.{zero-add}
use native.Mathlib.Numerals.{add-one}
use native.Mathlib.Omega.{arith}
use lib.ListN.{length, get_or, get_or-eq_default}
use Rattle.meaning.specs.Bits.{tab}
use Rattle.meaning.specs.Kin.{lower, parent}
use Rattle.meaning.specs.Areas.{joined}
use Rattle.meaning.specs.Listing.{node_text, nodes_text}
use Rattle.meaning.proofs.Tab.{tab_add, tab_snoc}
use Rattle.meaning.proofs.Parent.{lower_same, lower_here}
use Rattle.listing.specs.Said.{Puts}
use Rattle.std.specs.Prelude.{Option, None, Some}
use Rattle.listing.proofs.Putting.{next, halted, spelt, told, none_put, same_size}

-- no level is lower than 0
lower_none : (vs : List ℕ) (j : ℕ) → lower vs 0 j ≡ 0
unfolding lower
lower_none vs zero = refl
lower_none vs (suc j) = lower_same vs 0 j (omega arith) ∙ lower_none vs j

module _ (vs : List ℕ) (k : ℕ) where
  pub parent_past : length vs ≤ k → 0 ≡ parent vs k
  unfolding parent
  parent_past h = sym (ap (λ v. lower vs v k) (get_or-eq_default vs 0 h) ∙ lower_none vs k)

  -- nothing lower from place j on up to k
  pub record Back (v j : ℕ) : Type 0 where
    pub within : j ≤ k
    pub inside : k < length vs
    pub is : parent vs k ≡ lower vs v j

  pub back_start : k < length vs → Back (get_or vs k 0) k
  unfolding parent
  back_start h = record { within = omega arith; inside = h; is = refl }

  module _ {v j : ℕ} (b : Back v j) (more : 0 < j) where
    here : j ≡ suc (j - 1)
    here = omega arith

    pub back_more : v ≤ get_or vs (j - 1) 0 → Back v (j - 1)
    back_more h =
        let w = b.within in
        record { within = omega arith; inside = b.inside; is = b.is ∙ ap (lower vs v) here ∙ lower_same vs v (j - 1) h }

    pub back_found : get_or vs (j - 1) 0 < v → j - 1 + 1 ≡ parent vs k
    back_found h =
        let w : j - 1 + 1 ≡ j = omega arith in
        w ∙ sym (b.is ∙ ap (lower vs v) here ∙ lower_here vs v (j - 1) h ∙ sym here)

  pub back_none : {v j : ℕ} → Back v j → j ≤ 0 → 0 ≡ parent vs k
  unfolding lower
  back_none {v} {j} b h = let e : j ≡ 0 = omega arith in sym (b.is ∙ ap (lower vs v) e)

joined_append {ℓ} : {A : Type ℓ} (xs ys : List (List A)) → joined (xs ++ ys) ≡ joined xs ++ joined ys
unfolding joined
joined_append [] ys = refl
joined_append (x ∷ xs) ys = ap (λ t. x ++ t) (joined_append xs ys) ∙ sym (append_assoc x (joined xs) (joined ys))

module _ (vs bs : List ℕ) (f : ℕ → ℕ) where
  nodes_suc : (k : ℕ) → nodes_text vs bs f (k + 1) ≡ nodes_text vs bs f k ++ node_text vs bs f k
  unfolding nodes_text joined
  nodes_suc k =
      let t = node_text vs bs f in
      ap (λ n. joined (tab t 0 n)) (add-one k)
      ∙ ap joined (tab_snoc t 0 k)
      ∙ joined_append (tab t 0 k) (t (0 + k) ∷ [])
      ∙ ap (λ x. joined (tab t 0 k) ++ x) (append-nil (t (0 + k)) ∙ ap t (zero-add k))

  nodes_split : (i n : ℕ) → i ≤ n → nodes_text vs bs f n ≡ nodes_text vs bs f i ++ joined (tab (node_text vs bs f) i (n - i))
  unfolding nodes_text
  nodes_split i n h =
      let t = node_text vs bs f in
      let e : n ≡ i + (n - i) = omega arith in
      ap (λ m. joined (tab t 0 m)) e
      ∙ ap joined (tab_add t 0 i (n - i) ∙ ap (λ j. tab t 0 i ++ tab t j (n - i)) (zero-add i))
      ∙ joined_append (tab t 0 i) (tab t i (n - i))

  -- the lines of the first k nodes stand in t from place a on, up to p
  pub record Listed (s : List ℕ) (a : ℕ) (t : List ℕ) (p k : ℕ) : Type 0 where
    pub within : k ≤ length vs
    pub same : length t ≡ length s
    pub is : Puts s a (nodes_text vs bs f k) (Some p) t

  pub listed_none : (s : List ℕ) (a : ℕ) → a ≤ length s → Listed s a s a 0
  unfolding nodes_text tab joined
  listed_none s a l = record { within = omega arith; same = refl; is = none_put s a l }

  module _ {s t u : List ℕ} {a p k : ℕ} {q : Option ℕ} (l : Listed s a t p k) (more : k < length vs) (h : Puts t p (node_text vs bs f k) q u) where
    pub listed_more : (r : ℕ) → q ≡ Some r → Listed s a u r (k + 1)
    listed_more r e =
        let g = told (spelt (nodes_suc k) (next l.is refl h)) e in
        record { within = omega arith; same = same_size g; is = g }

    -- where some lines do not fit, neither do more
    pub listed_halted : {r : Option ℕ} → q ≡ None → r ≡ None → Puts s a (nodes_text vs bs f (length vs)) r u
    listed_halted e r =
        spelt (nodes_split (k + 1) (length vs) (omega arith))
        (halted (joined (tab (node_text vs bs f) (k + 1) (length vs - (k + 1)))) (spelt (nodes_suc k) (next l.is refl h)) e r)
