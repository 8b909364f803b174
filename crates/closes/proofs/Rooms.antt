-- The counts test, sum by sum.
use mathlib.Core.Path.{◌≡◌, refl, sym, ap, ap₂, ◌∙◌}
use mathlib.Core.Bool.{Bool, true, false, ◌&&◌}
use mathlib.Core.List.{List, [], ◌∷◌, map}
use Prim.Native.Nat.{ℕ, suc, ◌+◌, ◌*◌, ◌-◌, ◌/◌, ◌<◌, ◌≤◌}
use native.Mathlib.Decide.{dec_le}
use native.Mathlib.Numerals.{add-one}
use native.Mathlib.Omega.{arith}
use lib.Dec.{leb}
use lib.ListN.{length, get_or, drop, drop_of_length-le}
use Rattle.std.proofs.Common.{drop-cons}
use borrow.Author.Tests.{le-leb, lt-leb}
use Rattle.meaning.specs.Bits.{word_count}
use Rattle.meaning.specs.Size.{sum}
use Rattle.meaning.specs.Questions.{counts_fit}
use Rattle.record.specs.declared.Catalogue.{Catalogue}
use Rattle.record.specs.declared.Counts.{Counts}
use Rattle.record.specs.Record.{tree_in, tree_of, lent_of}

same_test : (a b x y : ℕ) → (a ≤ b → x ≤ y) → (x ≤ y → a ≤ b) → leb a b ≡ leb x y
same_test a b x y f g = go (dec_le a b)
  where
    go : Dec (a ≤ b) → leb a b ≡ leb x y
    go (yes h) = le-leb a b h ∙ sym (le-leb x y (f h))
    go (no h) = let i : ¬ (x ≤ y) = λ k. h (g k) in lt-leb a b (omega arith) ∙ sym (lt-leb x y (omega arith))

-- what is left of the room, and of the counts from place i on
module _ (l : List ℕ) (i left room : ℕ) (e : leb (sum (drop i l)) left ≡ leb (sum l) room) where
  here : i < length l → sum (drop i l) ≡ get_or l i 0 + sum (drop (suc i) l)
  unfolding sum
  here h = ap sum (drop-cons l i 0 h)

  pub left_out : i < length l → left < get_or l i 0 → false ≡ leb (sum l) room
  left_out h k = sym (lt-leb (sum (drop i l)) left (omega (arith, here h))) ∙ e

  pub left_on : i < length l → get_or l i 0 ≤ left → leb (sum (drop (i + 1) l)) (left - get_or l i 0) ≡ leb (sum l) room
  left_on h k =
      ap (λ x. leb (sum (drop x l)) (left - get_or l i 0)) (add-one i)
      ∙ same_test (sum (drop (suc i) l)) (left - get_or l i 0) (sum (drop i l)) left (λ x. omega (arith, here h)) (λ x. omega (arith, here h))
      ∙ e

  pub left_done : length l ≤ i → true ≡ leb (sum l) room
  unfolding sum
  left_done h =
      let z : sum (drop i l) ≡ 0 = ap sum (drop_of_length-le l h) in sym (le-leb (sum (drop i l)) left (omega (arith, z))) ∙ e

-- two elements an entry
half : (s n : ℕ) → leb s (n / 2) ≡ leb (2 * s) n
half s n = same_test s (n / 2) (2 * s) n (λ k. omega arith) (λ k. omega arith)

-- four counts, one by one
four : (l : List ℕ) → length l ≡ 4 → sum l ≡ get_or l 0 0 + (get_or l 1 0 + (get_or l 2 0 + (get_or l 3 0 + 0)))
unfolding sum
four (a ∷ b ∷ c ∷ d ∷ []) e = refl
four [] e = absurd (omega arith)
four (a ∷ []) e = absurd (omega arith)
four (a ∷ b ∷ []) e = absurd (omega arith)
four (a ∷ b ∷ c ∷ []) e = absurd (omega arith)
four (a ∷ b ∷ c ∷ d ∷ f ∷ l) e = absurd (omega arith)

-- each area holds what the record counts of it
module _ (c : Counts) (n : ℕ) (r : Bool) where
  pub words_fit : (l : List ℕ) → length l ≡ 5 → ((i : ℕ) → i < 5 → get_or l i 0 ≡ word_count (get_or c.bits i 0)) → r ≡ leb (sum l) n
      → r ≡ leb (sum (map (λ n. word_count n.bits) (tree_in c).counts)) n
  unfolding sum tree_in
  words_fit (v ∷ w ∷ x ∷ y ∷ z ∷ []) h e f =
      f
      ∙ ap (λ s. leb s n)
      (ap₂ ◌+◌ (e 0 (omega arith))
      (ap₂ ◌+◌ (e 1 (omega arith)) (ap₂ ◌+◌ (e 2 (omega arith)) (ap₂ ◌+◌ (e 3 (omega arith)) (ap (λ s. s + 0) (e 4 (omega arith)))))))
  words_fit [] h e f = absurd (omega arith)
  words_fit (v ∷ []) h e f = absurd (omega arith)
  words_fit (v ∷ w ∷ []) h e f = absurd (omega arith)
  words_fit (v ∷ w ∷ x ∷ []) h e f = absurd (omega arith)
  words_fit (v ∷ w ∷ x ∷ y ∷ []) h e f = absurd (omega arith)
  words_fit (v ∷ w ∷ x ∷ y ∷ z ∷ u ∷ l) h e f = absurd (omega arith)

  pub bytes_fit : r ≡ leb (sum c.bytes) n → length c.bytes ≡ 4 → r ≡ leb (sum (map (λ n. n.bytes) (tree_in c).counts)) n
  unfolding sum tree_in
  bytes_fit e l = let s : sum c.bytes ≡ sum (map (λ n. n.bytes) (tree_in c).counts) = four c.bytes l in e ∙ ap (λ x. leb x n) s

  pub middles_fit : r ≡ leb (sum c.middles) (n / 2) → length c.middles ≡ 4 → r ≡ leb (2 * sum (map (λ n. n.middle) (tree_in c).counts)) n
  unfolding sum tree_in
  middles_fit e l =
      let s : sum c.middles ≡ sum (map (λ n. n.middle) (tree_in c).counts) = four c.middles l in e ∙ half (sum c.middles) n ∙ ap (λ x. leb (2 * x) n) s

  pub larges_fit : r ≡ leb (sum c.larges) (n / 2) → length c.larges ≡ 4 → r ≡ leb (2 * sum (map (λ n. n.large) (tree_in c).counts)) n
  unfolding sum tree_in
  larges_fit e l =
      let s : sum c.larges ≡ sum (map (λ n. n.large) (tree_in c).counts) = four c.larges l in e ∙ half (sum c.larges) n ∙ ap (λ x. leb (2 * x) n) s

-- the four tests, in their order
module _ (k : Catalogue) where
  abbrev pub words_in : Bool
  words_in = leb (sum (map (λ n. word_count n.bits) (tree_of k).counts)) (length k.words.now)

  abbrev pub bytes_in : Bool
  bytes_in = leb (sum (map (λ n. n.bytes) (tree_of k).counts)) (length k.bytes.now)

  abbrev pub middles_in : Bool
  middles_in = leb (2 * sum (map (λ n. n.middle) (tree_of k).counts)) (length k.middles.now)

  abbrev pub larges_in : Bool
  larges_in = leb (2 * sum (map (λ n. n.large) (tree_of k).counts)) (length k.larges.now)

  module _ (f : Bool) (e : f ≡ (words_in && bytes_in && middles_in && larges_in)) where
    pub all_if : f ≡ true → leb k.counts.nodes (length k.labels.now) ≡ counts_fit (tree_of k) (lent_of k)
    unfolding counts_fit tree_in
    all_if g = ap (λ x. x && leb k.counts.nodes (length k.labels.now)) (sym g ∙ e)

    pub all_not : f ≡ false → f ≡ counts_fit (tree_of k) (lent_of k)
    unfolding counts_fit tree_in
    all_not g = g ∙ ap (λ x. x && leb k.counts.nodes (length k.labels.now)) (sym g ∙ e)

module _ (x y r v : Bool) (e : r ≡ x) where
  -- r is the first of two tests, and v both
  pub both_if : (f : Bool) → r ≡ true → v ≡ f → f ≡ y → v ≡ (x && y)
  both_if f h i j = i ∙ j ∙ ap (λ z. z && y) (sym h ∙ e)

  pub both_not : r ≡ false → v ≡ r → v ≡ (x && y)
  both_not h i = i ∙ h ∙ ap (λ z. z && y) (sym h ∙ e)
