-- The two questions of a place, by the checks in their order.
use mathlib.Core.Path.{◌≡◌, refl, sym, ap, ◌∙◌}
use mathlib.Core.Bool.{Bool, true, false, not}
use mathlib.Core.List.{List, [], ◌∷◌, map}
use Prim.Native.Nat.{ℕ, ◌*◌, ◌<◌, ◌≤◌}
use native.Mathlib.Omega.{arith}
use lib.Dec.{ltb}
use lib.ListN.{length, get_or, drop}
use borrow.Author.Tests.{le-ltb, lt-ltb, leb-true, not-true, not-false}
use Rattle.meaning.specs.Answers as answers
use Rattle.meaning.specs.Answers.{Answer, is, refused, place, close, broken, provided, or_broken}
use Rattle.meaning.specs.Bits.{as_bit, bits_of, word_count}
use Rattle.meaning.specs.Size.{sum}
use Rattle.meaning.specs.Close.{close_at}
use Rattle.meaning.specs.Walk.{lowest}
use Rattle.meaning.specs.Build.{Tree, Lent, levels_in}
use Rattle.meaning.specs.Growth.{first_bits, bits_in}
use Rattle.meaning.specs.Questions.{counts_fit, lent_at, at_bit, bit_in, close_in}
use Rattle.meaning.proofs.If.{both}
use Rattle.record.specs.declared.Counts.{Counts}
use Rattle.record.specs.Record.{level_in, last_in, tree_in}
use Rattle.closes.specs.Parts.{held_at, levels_from, Fits}
use Rattle.std.specs.Prelude.{Option as Maybe, None, Some, Result, Ok, Err, ok_or}
use Rattle.refusal.specs.declared.Refusal.{Refusal}
use Rattle.refusal.specs.declared.Refusal.TheVariants.{Broken}
use Rattle.refusal.specs.Said.{refusal_of, option_of, said_number, said_bit}
use Rattle.refusal.proofs.Agree.{bit_tells}
use Rattle.closes.specs.Steps.{Finds}
use Rattle.closes.specs.declared.family.At.{At}
use Rattle.closes.proofs.Rising.{view_shape}

abbrev start : At
start = record { level = 0; words = 0; dict = record { bytes = 0; middles = 0; larges = 0 } }

module _ (c : Counts) (ws bs ms ls us : List ℕ) where
  pub lowest_is : lowest (levels_in (tree_in c) (lent_at ws bs ms ls us)) ≡ bits_of ws (get_or c.bits 0 0)
  unfolding tree_in lowest
  lowest_is = ap lowest (view_shape (level_in c 0) (level_in c 1 ∷ level_in c 2 ∷ level_in c 3 ∷ last_in c ∷ []) (lent_at ws bs ms ls us).held).is

  module _ (b : Bool) (e : b ≡ counts_fit (tree_in c) (lent_at ws bs ms ls us)) (p : ℕ) where
    pub bit_unfit : not b ≡ true → refused broken ≡ bit_in (tree_in c) (lent_at ws bs ms ls us) p
    unfolding bit_in at_bit provided
    bit_unfit h = rw (sym e ∙ not-true b h)

    module _ (h : not b ≡ false) where
      pub bit_place : get_or c.bits 0 0 ≤ p → refused (place p) ≡ bit_in (tree_in c) (lent_at ws bs ms ls us) p
      unfolding bit_in at_bit provided tree_in first_bits
      bit_place i = rw (sym e ∙ not-false b h, provided, le-ltb p (get_or c.bits 0 0) i)

      pub bit_is : p < get_or c.bits 0 0 → (d : Bool) → d ≡ get_or (bits_of ws (get_or c.bits 0 0)) p false
          → is (as_bit d) ≡ bit_in (tree_in c) (lent_at ws bs ms ls us) p
      unfolding bit_in at_bit provided tree_in first_bits
      bit_is i d f =
          rw (sym e ∙ not-false b h, provided, lt-ltb p (get_or c.bits 0 0) i)
          (ap (λ x. is (as_bit x)) (f ∙ ap (λ l. get_or l p false) (sym lowest_is)))

-- the close is refused as the bit is
lost : (b d : Bool) (e f r : answers.Refusal) (n : ℕ) (z : Answer ℕ) → refused r ≡ provided b e (provided d f (is n)) → refused r ≡ provided b e (provided d f z)
unfolding provided
lost true true e f r n z h = absurd cc
lost true false e f r n z h = h
lost false d e f r n z h = h

-- where the bit is told, the tests hold
told : (b d x y : Bool) (e f : answers.Refusal) → is (as_bit x) ≡ provided b e (provided d f (is (as_bit y))) → (b ≡ true) × (d ≡ true) × (x ≡ y)
unfolding provided
told true true x y e f h = (refl, refl, bit_tells x y (let z : as_bit x ≡ as_bit y = cc in z))
told true false x y e f h = absurd cc
told false d x y e f h = absurd cc

or_is : (y : Maybe ℕ) → said_number (ok_or y Broken) ≡ or_broken (option_of y)
unfolding or_broken
or_is (Some n) = refl
or_is None = refl

-- counts that fit, fit from the first level on
pub counts_start : (c : Counts) (ws bs ms ls us : List ℕ) → counts_fit (tree_in c) (lent_at ws bs ms ls us) ≡ true → Fits (drop 0 (tree_in c).counts) start ws bs ms ls
unfolding counts_fit
counts_start c ws bs ms ls us h =
    let a1 = both _ _ h in
    let a2 = both _ _ a1.0 in
    let a3 = both _ _ a2.0 in
    let a4 = both _ _ a3.0 in
    let w : sum (map (λ n. word_count n.bits) (tree_in c).counts) ≤ length ws = leb-true _ _ a4.0 in
    let x : sum (map (λ n. n.bytes) (tree_in c).counts) ≤ length bs = leb-true _ _ a4.1 in
    let y : 2 * sum (map (λ n. n.middle) (tree_in c).counts) ≤ length ms = leb-true _ _ a3.1 in
    let z : 2 * sum (map (λ n. n.large) (tree_in c).counts) ≤ length ls = leb-true _ _ a2.1 in
    record { words = omega arith; bytes = omega arith; middle = omega arith; large = omega arith }

module _ (c : Counts) (ws bs ms ls us : List ℕ) (p : ℕ) (g : Result Bool Refusal) (e : said_bit g ≡ bit_in (tree_in c) (lent_at ws bs ms ls us) p) where
  abbrev t : Tree
  t = tree_in c

  abbrev a : Lent
  a = lent_at ws bs ms ls us

  pub close_lost : (r : Refusal) (z : Result ℕ Refusal) → g ≡ Err r → z ≡ Err r → said_number z ≡ close_in t a p
  unfolding bit_in close_in at_bit
  close_lost r z h i = ap said_number i ∙ lost (counts_fit t a) (ltb p (bits_in t)) broken (place p) (refusal_of r) _ _ (sym (ap said_bit h) ∙ e)

  module _ (d : Bool) (f : g ≡ Ok d) where
    pub tests : (counts_fit t a ≡ true) × (ltb p (bits_in t) ≡ true) × (d ≡ get_or (lowest (levels_in t a)) p false)
    unfolding bit_in at_bit
    tests = told (counts_fit t a) (ltb p (bits_in t)) d (get_or (lowest (levels_in t a)) p false) broken (place p) (sym (ap said_bit f) ∙ e)

    close_is : close_in t a p ≡ provided d (close p) (or_broken (close_at (levels_in t a) p))
    unfolding close_in at_bit provided
    close_is = rw (tests.0, provided, tests.1, provided, sym tests.2)

    pub close_shut : not d ≡ true → refused (close p) ≡ close_in t a p
    unfolding provided
    close_shut h = sym (close_is ∙ ap (λ x. provided x (close p) (or_broken (close_at (levels_in t a) p))) (not-true d h))

    pub start_fits : Fits (drop 0 (tree_in c).counts) start ws bs ms ls
    start_fits = counts_start c ws bs ms ls us tests.0

    pub close_found : not d ≡ false → (y : Maybe ℕ) → Finds y (close_at (levels_from c 0 (held_at start ws bs ms ls)) p)
        → (z : Result ℕ Refusal) → z ≡ ok_or y Broken → said_number z ≡ close_in t a p
    unfolding provided
    close_found h y j z i =
        ap said_number i
        ∙ or_is y
        ∙ ap or_broken j.is
        ∙ sym (close_is ∙ ap (λ x. provided x (close p) (or_broken (close_at (levels_in t a) p))) (not-false d h))
