-- The byte size, level by level.
use mathlib.Core.Path.{◌≡◌, refl, sym, ap, ◌∙◌, subst}
use mathlib.Core.Bool.{Bool, true, false, not}
use mathlib.Core.List.{List}
use Prim.Native.Nat.{ℕ, zero, suc, ◌+◌, ◌*◌, ◌^◌, ◌<◌, ◌≤◌}
use native.Mathlib.Numerals.{add-one}
use native.Mathlib.Omega.{arith}
use lib.ListN.{get_or}
use borrow.Author.Tests.{lt-ltb, le-ltb, not-true, not-false}
use Rattle.std.specs.Prelude.{Option, None, Some, SomeIff, Result, ok_or}
use Rattle.meaning.specs.Answers.{is, refused, broken}
use Rattle.meaning.specs.Bits.{word_count}
use Rattle.meaning.specs.Size.{sum}
use Rattle.meaning.specs.Questions.{counts_fit, lent_at, count_size, size_in, sized, bytes_held}
use Rattle.meaning.proofs.If.{if_true, if_false}
use Rattle.record.specs.declared.Counts.{Counts}
use Rattle.record.specs.Record.{level_in, last_in, tree_in}
use Rattle.refusal.specs.declared.Refusal.{Refusal}
use Rattle.refusal.specs.declared.Refusal.TheVariants.{Broken}
use Rattle.refusal.specs.Said.{said_number}

-- the first k levels
pub sizes : Counts → ℕ → ℕ
sizes c zero = 8
sizes c (suc k) = sizes c k + count_size (level_in c k)

-- a sum that does not fit, at most another
pub too_much : (z : Option ℕ) (a b : ℕ) → z ≡ None → ¬ (a < 2 ^ 64) → a ≤ b → SomeIff z (b < 2 ^ 64) b
too_much z a b e h i = subst (λ x. SomeIff x (b < 2 ^ 64) b) (sym e) (λ j. h (omega arith))

pub same_sum : (z : Option ℕ) (a b : ℕ) → SomeIff z (a < 2 ^ 64) a → a ≡ b → SomeIff z (b < 2 ^ 64) b
same_sum z a b h e = subst (λ x. SomeIff z (x < 2 ^ 64) x) e h

-- a string and its dictionary
pub own_size : (c : Counts) (k w : ℕ) → w ≡ word_count (get_or c.bits k 0)
    → 8 * w + 1 * get_or c.bytes k 0 + 4 * get_or c.middles k 0 + 16 * get_or c.larges k 0 ≡ count_size (level_in c k)
unfolding count_size
own_size c k w e = omega arith

last_size : (c : Counts) (w : ℕ) → w ≡ word_count (get_or c.bits 4 0) → 8 * w ≡ count_size (last_in c)
unfolding count_size
last_size c w e = omega arith

module _ (c : Counts) where
  pub sizes_start : 8 ≡ sizes c 0
  unfolding sizes
  sizes_start = refl

  pub sizes_on : (k s n : ℕ) → s ≡ sizes c k → n ≡ s + count_size (level_in c k) → n ≡ sizes c (k + 1)
  unfolding sizes
  sizes_on k s n e f = f ∙ ap (λ x. x + count_size (level_in c k)) e ∙ ap (sizes c) (sym (add-one k))

  pub sizes_low : (k s : ℕ) → k < 4 → s ≡ sizes c k → s + count_size (level_in c k) ≤ size_in (tree_in c)
  unfolding sizes size_in tree_in sum
  sizes_low zero s h e = omega arith
  sizes_low (suc zero) s h e = omega arith
  sizes_low (suc (suc zero)) s h e = omega arith
  sizes_low (suc (suc (suc zero))) s h e = omega arith
  sizes_low (suc (suc (suc (suc k)))) s h e = absurd (omega arith)

  pub sizes_all : (k s w : ℕ) → k ≡ 4 → s ≡ sizes c k → w ≡ word_count (get_or c.bits 4 0) → s + 8 * w + 4 * c.nodes ≡ size_in (tree_in c)
  unfolding sizes size_in tree_in sum
  sizes_all k s w h e f =
      let g : s ≡ 8 + count_size (level_in c 0) + count_size (level_in c 1) + count_size (level_in c 2) + count_size (level_in c 3) = e ∙ ap (sizes c) h in
      omega (arith, last_size c w f)

-- the question
module _ (c : Counts) (ws bs ms ls us : List ℕ) (b : Bool) (e : b ≡ counts_fit (tree_in c) (lent_at ws bs ms ls us)) where
  pub size_unfit : not b ≡ true → refused broken ≡ bytes_held (tree_in c) (lent_at ws bs ms ls us)
  unfolding bytes_held
  size_unfit h = sym (if_false _ _ (sym e ∙ not-true b h))

  pub size_held : not b ≡ false → (o : Option ℕ) → SomeIff o (size_in (tree_in c) < 2 ^ 64) (size_in (tree_in c)) → (r : Result ℕ Refusal) → r ≡ ok_or o Broken
      → said_number r ≡ bytes_held (tree_in c) (lent_at ws bs ms ls us)
  unfolding bytes_held sized
  size_held h o f r g = ap said_number g ∙ go o f ∙ sym (if_true _ _ (sym e ∙ not-false b h))
    where
      go : (o : Option ℕ) → SomeIff o (size_in (tree_in c) < 2 ^ 64) (size_in (tree_in c)) → said_number (ok_or o Broken) ≡ sized (size_in (tree_in c))
      go (Some n) f = ap is f.1 ∙ sym (if_true _ _ (lt-ltb (size_in (tree_in c)) (2 ^ 64) f.0))
      go None f = sym (if_false _ _ (le-ltb (size_in (tree_in c)) (2 ^ 64) (omega arith)))
