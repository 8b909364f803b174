-- Numbers put at the front of a list, and read there.
use mathlib.Core.Path.{◌≡◌, refl, sym, ap, ◌∙◌}
use mathlib.Core.Bool.{Bool, true, false, ◌||◌}
use mathlib.Core.List.{List, [], ◌∷◌}
use Prim.Native.Nat.{ℕ, ◌+◌, ◌≤◌}
use native.Mathlib.Omega.{arith}
use lib.Dec.{ltb}
use mathlib.Core.List.{◌++◌}
use lib.ListN.{length, get_or, set, take, drop}
use lib.Seq.{sets}
use Rattle.std.proofs.lemmas.List.Edits.{sets-eq}
use Rattle.std.proofs.lemmas.Slice.{put_mid-paste}
use borrow.Rule.Slice.PartMut.{put_mid}
use borrow.Author.Tests.{ltb-false}
use Rattle.meaning.proofs.If.{clash}
use Rattle.record.specs.Record.{tree_in}
use Rattle.record.specs.declared.Counts.{Counts}
use Rattle.flight.specs.Layout.{tree_at, numbers_of, four_at, four, short}

-- four numbers copied
take_four : (a : List ℕ) → length a ≡ 4 → take 4 a ≡ four a
take_four [] e = absurd (omega arith)
take_four (x ∷ []) e = absurd (omega arith)
take_four (x ∷ y ∷ []) e = absurd (omega arith)
take_four (x ∷ y ∷ z ∷ []) e = absurd (omega arith)
take_four (x ∷ y ∷ z ∷ w ∷ l) e = refl

pub four_put : (s ys a : List ℕ) (i k : ℕ) → i + 4 ≤ length s → length a ≡ 4 → ys ≡ a → k ≡ 4 → put_mid i k s ys ≡ sets s i (four a)
four_put s ys a i k h l e f =
    put_mid-paste i k s ys a 4 e (sym f) (sym l) ∙ ap (λ t. take i s ++ t ++ drop (i + 4) s) (take_four a l) ∙ sym (sets-eq (four a) s i h)

-- the record's 18
pub counts_set : (l x y z w : List ℕ) (c : Counts)
    → x ≡ sets (set (set l 0 c.nodes) 1 (get_or c.bits 0 0)) 2 (get_or c.bits 1 0 ∷ get_or c.bits 2 0 ∷ get_or c.bits 3 0 ∷ get_or c.bits 4 0 ∷ [])
    → y ≡ sets x 6 (four c.bytes) → z ≡ sets y 10 (four c.middles) → w ≡ sets z 14 (four c.larges)
    → w ≡ sets l 0 (numbers_of (tree_in c))
unfolding numbers_of tree_in
counts_set l x y z w c e f g h =
    h ∙ ap (λ z. sets z 14 (four c.larges)) (g ∙ ap (λ y. sets y 10 (four c.middles)) (f ∙ ap (λ x. sets x 6 (four c.bytes)) e))

-- SHORT
or_false_left : (a b : Bool) → (a || b) ≡ false → a ≡ false
or_false_left true b e = e
or_false_left false b e = refl

or_false_right : (a b : Bool) → (a || b) ≡ false → b ≡ false
or_false_right true b e = absurd (clash refl e)
or_false_right false b e = e

pub long_counts : (n m : ℕ) (b : Bool) → b ≡ short n m → b ≡ false → 18 ≤ n
unfolding short
long_counts n m b e f = ltb-false n 18 (or_false_left (ltb n 18) (ltb m 4) (sym e ∙ f))

pub long_out : (n m : ℕ) (b : Bool) → b ≡ short n m → b ≡ false → 4 ≤ m
unfolding short
long_out n m b e f = ltb-false m 4 (or_false_right (ltb n 18) (ltb m 4) (sym e ∙ f))

-- 18 numbers read
pub counts_read : (r : List ℕ) (n b : ℕ) (above bytes middles larges : List ℕ) → n ≡ get_or r 0 0 → b ≡ get_or r 1 0 → above ≡ four_at r 2
    → bytes ≡ four_at r 6 → middles ≡ four_at r 10 → larges ≡ four_at r 14
    → tree_in (record { nodes = n; bits = b ∷ four above; bytes = bytes; middles = middles; larges = larges }) ≡ tree_at r
unfolding tree_in tree_at
counts_read r n b above bytes middles larges e f g h i j = rw (e, f, g, h, i, j)
