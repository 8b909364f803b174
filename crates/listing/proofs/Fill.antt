-- Filling two slices with the values of an input, line by line.
use mathlib.Core.Path.{◌≡◌, refl, sym, ap, ap₂, subst, ◌∙◌}
use mathlib.Core.Bool.{◌&&◌}
use mathlib.Core.List.{List, [], ◌∷◌, map}
use Prim.Native.Nat.{ℕ, suc, ◌+◌, ◌-◌, ◌<◌, ◌≤◌}
use native.Mathlib.Omega.{arith}
use borrow.Author.Tests.{le-leb, lt-leb}
use lib.Dec.{leb}
use lib.ListN.{length, set, replicate, length-replicate, length-set, length-map}
use lib.Seq.{sets}
use Rattle.meaning.specs.Answers.{Answer, is, nothing, refused}
use Rattle.meaning.specs.Areas.{filled}
use Rattle.meaning.specs.Listing.{Entry, level_of, label_of, row, Text, after, lines, text_of, bad_text, Reading, reading, outcome, read_of}
use Rattle.meaning.proofs.If.{if_true, if_false, and_true}
use Rattle.meaning.proofs.Runs.{sets_zeros}
use Rattle.meaning.proofs.ReadList.{lines_none, lines_over, lines_row, lines_bad, list_spelt}
use Rattle.std.specs.Prelude.{Option, None, Some}
use Rattle.listing.specs.Said.{row_of}
use Rattle.listing.specs.declared.Line.{Line}

abbrev pub zeros : ℕ → List ℕ
zeros n = replicate n 0

length_zeros : (n : ℕ) → length (zeros n) ≡ n
length_zeros n = length-replicate n 0

-- the values stored from the start of zeros
filled_sets : (m : ℕ) (vs : List ℕ) → length vs ≤ m → filled m vs ≡ sets (zeros m) 0 vs
filled_sets m vs l = sym (sets_zeros m 0 vs refl l)

pub readings : {r r' : Answer ℕ} {ls ls' bs bs' : List ℕ} → r ≡ r' → ls ≡ ls' → bs ≡ bs' → reading r ls bs ≡ reading r' ls' bs'
readings p q t = λ i. reading (p i) (q i) (t i)

text_is : {j k : ℕ} → j ≡ k → ◌≡◌ {A = Answer ℕ} (refused (bad_text j)) (refused (bad_text k))
text_is e = ap (λ (n : ℕ). refused (bad_text n)) e

-- the outcome, once k entries are stored and t is what the rest says
unfoldable pub onward : ℕ → List ℕ → List ℕ → Text → Reading
onward k ls bs (Text.list es) = reading (is (k + length es)) (sets ls k (map level_of es)) (sets bs k (map label_of es))
onward k ls bs (Text.bad n) = reading (refused (bad_text (k + n))) (zeros (length ls)) (zeros (length bs))

from_start : (s : List ℕ) (m n : ℕ) (t : Text) → lines 512 s ≡ t → 512 ≤ m → 512 ≤ n → outcome t m n ≡ onward 0 (zeros m) (zeros n) t
unfolding outcome onward
from_start s m n (Text.list es) h p q =
    let e : length es ≡ 0 + length es = omega arith in
    let few = (list_spelt 512 s es h).few in
    readings (ap is e)
    (filled_sets m (map level_of es) (omega (arith, length-map es level_of)))
    (filled_sets n (map label_of es) (omega (arith, length-map es label_of)))
from_start s m n (Text.bad k) h p q =
    let e : k ≡ 0 + k = omega arith in
    readings (text_is e) (ap zeros (sym (length_zeros m))) (ap zeros (sym (length_zeros n)))

one_more : (k : ℕ) (ls bs : List ℕ) (e : Entry) (t : Text) → onward k ls bs (after e t) ≡ onward (k + 1) (set ls k e.level) (set bs k e.label) t
unfolding onward after
one_more k ls bs e (Text.list es) =
    let u : k + suc (length es) ≡ k + 1 + length es = omega arith in
    let w : suc k ≡ k + 1 = omega arith in
    readings (ap is u)
    (ap (λ (j : ℕ). sets (set ls k e.level) j (map level_of es)) w)
    (ap (λ (j : ℕ). sets (set bs k e.label) j (map label_of es)) w)
one_more k ls bs e (Text.bad n) =
    let u : k + suc n ≡ k + 1 + n = omega arith in
    readings (text_is u) (ap zeros (sym (length-set ls k e.level))) (ap zeros (sym (length-set bs k e.label)))

-- k entries of the text s are stored, and the text t is left
pub record Filling (s : List ℕ) (m n : ℕ) (ls bs t : List ℕ) (k : ℕ) : Type 0 where
  pub within : k ≤ 512
  pub wide : 512 ≤ m
  pub broad : 512 ≤ n
  pub levels : length ls ≡ m
  pub labels : length bs ≡ n
  pub is : read_of s m n ≡ onward k ls bs (lines (512 - k) t)

filling : (s : List ℕ) (m n : ℕ) → 512 ≤ m → 512 ≤ n → Filling s m n (zeros m) (zeros n) s 0
unfolding read_of text_of
filling s m n p q =
    record {
      within = omega arith;
      wide = p;
      broad = q;
      levels = length_zeros m;
      labels = length_zeros n;
      is = if_true _ _ (and_true (le-leb 512 m p) (le-leb 512 n q)) ∙ from_start s m n (lines 512 s) refl p q;
    }

-- two slices that were made zeros
pub from_zeros : (s ls ls₀ bs bs₀ : List ℕ) → ls ≡ zeros (length ls₀) → bs ≡ zeros (length bs₀) → 512 ≤ length ls → 512 ≤ length bs
    → Filling s (length ls) (length bs) ls bs s 0
from_zeros s ls ls₀ bs bs₀ e f p q =
    let x : zeros (length ls) ≡ ls = ap zeros (ap length e ∙ length_zeros (length ls₀)) ∙ sym e in
    let y : zeros (length bs) ≡ bs = ap zeros (ap length f ∙ length_zeros (length bs₀)) ∙ sym f in
    subst (λ (t : List ℕ). Filling s (length ls) (length bs) ls t s 0) y
    (subst (λ (t : List ℕ). Filling s (length ls) (length bs) t (zeros (length bs)) s 0) x (filling s (length ls) (length bs) p q))

-- too few places, once both are zeros
module _ (s ls₀ ls bs₀ bs : List ℕ) (e : ls ≡ zeros (length ls₀)) (f : bs ≡ zeros (length bs₀)) where
  levels_same : length ls ≡ length ls₀
  levels_same = ap length e ∙ length_zeros (length ls₀)

  labels_same : length bs ≡ length bs₀
  labels_same = ap length f ∙ length_zeros (length bs₀)

  pub narrow : length ls < 512 → reading nothing ls bs ≡ read_of s (length ls₀) (length bs₀)
  unfolding read_of
  narrow p = readings refl e f ∙ sym (if_false _ _ (ap (λ b. b && leb 512 (length bs₀)) (lt-leb 512 (length ls₀) (omega (arith, levels_same)))))

  pub narrow_labels : 512 ≤ length ls → length bs < 512 → reading nothing ls bs ≡ read_of s (length ls₀) (length bs₀)
  unfolding read_of
  narrow_labels p q =
      readings refl e f
      ∙ sym (if_false _ _ (ap (λ b. b && leb 512 (length bs₀)) (le-leb 512 (length ls₀) (omega (arith, levels_same)))
      ∙ lt-leb 512 (length bs₀) (omega (arith, labels_same))))

no_line : (l : Option Line) → ((r : Line) → l ≡ Some r → ⊥) → l ≡ None
no_line None n = refl
no_line (Some r) n = absurd (n r refl)

no_bytes : (t : List ℕ) → length t ≡ 0 → t ≡ []
no_bytes [] l = refl
no_bytes (b ∷ t) l = absurd (omega arith)

over : (t : List ℕ) → (length t ≡ 0 → ⊥) → lines 0 t ≡ Text.bad 1
over [] n = absurd (n refl)
over (b ∷ t) n = lines_over b t

module _ {s : List ℕ} {m n : ℕ} {ls bs t : List ℕ} {k : ℕ} (f : Filling s m n ls bs t k) where
  left : k < 512 → 512 - k ≡ suc (512 - (k + 1))
  left h = omega arith

  pub filled_more : (l : Option Line) (r : Line) → k < 512 → row_of l ≡ row t → l ≡ Some r
      → Filling s m n (set ls k r.level) (set bs k r.label) r.rest.now (k + 1)
  filled_more l r z e g =
      record {
        within = omega arith;
        wide = f.wide;
        broad = f.broad;
        levels = length-set ls k r.level ∙ f.levels;
        labels = length-set bs k r.label ∙ f.labels;
        is =
            f.is
            ∙ ap (onward k ls bs) (ap (λ j. lines j t) (left z) ∙ lines_row (512 - (k + 1)) t _ (sym e ∙ ap row_of g))
            ∙ one_more k ls bs (record { level = r.level; label = r.label }) (lines (512 - (k + 1)) r.rest.now);
      }

  pub filled_all : {m' n' : ℕ} → length t ≡ 0 → m ≡ m' → n ≡ n' → reading (is k) ls bs ≡ read_of s m' n'
  unfolding onward
  filled_all l x y =
      let u : k + 0 ≡ k = omega arith in
      sym (f.is ∙ ap (onward k ls bs) (ap (lines (512 - k)) (no_bytes t l) ∙ lines_none (512 - k)) ∙ readings (ap is u) refl refl)
      ∙ ap₂ (read_of s) x y

  -- a refusal, once both are zeros again
  module _ {ls' bs' : List ℕ} {m' n' : ℕ} (o : ls' ≡ zeros (length ls)) (q : bs' ≡ zeros (length bs)) (x : m ≡ m') (y : n ≡ n') where
    refused_at : (j : ℕ) → lines (512 - k) t ≡ Text.bad 1 → k + 1 ≡ j → reading (refused (bad_text j)) ls' bs' ≡ read_of s m' n'
    unfolding onward
    refused_at j e u = sym (f.is ∙ ap (onward k ls bs) e ∙ readings (text_is u) (sym o) (sym q)) ∙ ap₂ (read_of s) x y

    pub filled_bad : (l : Option Line) → (length t ≡ 0 → ⊥) → k < 512 → row_of l ≡ row t → ((r : Line) → l ≡ Some r → ⊥)
        → reading (refused (bad_text (k + 1))) ls' bs' ≡ read_of s m' n'
    filled_bad l i z e n =
        let g = no_line l n in
        refused_at (k + 1)
        (ap (λ j. lines j t) (left z) ∙ lines_bad (512 - (k + 1)) t (omega (arith, i)) (sym e ∙ ap row_of g))
        refl

    pub filled_over : (length t ≡ 0 → ⊥) → 512 ≤ k → reading (refused (bad_text (k + 1))) ls' bs' ≡ read_of s m' n'
    filled_over l h =
        let w = f.within in
        let e : 512 - k ≡ 0 = omega arith in
        refused_at (k + 1) (ap (λ j. lines j t) e ∙ over t l) refl
