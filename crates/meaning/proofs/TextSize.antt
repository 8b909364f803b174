-- The program `listwalk`: a fixed number of bytes decides every input, and a fixed number holds every output.
use mathlib.Core.Path.{◌≡◌, refl, sym, ap, ◌∙◌}
use mathlib.Core.Option.{Option, none, some}
use mathlib.Core.List.{List, [], ◌∷◌, ◌++◌, map, append_assoc}
use Prim.Native.Nat.{ℕ, zero, suc, ◌+◌, ◌-◌, ◌*◌, ◌<◌, ◌≤◌}
use native.Mathlib.Omega.{arith}
use lib.ListN.{length, get_or, take, drop, length-append, length-map, take-append-drop}
use lib.Seq.{take-append-add}
use Rattle.meaning.specs.Bits.{tab}
use Rattle.meaning.specs.String.{string}
use Rattle.meaning.specs.List.{offending}
use Rattle.meaning.specs.Family.{tower}
use Rattle.meaning.specs.Size.{byte_size}
use Rattle.meaning.specs.Kin.{parent}
use Rattle.meaning.specs.Areas.{joined}
use Rattle.meaning.specs.Refusals.{level_rule}
use Rattle.meaning.specs.Quoted.{quoted}
use Rattle.meaning.specs.Listing.{digits, ended, line, Entry, level_of, label_of, entry_line, EntryFits, wide, Row, row, Text, after, lines, text_of, head_line, sibling_field, node_line, node_text, nodes_text, sibling_id, listing, refusal_line, built, answer_to, listwalk_of}
use Rattle.meaning.proofs.Spelling.{decimal_size, digits_few}
use Rattle.meaning.proofs.ReadLine.{line_read, line_spelt}
use Rattle.meaning.proofs.ReadList.{lines_over, lines_row, lines_bad, list_spelt}

ended_size : (f : List ℕ) (b : ℕ) → length (ended f b) ≡ suc (length f)
unfolding ended
ended_size f b = let u : length f + 1 ≡ suc (length f) = omega arith in length-append f (b ∷ []) ∙ u

number_size : (n : ℕ) → n < wide → length (digits n) ≤ 10
unfolding digits
number_size n l = decimal_size 20 9 n (omega arith)

entry_size : (e : Entry) → EntryFits e → length (entry_line e) ≤ 22
unfolding entry_line line
entry_size e f =
    omega (
      arith,
      length-append (ended (digits e.level) 9) (ended (digits e.label) 10),
      ended_size (digits e.level) 9,
      ended_size (digits e.label) 10,
      number_size e.level f.level,
      number_size e.label f.label,
    )

-- as many bytes as a line may have
row_cut : (m : ℕ) (s : List ℕ) (r : Row) → 22 ≤ m → row s ≡ some r
    → (j : ℕ) × (m ≤ 22 + j) × (row (take m s) ≡ some (record { entry = r.entry; rest = take j r.rest }))
row_cut m s r l q =
    let h = line_spelt s r q in
    let x = entry_line r.entry in
    let z = entry_size r.entry h.fits in
    let j = m - length x in
    let u : m ≡ length x + j = omega arith in (
      j,
      omega arith,
      ap row (ap (λ k. take k s) u ∙ ap (take (length x + j)) h.text ∙ take-append-add x r.rest j)
          ∙ line_read r.entry (take j r.rest) h.fits,
    )

row_uncut : (m : ℕ) (s : List ℕ) (r : Row) → row (take m s) ≡ some r → row s ≡ some (record { entry = r.entry; rest = r.rest ++ drop m s })
row_uncut m s r q =
    let h = line_spelt (take m s) r q in
    let x = entry_line r.entry in
    ap row (sym (take-append-drop m s) ∙ ap (λ y. y ++ drop m s) h.text ∙ append_assoc x r.rest (drop m s))
    ∙ line_read r.entry (r.rest ++ drop m s) h.fits

cut_none : (m : ℕ) (s : List ℕ) → 1 ≤ m → lines 0 (take m s) ≡ lines 0 s
cut_none zero s l = absurd (omega arith)
cut_none (suc m) [] l = refl
cut_none (suc m) (b ∷ s) l = lines_over b (take m s) ∙ sym (lines_over b s)

cut_one : (k m : ℕ) (s : List ℕ) → 22 * k + 23 ≤ m → ((j : ℕ) (t : List ℕ) → 22 * k + 1 ≤ j → lines k (take j t) ≡ lines k t)
    → lines (suc k) (take m s) ≡ lines (suc k) s
cut_one k zero s l h = absurd (omega arith)
cut_one k (suc m) [] l h = refl
cut_one k (suc m) (b ∷ s) l h = go (row (b ∷ s)) refl (row (b ∷ take m s)) refl h
  where
    go : (x : Option Row) → row (b ∷ s) ≡ x → (y : Option Row) → row (b ∷ take m s) ≡ y → ((j : ℕ) (t : List ℕ) → 22 * k + 1 ≤ j → lines k (take j t) ≡ lines k t)
        → lines (suc k) (b ∷ take m s) ≡ lines (suc k) (b ∷ s)
    go none p none q i = lines_bad k (b ∷ take m s) (omega arith) q ∙ sym (lines_bad k (b ∷ s) (omega arith) p)
    go none p (some r) q i =
        let h = row_uncut (suc m) (b ∷ s) r q in
        let z : ◌≡◌ {A = ℕ} 0 1 = cc in absurd (omega arith)
    go (some r) p y q i =
        let h = row_cut (suc m) (b ∷ s) r (omega arith) p in
        lines_row k (b ∷ take m s) _ h.2 ∙ ap (after r.entry) (i h.0 r.rest (omega (arith, h.1))) ∙ sym (lines_row k (b ∷ s) r p)

lines_cut : (k m : ℕ) (s : List ℕ) → 22 * k + 1 ≤ m → lines k (take m s) ≡ lines k s
lines_cut zero m s l = cut_none m s (omega arith)
lines_cut (suc k) m s l = cut_one k m s (omega arith) (lines_cut k)

-- 512 lines have at most 11,264 bytes, so an input's first 11,265 say what the whole says
pub text_cut : (m : ℕ) (s : List ℕ) → 11265 ≤ m → text_of (take m s) ≡ text_of s
unfolding text_of
text_cut m s l = lines_cut 512 m s (omega arith)

pub listwalk_cut : (m : ℕ) (s : List ℕ) → 11265 ≤ m → listwalk_of (take m s) ≡ listwalk_of s
unfolding listwalk_of
listwalk_cut m s l = ap answer_to (text_cut m s l)

-- no field has more than 20 bytes, no line more than 105
sibling_few : (n : ℕ) → length (sibling_field n) ≤ 20
unfolding sibling_field quoted
sibling_few zero = omega arith
sibling_few (suc n) = digits_few (suc n)

cons_size : (f g : List ℕ) (fs : List (List ℕ)) → length (line (f ∷ g ∷ fs)) ≡ suc (length f) + length (line (g ∷ fs))
unfolding line
cons_size f g fs = omega (arith, length-append (ended f 9) (line (g ∷ fs)), ended_size f 9)

last_size : (f : List ℕ) → length (line (f ∷ [])) ≡ suc (length f)
unfolding line
last_size f = ended_size f 10

node_size : (i v b p n : ℕ) → length (node_line i v b p n) ≤ 105
unfolding node_line
node_size i v b p n =
    omega (
      arith,
      cons_size (digits i) (digits v) (digits b ∷ digits p ∷ sibling_field n ∷ []),
      cons_size (digits v) (digits b) (digits p ∷ sibling_field n ∷ []),
      cons_size (digits b) (digits p) (sibling_field n ∷ []),
      cons_size (digits p) (sibling_field n) [],
      last_size (sibling_field n),
      digits_few i,
      digits_few v,
      digits_few b,
      digits_few p,
      sibling_few n,
    )

node_text_size : (vs bs : List ℕ) (f : ℕ → ℕ) (k : ℕ) → length (node_text vs bs f k) ≤ 105
unfolding node_text
node_text_size vs bs f k = node_size (suc k) (get_or vs k 0) (get_or bs k 0) (parent vs k) (f k)

nodes_size : (vs bs : List ℕ) (f : ℕ → ℕ) (i n : ℕ) → length (joined (tab (node_text vs bs f) i n)) ≤ 105 * n
unfolding joined tab
nodes_size vs bs f i zero = omega arith
nodes_size vs bs f i (suc n) =
    omega (
      arith,
      length-append (node_text vs bs f i) (joined (tab (node_text vs bs f) (suc i) n)),
      node_text_size vs bs f i,
      nodes_size vs bs f (suc i) n,
    )

head_size : (n b z : ℕ) → length (head_line n b z) ≤ 68
unfolding head_line quoted
head_size n b z =
    let u : length (quoted "tree") ≡ 4 = refl in
    omega (
      arith,
      cons_size (quoted "tree") (digits n) (digits b ∷ digits z ∷ []),
      cons_size (digits n) (digits b) (digits z ∷ []),
      cons_size (digits b) (digits z) [],
      last_size (digits z),
      digits_few n,
      digits_few b,
      digits_few z,
    )

refusal_size : (n k : ℕ) → length (refusal_line (record { number = n; carries = k ∷ [] })) ≤ 50
unfolding refusal_line quoted
refusal_size n k =
    let u : length (quoted "refused") ≡ 7 = refl in
    omega (
      arith,
      cons_size (quoted "refused") (digits n) (digits k ∷ []),
      cons_size (digits n) (digits k) [],
      last_size (digits k),
      digits_few n,
      digits_few k,
    )

listing_size : (vs bs : List ℕ) → length vs ≤ 512 → length (listing vs bs) ≤ 53828
unfolding listing nodes_text
listing_size vs bs h =
    let b = length (string vs) in
    let z = byte_size (tower 4 (string vs)) (length vs) in
    omega (
      arith,
      length-append (head_line (length vs) b z) (joined (tab (node_text vs bs (sibling_id vs)) 0 (length vs))),
      head_size (length vs) b z,
      nodes_size vs bs (sibling_id vs) 0 (length vs),
    )

level_size_lem : (o : Option ℕ) (vs bs : List ℕ) → length vs ≤ 512 → length (built (level_rule o) vs bs) ≤ 53828
unfolding built level_rule
level_size_lem none vs bs h = listing_size vs bs h
level_size_lem (some k) vs bs h = omega (arith, refusal_size 3 k)

-- every output fits a buffer of 65,536 bytes
pub listwalk_size : (s : List ℕ) → length (listwalk_of s) ≤ 53828
unfolding listwalk_of answer_to text_of
listwalk_size s = go (text_of s) refl
  where
    go : (t : Text) → text_of s ≡ t → length (answer_to t) ≤ 53828
    go (Text.list es) e = level_size_lem (offending (map level_of es)) (map level_of es) (map label_of es) (omega (arith, (list_spelt 512 s es e).few, length-map es level_of))
    go (Text.bad n) e = omega (arith, refusal_size 10 n)
