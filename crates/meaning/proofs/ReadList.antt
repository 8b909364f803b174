-- An input says a list exactly if it is the list's text, and a line is bad exactly if it is one too many or no entry's line starts there.
use mathlib.Core.Path.{◌≡◌, refl, sym, ap, ap₂, subst, ◌∙◌}
use mathlib.Core.Option.{Option, none, some}
use mathlib.Core.Logic.{◌↔◌}
use mathlib.Core.List.{List, [], ◌∷◌, ◌++◌, append_assoc, append-nil}
use Prim.Native.Nat.{ℕ, zero, suc, ◌+◌, ◌-◌, ◌<◌}
use native.Mathlib.Nat.{zero-add}
use native.Mathlib.Omega.{arith}
use lib.ListN.{length}
use Rattle.meaning.specs.Close.{and_then}
use Rattle.meaning.specs.Areas.{joined}
use Rattle.meaning.specs.Listing.{Entry, entry_line, list_text, EntryFits, AllFit, Says, BadLine, field, Row, row, Text, after, lines, text_of}
use Rattle.meaning.proofs.If.{if_none, if_some}
use Rattle.meaning.proofs.ReadLine.{line_read, LineSpelt, line_spelt}

-- one line of several
pub lines_cons : (k b : ℕ) (s : List ℕ) → lines (suc k) (b ∷ s) ≡ elim (row (b ∷ s)) [ none ↦ Text.bad 1 | some r ↦ after r.entry (lines k r.rest) ]
unfolding lines
lines_cons k b s = refl

pub lines_none : (k : ℕ) → lines k [] ≡ Text.list []
unfolding lines
lines_none zero = refl
lines_none (suc k) = refl

pub lines_over : (b : ℕ) (s : List ℕ) → lines 0 (b ∷ s) ≡ Text.bad 1
unfolding lines
lines_over b s = refl

pub lines_row : (k : ℕ) (s : List ℕ) (r : Row) → row s ≡ some r → lines (suc k) s ≡ after r.entry (lines k r.rest)
unfolding row field and_then
lines_row k [] r q = let z : ◌≡◌ {A = ℕ} 0 1 = cc in absurd (omega arith)
lines_row k (b ∷ s) r q = lines_cons k b s ∙ if_some (Text.bad 1) (λ x. after x.entry (lines k x.rest)) r q

pub lines_bad : (k : ℕ) (s : List ℕ) → 0 < length s → row s ≡ none → lines (suc k) s ≡ Text.bad 1
lines_bad k [] h q = absurd (omega arith)
lines_bad k (b ∷ s) h q = lines_cons k b s ∙ if_none (Text.bad 1) (λ x. after x.entry (lines k x.rest)) q

-- good lines first
afters : List Entry → Text → Text
afters [] t = t
afters (e ∷ es) t = after e (afters es t)

afters_list : (es : List Entry) → afters es (Text.list []) ≡ Text.list es
unfolding afters after
afters_list [] = refl
afters_list (e ∷ es) = ap (after e) (afters_list es)

afters_bad : (es : List Entry) (n : ℕ) → afters es (Text.bad n) ≡ Text.bad (length es + n)
unfolding afters after
afters_bad [] n = ap Text.bad (sym (zero-add n))
afters_bad (e ∷ es) n = let u : suc (length es + n) ≡ suc (length es) + n = omega arith in ap (after e) (afters_bad es n) ∙ ap Text.bad u

goods_read : (k : ℕ) (es : List Entry) (t : List ℕ) → AllFit es → lines (length es + k) (list_text es ++ t) ≡ afters es (lines k t)
unfolding list_text joined AllFit afters
goods_read k [] t f = ap (λ j. lines j t) (zero-add k)
goods_read k (e ∷ es) t f =
    let u : suc (length es) + k ≡ suc (length es + k) = omega arith in
    ap (λ j. lines j (list_text (e ∷ es) ++ t)) u
    ∙ lines_row (length es + k) _ (record { entry = e; rest = list_text es ++ t })
    (ap row (append_assoc (entry_line e) (list_text es) t) ∙ line_read e (list_text es ++ t) f.0)
    ∙ ap (after e) (goods_read k es t f.1)

pub list_read : (k : ℕ) (s : List ℕ) (es : List Entry) → Says k s es → lines k s ≡ Text.list es
list_read k s es h =
    let few = h.few in
    let u : k ≡ length es + (k - length es) = omega arith in
    ap₂ lines u (h.text ∙ sym (append-nil (list_text es)))
    ∙ goods_read (k - length es) es [] h.fit
    ∙ ap (afters es) (lines_none (k - length es))
    ∙ afters_list es

pub bad_read : (k : ℕ) (s : List ℕ) (n : ℕ) → BadLine k s n → lines k s ≡ Text.bad n
bad_read k s n h =
    let few = h.before.few in
    let m = k - length h.good in
    let u : k ≡ length h.good + m = omega arith in
    let v : length h.good + 1 ≡ n = omega (arith, h.number) in
    ap₂ lines u h.text
    ∙ goods_read m h.good h.rest h.before.fit
    ∙ ap (afters h.good) (last m (omega arith) h.rest h.more h.bad)
    ∙ afters_bad h.good 1
    ∙ ap Text.bad v
  where
    no_row : (t : List ℕ) (x : Option Row) → row t ≡ x → ((e : Entry) (u : List ℕ) → EntryFits e → t ≡ entry_line e ++ u → ⊥) → row t ≡ none
    no_row t none q g = q
    no_row t (some r) q g = let o = line_spelt t r q in absurd (g r.entry r.rest o.fits o.text)

    last : (m : ℕ) → m ≡ k - length h.good → (t : List ℕ) → 0 < length t → (length h.good < k → (e : Entry) (u : List ℕ) → EntryFits e → t ≡ entry_line e ++ u → ⊥)
        → lines m t ≡ Text.bad 1
    last zero q [] l g = absurd (omega arith)
    last zero q (b ∷ t) l g = lines_over b t
    last (suc m) q t l g = lines_bad m t l (no_row t (row t) refl (g (omega arith)))

-- what `after` tells
after_list : (e : Entry) (x : Text) (es : List Entry) → after e x ≡ Text.list es → (fs : List Entry) × (x ≡ Text.list fs) × (e ∷ fs ≡ es)
unfolding after
after_list e (Text.list fs) es q = (fs, refl, cc)
after_list e (Text.bad n) es q = let z : ◌≡◌ {A = ℕ} 0 1 = cc in absurd (omega arith)

after_bad : (e : Entry) (x : Text) (n : ℕ) → after e x ≡ Text.bad n → (m : ℕ) × (x ≡ Text.bad m) × (suc m ≡ n)
unfolding after
after_bad e (Text.list fs) n q = let z : ◌≡◌ {A = ℕ} 0 1 = cc in absurd (omega arith)
after_bad e (Text.bad m) n q = (m, refl, cc)

says_none : (k : ℕ) (es : List Entry) → Text.list [] ≡ Text.list es → Says k [] es
unfolding AllFit list_text joined
says_none k es q =
    let e : [] ≡ es = cc in
    subst (Says k []) e (record { few = omega arith; fit = tt; text = refl })

says_more : (k : ℕ) (s : List ℕ) (r : Row) (es : List Entry) → LineSpelt s r → Says k r.rest es → Says (suc k) s (r.entry ∷ es)
unfolding AllFit list_text joined
says_more k s r es h o =
    record {
      few = omega (arith, o.few);
      fit = (h.fits, o.fit);
      text = h.text ∙ ap (λ t. entry_line r.entry ++ t) o.text;
    }

pub list_spelt : (k : ℕ) (s : List ℕ) (es : List Entry) → lines k s ≡ Text.list es → Says k s es
unfolding lines
list_spelt zero [] es q = says_none 0 es q
list_spelt zero (b ∷ s) es q = let z : ◌≡◌ {A = ℕ} 0 1 = cc in absurd (omega arith)
list_spelt (suc k) [] es q = says_none (suc k) es q
list_spelt (suc k) (b ∷ s) es q = go (row (b ∷ s)) refl (list_spelt k)
  where
    go : (x : Option Row) → row (b ∷ s) ≡ x → ((t : List ℕ) (fs : List Entry) → lines k t ≡ Text.list fs → Says k t fs) → Says (suc k) (b ∷ s) es
    go none p i =
        let u : Text.bad 1 ≡ Text.list es = sym (lines_bad k (b ∷ s) (omega arith) p) ∙ q in
        let z : ◌≡◌ {A = ℕ} 0 1 = cc in absurd (omega arith)
    go (some r) p i =
        let a = after_list r.entry (lines k r.rest) es (sym (lines_row k (b ∷ s) r p) ∙ q) in
        subst (Says (suc k) (b ∷ s)) a.2 (says_more k (b ∷ s) r a.0 (line_spelt (b ∷ s) r p) (i r.rest a.0 a.1))

bad_first : (k b : ℕ) (s : List ℕ) (n : ℕ) → n ≡ 1 → (0 < k → row (b ∷ s) ≡ none) → BadLine k (b ∷ s) n
unfolding AllFit list_text joined
bad_first k b s n u h =
    record {
      good = [];
      rest = b ∷ s;
      before = record { few = omega arith; fit = tt; text = refl };
      text = refl;
      number = u;
      more = omega arith;
      bad = λ l e t f q.
          let v : row (b ∷ s) ≡ some (record { entry = e; rest = t }) = ap row q ∙ line_read e t f in
          let w = h l in
          let z : ◌≡◌ {A = ℕ} 0 1 = cc in
          omega arith;
    }

bad_more : (k : ℕ) (s : List ℕ) (r : Row) (m : ℕ) → LineSpelt s r → BadLine k r.rest m → BadLine (suc k) s (suc m)
unfolding list_text joined
bad_more k s r m h o =
    record {
      good = r.entry ∷ o.good;
      rest = o.rest;
      before = says_more k _ (record { entry = r.entry; rest = list_text o.good }) o.good (record { fits = h.fits; text = refl }) o.before;
      text =
          h.text
          ∙ ap (λ t. entry_line r.entry ++ t) o.text
          ∙ sym (append_assoc (entry_line r.entry) (list_text o.good) o.rest);
      number = ap suc o.number;
      more = o.more;
      bad = λ l. o.bad (omega arith);
    }

pub bad_spelt : (k : ℕ) (s : List ℕ) (n : ℕ) → lines k s ≡ Text.bad n → BadLine k s n
unfolding lines
bad_spelt zero [] n q = let z : ◌≡◌ {A = ℕ} 0 1 = cc in absurd (omega arith)
bad_spelt zero (b ∷ s) n q = let u : 1 ≡ n = cc in bad_first 0 b s n (sym u) (λ l. absurd (omega arith))
bad_spelt (suc k) [] n q = let z : ◌≡◌ {A = ℕ} 0 1 = cc in absurd (omega arith)
bad_spelt (suc k) (b ∷ s) n q = go (row (b ∷ s)) refl (bad_spelt k)
  where
    go : (x : Option Row) → row (b ∷ s) ≡ x → ((t : List ℕ) (m : ℕ) → lines k t ≡ Text.bad m → BadLine k t m) → BadLine (suc k) (b ∷ s) n
    go none p i =
        let v : Text.bad 1 ≡ Text.bad n = sym (lines_bad k (b ∷ s) (omega arith) p) ∙ q in
        let u : 1 ≡ n = cc in bad_first (suc k) b s n (sym u) (λ l. p)
    go (some r) p i =
        let a = after_bad r.entry (lines k r.rest) n (sym (lines_row k (b ∷ s) r p) ∙ q) in
        subst (BadLine (suc k) (b ∷ s)) a.2 (bad_more k (b ∷ s) r a.0 (line_spelt (b ∷ s) r p) (i r.rest a.0 a.1))

-- an input says a list exactly if it is the list's text
pub says_exactly : (s : List ℕ) (es : List Entry) → (text_of s ≡ Text.list es) ↔ Says 512 s es
unfolding text_of
says_exactly s es = (list_spelt 512 s es, list_read 512 s es)

-- and is refused exactly with its first bad line
pub bad_exactly : (s : List ℕ) (n : ℕ) → (text_of s ≡ Text.bad n) ↔ BadLine 512 s n
unfolding text_of
bad_exactly s n = (bad_spelt 512 s n, bad_read 512 s n)
