-- Reading undoes writing, and writing undoes reading: of a number and of a line.
use mathlib.Core.Path.{◌≡◌, refl, sym, ap, ap₂, subst, ◌∙◌}
use mathlib.Core.Bool.{Bool, true, false}
use mathlib.Core.Option.{Option, none, some}
use mathlib.Core.List.{List, [], ◌∷◌, ◌++◌, append_assoc}
use Prim.Native.Nat.{ℕ, zero, suc, ◌+◌, ◌-◌, ◌*◌, ◌/◌, ◌%◌, ◌^◌, ◌<◌, ◌≤◌}
use native.Mathlib.Nat.{pow-suc}
use native.Mathlib.Omega.{arith}
use borrow.Author.Tests.{ltb-true, ltb-false, lt-ltb, le-leb, leb-true, eq-eqb, eqb-true, eqb-false, ne_eqb}
use lib.Dec.{ltb, leb, eqb}
use Rattle.meaning.specs.Close.{and_then, test}
use Rattle.meaning.specs.Listing.{decimal, digits, ended, line, Entry, entry_line, wide, EntryFits, digit, with_digit, Field, got, scan, field, Row, row}
use Rattle.meaning.proofs.If.{if_true, if_false}
use Rattle.meaning.proofs.Spelling.{decimal_small, decimal_large, digits_small, digits_large}

-- what a step that gave something tells
test_told : (b : Bool) (x : Option ℕ) (w : ℕ) → test b x ≡ some w → (b ≡ true) × (x ≡ some w)
unfolding test
test_told true x w e = (refl, e)
test_told false x w e = let z : ◌≡◌ {A = ℕ} 0 1 = cc in absurd (omega arith)

pub then_told {ℓ κ} : {A : Type ℓ} {B : Type κ} (x : Option A) (f : A → Option B) (b : B) → and_then x f ≡ some b → (a : A) × (x ≡ some a) × (f a ≡ some b)
unfolding and_then
then_told none f b e = let z : ◌≡◌ {A = ℕ} 0 1 = cc in absurd (omega arith)
then_told (some a) f b e = (a, refl, e)

pub then_some {ℓ κ} : {A : Type ℓ} {B : Type κ} {x : Option A} (f : A → Option B) (a : A) → x ≡ some a → and_then x f ≡ f a
unfolding and_then
then_some {x = x} f a e = rw e

pub then_none {ℓ κ} : {A : Type ℓ} {B : Type κ} {x : Option A} (f : A → Option B) → x ≡ none → and_then x f ≡ none
unfolding and_then
then_none {x = x} f e = rw e

some_same {ℓ} : {A : Type ℓ} (a b : A) → some a ≡ some b → a ≡ b
some_same a b e = cc

-- a digit as it is written is a digit as it is read
digit_is : (d : ℕ) → d < 10 → digit (48 + d) ≡ some d
unfolding digit test
digit_is d l =
    let e : 48 + d - 48 ≡ d = omega arith in
    simp (le-leb 48 (48 + d) (omega arith), le-leb (48 + d) 57 (omega arith)) (ap some e)

digit_told : (b d : ℕ) → digit b ≡ some d → (d < 10) × (b ≡ 48 + d)
unfolding digit
digit_told b d e =
    let p = test_told (leb 48 b) _ d e in
    let q = test_told (leb b 57) _ d p.1 in
    let l = leb-true 48 b p.0 in
    let m = leb-true b 57 q.0 in
    let u : b - 48 ≡ d = some_same (b - 48) d q.1 in
    (omega arith, omega arith)

with_is : (n : ℕ) → 10 ≤ n → n < wide → with_digit (n / 10) (48 + n % 10) ≡ some n
unfolding with_digit test
with_is n l h =
    let e : 10 * (n / 10) + n % 10 ≡ n = omega arith in
    simp (lt-ltb 0 (n / 10) (omega arith), then_some (λ d. test (ltb (10 * (n / 10) + d) wide) (some (10 * (n / 10) + d))) (n % 10) (digit_is (n % 10) (omega arith)), lt-ltb (10 * (n / 10) + n % 10) wide (omega arith)) (ap some e)

with_told : (v b w : ℕ) → with_digit v b ≡ some w → (10 ≤ w) × (w < wide) × (w / 10 ≡ v) × (b ≡ 48 + w % 10)
unfolding with_digit
with_told v b w e =
    let p = test_told (ltb 0 v) _ w e in
    let q = then_told (digit b) _ w p.1 in
    let r = digit_told b q.0 q.1 in
    let t = test_told (ltb (10 * v + q.0) wide) _ w q.2 in
    let n = ltb-true 0 v p.0 in
    let h = ltb-true (10 * v + q.0) wide t.0 in
    let u : 10 * v + q.0 ≡ w = some_same (10 * v + q.0) w t.1 in
    (omega (arith, r.0), omega arith, omega (arith, r.0), omega (arith, r.0, r.1))

-- one byte of a number
module _ (stop v b : ℕ) (s : List ℕ) where
  pub scan_stop : b ≡ stop → scan stop v (b ∷ s) ≡ got v s
  unfolding scan
  scan_stop e = if_true _ _ (eq-eqb b stop e)

  pub scan_digit : (b ≡ stop → ⊥) → scan stop v (b ∷ s) ≡ and_then (with_digit v b) (λ w. scan stop w s)
  unfolding scan
  scan_digit n = if_false _ _ (ne_eqb b stop n)

pub field_cons : (stop b : ℕ) (s : List ℕ) → field stop (b ∷ s) ≡ and_then (digit b) (λ v. scan stop v s)
unfolding field
field_cons stop b s = refl

module _ (stop : ℕ) (mark : stop < 48) where
  one_read : (d : ℕ) (t : List ℕ) → d < 10 → field stop ((48 + d) ∷ t) ≡ scan stop d t
  one_read d t l = field_cons stop (48 + d) t ∙ then_some (λ v. scan stop v t) d (digit_is d l)

  more_read : (n : ℕ) (t : List ℕ) → 10 ≤ n → n < wide → scan stop (n / 10) ((48 + n % 10) ∷ t) ≡ scan stop n t
  more_read n t l h = scan_digit stop (n / 10) (48 + n % 10) t (λ z. omega arith) ∙ then_some (λ w. scan stop w t) n (with_is n l h)

  decimal_read : (k n : ℕ) (t : List ℕ) → n < 10 ^ suc k → n < wide → field stop (decimal (suc k) n ++ t) ≡ scan stop n t
  decimal_read zero n t l h = ap (λ x. field stop (x ++ t)) (decimal_small 0 n l) ∙ one_read n t l
  decimal_read (suc k) n t l h =
      go (ltb n 10) refl (decimal_read k (n / 10) ((48 + n % 10) ∷ t) (omega (arith, pow-suc 10 (suc k))) (omega arith))
    where
      go : (b : Bool) → ltb n 10 ≡ b → field stop (decimal (suc k) (n / 10) ++ (48 + n % 10) ∷ t) ≡ scan stop (n / 10) ((48 + n % 10) ∷ t)
          → field stop (decimal (suc (suc k)) n ++ t) ≡ scan stop n t
      go true e i = ap (λ x. field stop (x ++ t)) (decimal_small (suc k) n (ltb-true n 10 e)) ∙ one_read n t (ltb-true n 10 e)
      go false e i =
          ap (λ x. field stop (x ++ t)) (decimal_large (suc k) n (ltb-false n 10 e))
          ∙ ap (field stop) (append_assoc (decimal (suc k) (n / 10)) ((48 + n % 10) ∷ []) t)
          ∙ i
          ∙ more_read n t (ltb-false n 10 e) h

  -- the text of a number reads back as the number
  number_read : (n : ℕ) (t : List ℕ) → n < wide → field stop (ended (digits n) stop ++ t) ≡ got n t
  unfolding digits ended
  number_read n t h =
      ap (field stop) (append_assoc (decimal 20 n) (stop ∷ []) t)
      ∙ decimal_read 19 n (stop ∷ t) (omega arith) h
      ∙ scan_stop stop n stop t refl

-- a number that was read: the text that it was read from is its text
record Spelt (stop : ℕ) (s : List ℕ) (f : Field) : Type 0 where
  fits : f.value < wide
  text : s ≡ ended (digits f.value) stop ++ f.rest

ended_append : (f : List ℕ) (stop : ℕ) (t : List ℕ) → ended f stop ++ t ≡ f ++ stop ∷ t
unfolding ended
ended_append f stop t = append_assoc f (stop ∷ []) t

longer : (v b w : ℕ) (s : List ℕ) → 10 ≤ w → w < wide → w / 10 ≡ v → b ≡ 48 + w % 10 → digits v ++ b ∷ s ≡ digits w ++ s
longer v b w s l h e f =
    ap₂ (λ (x y : ℕ). digits x ++ y ∷ s) (sym e) f
    ∙ sym (append_assoc (digits (w / 10)) ((48 + w % 10) ∷ []) s)
    ∙ ap (λ x. x ++ s) (sym (digits_large w l (omega arith)))

module _ (stop : ℕ) where
  -- the digits of v, and what follows them
  scan_spelt : (v : ℕ) (s : List ℕ) (f : Field) → v < wide → scan stop v s ≡ some f → Spelt stop (digits v ++ s) f
  unfolding scan
  scan_spelt v [] f l e = let z : ◌≡◌ {A = ℕ} 0 1 = cc in absurd (omega arith)
  scan_spelt v (b ∷ s) f l e = go (eqb b stop) refl (λ w. scan_spelt w s f)
    where
      go : (x : Bool) → eqb b stop ≡ x → ((w : ℕ) → w < wide → scan stop w s ≡ some f → Spelt stop (digits w ++ s) f) → Spelt stop (digits v ++ b ∷ s) f
      go true p i =
          let u : record { value = v; rest = s } ≡ f = some_same _ f (sym (scan_stop stop v b s (eqb-true b stop p)) ∙ e) in
          let m : b ≡ stop = eqb-true b stop p in
          subst (Spelt stop (digits v ++ b ∷ s)) u
          (record { fits = l; text = ap (λ x. digits v ++ x ∷ s) m ∙ sym (ended_append (digits v) stop s) })
      go false p i =
          let q = then_told (with_digit v b) (λ w. scan stop w s) f (sym (scan_digit stop v b s (eqb-false b stop p)) ∙ e) in
          let r = with_told v b q.0 q.1 in
          let o = i q.0 r.1 q.2 in
          record { fits = o.fits; text = longer v b q.0 s r.0 r.1 r.2 r.3 ∙ o.text }

  -- a text that is read as a number is the number's text
  number_spelt : (s : List ℕ) (f : Field) → field stop s ≡ some f → Spelt stop s f
  unfolding field
  number_spelt [] f e = let z : ◌≡◌ {A = ℕ} 0 1 = cc in absurd (omega arith)
  number_spelt (b ∷ s) f e =
      let q = then_told (digit b) (λ v. scan stop v s) f e in
      let d = q.0 in
      let r = digit_told b d q.1 in
      let o = scan_spelt d s f (omega (arith, r.0)) q.2 in
      let x : digits d ++ s ≡ b ∷ s = ap (λ t. t ++ s) (digits_small d r.0) ∙ ap (λ y. y ∷ s) (sym r.1) in
      record { fits = o.fits; text = sym x ∙ o.text }

-- a line
pub line_read : (e : Entry) (t : List ℕ) → EntryFits e → row (entry_line e ++ t) ≡ some (record { entry = e; rest = t })
unfolding row entry_line line
line_read e t f =
    let v = e.level in
    let w = e.label in
    then_some _ (record { value = v; rest = ended (digits w) 10 ++ t })
    (ap (field 9) (append_assoc (ended (digits v) 9) (ended (digits w) 10) t) ∙ number_read 9 (omega arith) v (ended (digits w) 10 ++ t) f.level)
    ∙ then_some _ (record { value = w; rest = t }) (number_read 10 (omega arith) w t f.label)

pub record LineSpelt (s : List ℕ) (r : Row) : Type 0 where
  pub fits : EntryFits r.entry
  pub text : s ≡ entry_line r.entry ++ r.rest

pub line_spelt : (s : List ℕ) (r : Row) → row s ≡ some r → LineSpelt s r
unfolding row entry_line line
line_spelt s r q =
    let a = then_told (field 9 s) _ r q in
    let f = a.0 in
    let b = then_told (field 10 f.rest) _ r a.2 in
    let g = b.0 in
    let x = number_spelt 9 s f a.1 in
    let y = number_spelt 10 f.rest g b.1 in
    subst (LineSpelt s) (some_same _ r b.2)
    (record {
      fits = record { level = x.fits; label = y.fits };
      text =
          x.text
          ∙ ap (λ t. ended (digits f.value) 9 ++ t) y.text
          ∙ sym (append_assoc (ended (digits f.value) 9) (ended (digits g.value) 10) g.rest);
    })
