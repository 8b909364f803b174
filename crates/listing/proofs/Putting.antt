-- Bytes put after bytes.
use mathlib.Core.Path.{◌≡◌, refl, sym, ap, ap₂, subst, ◌∙◌}
use mathlib.Core.Bool.{Bool, true, false}
use mathlib.Core.List.{List, [], ◌∷◌, ◌++◌}
use Prim.Native.Nat.{ℕ, suc, ◌+◌, ◌/◌, ◌%◌, ◌<◌, ◌≤◌}
use native.Mathlib.Numerals.{add-one}
use native.Mathlib.Omega.{arith}
use borrow.Author.Tests.{le-leb, lt-leb, leb-true, leb-false}
use lib.Dec.{leb}
use lib.ListN.{length, get_or, take, drop, set, length-append, take-append-drop}
use lib.Seq.{sets, length-sets, set_out, take-suc, take_all}
use Rattle.meaning.specs.Listing.{digits}
use Rattle.meaning.proofs.Runs.{sets_append}
use Rattle.meaning.proofs.Spelling.{digits_small, digits_large}
use Rattle.listing.specs.Said.{Puts, put_by, put_of}
use Rattle.std.specs.Prelude.{Option, None, Some}
use Rattle.std.specs.ControlFlow.{continue_value}
use Rattle.std.proofs.Common.{ControlFlow, Break, Continue}

sets_past : (s : List ℕ) (a : ℕ) (xs : List ℕ) → length s ≤ a → sets s a xs ≡ s
sets_past s a [] l = refl
sets_past s a (x ∷ xs) l =
    ap (λ (t : List ℕ). sets t (suc a) xs) (set_out s a x l) ∙ sets_past s (suc a) xs (omega arith)

-- what the answer tells
pub is_next : (m a k p : ℕ) → Some p ≡ put_of m a k → (p ≡ a + k) × (a + k ≤ m)
is_next m a k p e = go (leb (a + k) m) refl e
  where
    go : (b : Bool) → leb (a + k) m ≡ b → Some p ≡ put_by b (a + k) → (p ≡ a + k) × (a + k ≤ m)
    go true h q = (cc, leb-true (a + k) m h)
    go false h q = let z : ◌≡◌ {A = ℕ} 0 1 = cc in absurd (omega arith)

pub is_room : (m a k : ℕ) → None ≡ put_of m a k → m < a + k
is_room m a k e = go (leb (a + k) m) refl e
  where
    go : (b : Bool) → leb (a + k) m ≡ b → None ≡ put_by b (a + k) → m < a + k
    go true h q = let z : ◌≡◌ {A = ℕ} 0 1 = cc in absurd (omega arith)
    go false h q = leb-false (a + k) m h

fits : (m a k : ℕ) → a + k ≤ m → Some (a + k) ≡ put_of m a k
fits m a k l = sym (ap (λ (b : Bool). put_by b (a + k)) (le-leb (a + k) m l))

full : (m a k : ℕ) → m < a + k → None ≡ put_of m a k
full m a k l = sym (ap (λ (b : Bool). put_by b (a + k)) (lt-leb (a + k) m l))

pub put_one : (s : List ℕ) (a b : ℕ) → a < length s → Puts s a (b ∷ []) (Some (a + 1)) (set s a b)
put_one s a b l = record { answer = fits (length s) a 1 (omega arith); bytes = refl }

pub put_past : (s : List ℕ) (a b : ℕ) → length s ≤ a → Puts s a (b ∷ []) None s
put_past s a b l = record { answer = full (length s) a 1 (omega arith); bytes = sym (sets_past s a (b ∷ []) l) }

-- what `?` goes on with, and what it returns
pub went : {B T : Type 0} {q : Option T} {b : ControlFlow B T} {x : T} → q ≡ continue_value b → b ≡ Continue x → q ≡ Some x
went e f = e ∙ ap continue_value f

pub broke : {B T : Type 0} {q : Option T} {b : ControlFlow B T} {x : B} → q ≡ continue_value b → b ≡ Break x → q ≡ None
broke e f = e ∙ ap continue_value f

-- one run of bytes after another
then : {s t u : List ℕ} {a p : ℕ} {xs ys : List ℕ} {r : Option ℕ} → Puts s a xs (Some p) t → Puts t p ys r u → Puts s a (xs ++ ys) r u
then {s} {t} {u} {a} {p} {xs} {ys} {r} f g =
    let h = is_next (length s) a (length xs) p f.answer in
    let m : length t ≡ length s = ap length f.bytes ∙ length-sets s a xs in
    let k : p + length ys ≡ a + length (xs ++ ys) = omega (arith, length-append xs ys, h.0) in
    record {
      answer = g.answer ∙ ap₂ (λ (n j : ℕ). put_by (leb j n) j) m k;
      bytes = g.bytes ∙ ap₂ (λ (v : List ℕ) (j : ℕ). sets v j ys) f.bytes h.0 ∙ sym (sets_append s a xs ys);
    }

-- where the first run does not fit, neither do both
stopped : {s t : List ℕ} {a : ℕ} {xs : List ℕ} (ys : List ℕ) → Puts s a xs None t → Puts s a (xs ++ ys) None t
stopped {s} {t} {a} {xs} ys f =
    let h = is_room (length s) a (length xs) f.answer in
    record {
      answer = full (length s) a (length (xs ++ ys)) (omega (arith, length-append xs ys));
      bytes = f.bytes ∙ sym (sets_append s a xs ys ∙ sets_past (sets s a xs) (a + length xs) ys (omega (arith, length-sets s a xs)));
    }

-- the same with the answer as a call gives it
pub told : {s t xs : List ℕ} {a : ℕ} {q r : Option ℕ} → Puts s a xs q t → q ≡ r → Puts s a xs r t
told {s} {t} {xs} {a} f e = subst (λ (x : Option ℕ). Puts s a xs x t) e f

pub next : {s t u : List ℕ} {a p : ℕ} {xs ys : List ℕ} {q r : Option ℕ} → Puts s a xs q t → q ≡ Some p → Puts t p ys r u → Puts s a (xs ++ ys) r u
next f e g = then (told f e) g

pub halted : {s t : List ℕ} {a : ℕ} {xs : List ℕ} {q r : Option ℕ} (ys : List ℕ) → Puts s a xs q t → q ≡ None → r ≡ None → Puts s a (xs ++ ys) r t
halted ys f e h = told (stopped ys (told f e)) (sym h)

-- the same bytes under another name
pub spelt : {s t : List ℕ} {a : ℕ} {xs ys : List ℕ} {r : Option ℕ} → xs ≡ ys → Puts s a ys r t → Puts s a xs r t
spelt {s} {t} {a} {xs} {ys} {r} e f = subst (λ (x : List ℕ). Puts s a x r t) (sym e) f

-- no bytes
pub none_put : (s : List ℕ) (a : ℕ) → a ≤ length s → Puts s a [] (Some a) s
none_put s a l =
    let e : a ≡ a + 0 = omega arith in
    record { answer = ap Some e ∙ fits (length s) a 0 (omega arith); bytes = refl }

pub none_fit : (s xs : List ℕ) (a : ℕ) → length s < a → Puts s a xs None s
none_fit s xs a l = record { answer = full (length s) a (length xs) (omega arith); bytes = sym (sets_past s a xs (omega arith)) }

pub same_size : {s t xs : List ℕ} {a : ℕ} {r : Option ℕ} → Puts s a xs r t → length t ≡ length s
same_size {s} {t} {xs} {a} f = ap length f.bytes ∙ length-sets s a xs

-- the first i bytes of xs stand in t from place a on, up to p
pub record Copied (xs s : List ℕ) (a : ℕ) (t : List ℕ) (p i : ℕ) : Type 0 where
  pub within : i ≤ length xs
  pub same : length t ≡ length s
  pub is : Puts s a (take i xs) (Some p) t

pub copied_none : (xs s : List ℕ) (a : ℕ) → a ≤ length s → Copied xs s a s a 0
copied_none xs s a l = record { within = omega arith; same = refl; is = none_put s a l }

module _ {xs s t u : List ℕ} {a p i : ℕ} {q : Option ℕ} (c : Copied xs s a t p i) (l : i < length xs) (g : Puts t p (get_or xs i 0 ∷ []) q u) where
  one_more : Puts s a (take (i + 1) xs) q u
  one_more = spelt (rw (add-one, take-suc xs i 0)) (then c.is g)

  pub copied_more : (r : ℕ) → q ≡ Some r → Copied xs s a u r (i + 1)
  copied_more r e = let h = told one_more e in record { within = omega arith; same = same_size h; is = h }

  pub copied_halted : {r : Option ℕ} → q ≡ None → r ≡ None → Puts s a xs r u
  copied_halted e h = spelt (sym (take-append-drop (i + 1) xs)) (halted (drop (i + 1) xs) one_more e h)

pub copied_all : {xs s t : List ℕ} {a p i : ℕ} → Copied xs s a t p i → length xs ≤ i → Puts s a xs (Some p) t
copied_all {xs} {i = i} c l = spelt (sym (take_all i xs l)) c.is

-- the digits of a number
pub number_small : {s t : List ℕ} {a n : ℕ} {r : Option ℕ} → n < 10 → Puts s a ((48 + n) ∷ []) r t → Puts s a (digits n) r t
number_small {n = n} l f = spelt (digits_small n l) f

module _ {s t : List ℕ} {a n : ℕ} {q : Option ℕ} (l : 10 ≤ n) (h : n < 18446744073709551616) (f : Puts s a (digits (n / 10)) q t) where
  pub number_halted : {r : Option ℕ} → q ≡ None → r ≡ None → Puts s a (digits n) r t
  number_halted e g = spelt (digits_large n l h) (halted ((48 + n % 10) ∷ []) f e g)

  pub number_more : {u : List ℕ} {p : ℕ} {r : Option ℕ} → q ≡ Some p → Puts t p ((48 + n % 10) ∷ []) r u → Puts s a (digits n) r u
  number_more e g = spelt (digits_large n l h) (next f e g)
