-- Lines put piece by piece.
use mathlib.Core.Path.{◌≡◌, refl, sym, ap}
use mathlib.Core.List.{List, ◌++◌, append_assoc}
use Prim.Native.Nat.{ℕ, zero, suc}
use native.Mathlib.Omega.{arith}
use Rattle.meaning.specs.Listing.{digits, ended, line, sibling_field, refusal_line}
use Rattle.meaning.specs.Quoted.{quoted}
use Rattle.listing.specs.Said.{Puts, refusal_with, carried_text}
use Rattle.std.specs.Prelude.{Option, None, Some}
use Rattle.listing.specs.declared.Carried.{Carried}
use Rattle.listing.specs.declared.Carried.TheVariants.{One, Two}
use Rattle.listing.proofs.Putting.{next, halted, spelt}

-- two runs of bytes that one call put, and what comes after
pub pair_next : (xs ys zs : List ℕ) {s t u : List ℕ} {a p : ℕ} {q r : Option ℕ} → Puts s a (xs ++ ys) q t → q ≡ Some p → Puts t p zs r u → Puts s a (xs ++ (ys ++ zs)) r u
pair_next xs ys zs f e g = spelt (sym (append_assoc xs ys zs)) (next f e g)

pub pair_halted : (xs ys zs : List ℕ) {s t : List ℕ} {a : ℕ} {q r : Option ℕ} → Puts s a (xs ++ ys) q t → q ≡ None → r ≡ None → Puts s a (xs ++ (ys ++ zs)) r t
pair_halted xs ys zs f e h = spelt (sym (append_assoc xs ys zs)) (halted zs f e h)

-- a sibling's field
dash : (n : ℕ) → n ≡ 0 → ended (sibling_field n) 10 ≡ quoted "-\n"
unfolding ended sibling_field quoted
dash zero e = refl
dash (suc n) e = absurd (omega arith)

id_field : (n : ℕ) → (n ≡ 0 → ⊥) → sibling_field n ≡ digits n
unfolding sibling_field
id_field zero e = absurd (e refl)
id_field (suc n) e = refl

pub dash_put : {s t : List ℕ} {a n : ℕ} {r : Option ℕ} → n ≡ 0 → Puts s a (quoted "-\n") r t → Puts s a (ended (sibling_field n) 10) r t
dash_put {n = n} e f = spelt (dash n e) f

pub id_put : {s t : List ℕ} {a n : ℕ} {r : Option ℕ} → (n ≡ 0 → ⊥) → Puts s a (ended (digits n) 10) r t → Puts s a (ended (sibling_field n) 10) r t
id_put {n = n} e f = spelt (ap (λ x. ended x 10) (id_field n e)) f

-- what a refusal carries
pub one_put : {s t : List ℕ} {a x : ℕ} {c : Carried} {r : Option ℕ} → c ≡ One x → Puts s a (ended (digits x) 10) r t → Puts s a (carried_text c) r t
unfolding line
one_put e f = spelt (ap carried_text e) f

pub two_put : {s t : List ℕ} {a x y : ℕ} {c : Carried} {r : Option ℕ} → c ≡ Two x y → Puts s a (ended (digits x) 9 ++ ended (digits y) 10) r t → Puts s a (carried_text c) r t
unfolding line
two_put e f = spelt (ap carried_text e) f

refusal_text : (n : ℕ) (c : Carried) → refusal_line (refusal_with n c) ≡ quoted "refused\t" ++ (ended (digits n) 9 ++ carried_text c)
unfolding refusal_line line ended quoted
refusal_text n (One x) = refl
refusal_text n (Two x y) = refl

pub refusal_put : (n : ℕ) (c : Carried) {s t : List ℕ} {a : ℕ} {r : Option ℕ} → Puts s a (quoted "refused\t" ++ (ended (digits n) 9 ++ carried_text c)) r t → Puts s a (refusal_line (refusal_with n c)) r t
refusal_put n c f = spelt (refusal_text n c) f
