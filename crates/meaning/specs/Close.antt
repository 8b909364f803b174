-- Close of an open p. By steps; none is BROKEN.
use Rattle.std.specs.Prelude.{Bool, true, false, ◌&&◌, List, [], ◌∷◌, ℕ, zero, suc, ◌+◌, ◌*◌, ◌-◌, ◌/◌, ◌%◌, ltb, leb, eqb, length, get_or}
use Rattle.std.proofs.Math.Option.{Option, none, some}
use Rattle.meaning.specs.Answers.{Answer, is, nothing, refused}
use Rattle.meaning.specs.Dictionary.{Dict, rank_of, select_of, pred_of}
use Rattle.meaning.specs.Family.{Level}

-- "If the word holds it, that one": k places of it are left, the next is i, and d opens after p wait for theirs; bits past the length read as zeros
unfoldable pub in_word : List Bool → ℕ → ℕ → ℕ → Option ℕ
in_word l d i zero = none
in_word l d i (suc k) =
    elim (get_or l i false) [ true ↦ in_word l (suc d) (suc i) k | false ↦ elim d [ zero ↦ some i | suc e ↦ in_word l e (suc i) k ] ]

-- "Let d be opens less closes from q up to before p": k places are left, the next is i, d so far; none: a count below zero
unfoldable pub excess : List Bool → ℕ → ℕ → ℕ → Option ℕ
excess l d i zero = some d
excess l d i (suc k) =
    elim (get_or l i false) [ true ↦ excess l (suc d) (suc i) k | false ↦ elim d [ zero ↦ none | suc e ↦ excess l e (suc i) k ] ]

-- "walk left from c - 1 to c's word's start, one up for a close and one down for an open. The answer is the LAST close at which the count is d".
-- One place, whose bit is b: a close takes the count up, and is the answer so far if it comes to d; an open takes it down
unfoldable pub left_bit : List Bool → ℕ → ℕ → ℕ → ℕ → Option ℕ → Bool → (ℕ → Option ℕ → Option ℕ) → Option ℕ
left_bit l s d k e best false go = go (suc e) (elim (eqb (suc e) d) [ true ↦ some (s + k) | false ↦ best ])
left_bit l s d k zero best true go = none
left_bit l s d k (suc e) best true go = go e best

-- k places are left, the next to look at is s + k - 1, the first of the word is s; none: a count below zero, or no close at d
unfoldable pub left_from : List Bool → ℕ → ℕ → ℕ → ℕ → Option ℕ → Option ℕ
left_from l s d zero e best = best
left_from l s d (suc k) e best = left_bit l s d k e best (get_or l (s + k) false) (λ e b. left_from l s d k e b)

-- "and c be q's close: if d is 0 the answer is c. Otherwise walk left"
unfoldable pub from_close : List Bool → ℕ → ℕ → Option ℕ
from_close l zero c = some c
from_close l (suc d) c = left_from l (c / 64 * 64) (suc d) (c % 64) 0 none

-- a step after a step
unfoldable pub and_then {ℓ κ} : {A : Type ℓ} {B : Type κ} → Option A → (A → Option B) → Option B
and_then none f = none
and_then (some a) f = f a

-- select must find
unfoldable pub found : Answer ℕ → Option ℕ
found (is i) = some i
found nothing = none
found (refused e) = none

-- a test must hold
unfoldable pub test : Bool → Option ℕ → Option ℕ
test true x = x
test false x = none

-- "takes any count below zero"
unfoldable pub less : ℕ → Option ℕ
less zero = none
less (suc n) = some n

-- "which asks its own string for the close": the family's close of a flagged place q, `up` answers for the pioneer string
unfoldable pub family_close : Dict → (ℕ → Option ℕ) → ℕ → Option ℕ
family_close d up q =
    and_then (rank_of d q) (λ r.
    and_then (less r) (λ i.
    and_then (up i) (λ k.
    found (select_of d (suc k)))))

-- "Otherwise the question goes up to the family": from q, "the last flagged place at or before p", in p's own block
unfoldable pub far_close : Level → (ℕ → Option ℕ) → ℕ → Option ℕ
far_close v up p =
    and_then (found (pred_of v.dict p)) (λ q.
    test (leb q p && eqb (q / 64) (p / 64))
    (and_then (family_close v.dict up q) (λ c.
    test (ltb c (length v.bits))
    (and_then (excess v.bits 0 q (p - q)) (λ d.
    from_close v.bits d c)))))

-- the close of the open p at the first level; none: BROKEN
unfoldable pub close_at : List Level → ℕ → Option ℕ
close_at [] p = none
close_at (v ∷ up) p =
    test (get_or v.bits p false)
    (elim (in_word v.bits 0 (suc p) (63 - p % 64)) [
      | some c ↦ test (ltb c (length v.bits)) (some c)
      | none ↦ far_close v (λ i. close_at up i) p
    ])
