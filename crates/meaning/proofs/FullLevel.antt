-- FULL is given exactly at the lowest level that has a full block, with its lowest block.
use mathlib.Core.Path.{◌≡◌, refl, sym, ap, ◌∙◌, subst}
use mathlib.Core.Bool.{Bool}
use mathlib.Core.Option.{Option, none, some}
use mathlib.Core.Logic.{◌↔◌}
use mathlib.Core.List.{List, [], ◌∷◌}
use Prim.Native.Nat.{ℕ, zero, suc, ◌+◌, ◌/◌, ◌≤◌, ◌<◌}
use native.Mathlib.Nat.{not-suc-le-zero, le_of_suc-le-suc}
use native.Mathlib.Decide.{dec_le}
use native.Mathlib.Omega.{arith}
use lib.ListN.{length, get_or}
use borrow.Author.Tests.{le-leb, lt-leb}
use Rattle.meaning.specs.Answers.{Refusal}
use Rattle.meaning.specs.Pioneers.{flags, pioneer_string, higher}
use Rattle.meaning.specs.Refusals.{refuse, check, full_block, full_at, full_from, LowestFull, LowestLevel}
use Rattle.meaning.proofs.If.{if_true, if_false}
use Rattle.meaning.proofs.Up.{length_flags}
use Rattle.meaning.proofs.Full.{full_exactly}
use Rattle.meaning.proofs.Narrow.{NoFull, no_full}

full : ℕ → ℕ → Option Refusal
full v b = refuse 5 (v ∷ b ∷ [])

-- the same among k levels, the first of which has number v₀
record Lowest (k v₀ : ℕ) (l : List Bool) (v b : ℕ) : Type 0 where
  under : ℕ
  level : v ≡ v₀ + under
  few : under < k
  long : (j : ℕ) → j ≤ under → 64 < length (higher j l)
  here : LowestFull (flags (higher under l)) b
  lower : (j : ℕ) → j < under → NoFull (flags (higher j l))

number_of : Option Refusal → ℕ
number_of none = 0
number_of (some r) = r.number

-- what a refusal carries, by place
carried : ℕ → Option Refusal → ℕ
carried i none = 0
carried i (some r) = get_or r.carries i 0

-- the first block of the flags, by their number
first : List Bool → Option ℕ
first l = full_block (length l / 256 + 1) 0 (flags l)

first_is : (l : List Bool) (o : Option ℕ) → first l ≡ o → full_block (length (flags l) / 256 + 1) 0 (flags l) ≡ o
unfolding first
first_is l o e = ap (λ n. full_block (n / 256 + 1) 0 (flags l)) (length_flags l) ∙ e

deeper : (k v₀ v b : ℕ) (l : List Bool) → 64 < length l → NoFull (flags l) → Lowest k (suc v₀) (pioneer_string l) v b → Lowest (suc k) v₀ l v b
unfolding higher
deeper k v₀ v b l h n r =
    record {
      under = suc r.under;
      level = omega (arith, r.level);
      few = omega (arith, r.few);
      long = long;
      here = r.here;
      lower = lower;
    }
  where
    long : (j : ℕ) → j ≤ suc r.under → 64 < length (higher j l)
    long zero q = h
    long (suc j) q = r.long j (le_of_suc-le-suc q)

    lower : (j : ℕ) → j < suc r.under → NoFull (flags (higher j l))
    lower zero q = n
    lower (suc j) q = r.lower j (le_of_suc-le-suc q)

to : (k v₀ : ℕ) (l : List Bool) (v b : ℕ) → full_from k v₀ l ≡ full v b → Lowest k v₀ l v b
unfolding full_from full full_at check first number_of carried higher
to zero v₀ l v b e = go (dec_le (length l) 64)
  where
    go : Dec (length l ≤ 64) → Lowest zero v₀ l v b
    go (yes h) =
        absurd (let z : ◌≡◌ {A = ℕ} 0 5 = ap number_of (sym (ap (λ t. check t 6 (0 ∷ [])) (le-leb (length l) 64 h)) ∙ e) in omega arith)
    go (no h) =
        absurd (let z : ◌≡◌ {A = ℕ} 6 5 = ap number_of (sym (ap (λ t. check t 6 (0 ∷ [])) (lt-leb (length l) 64 (omega arith))) ∙ e) in omega arith)
to (suc k) v₀ l v b e = go (dec_le (length l) 64) (to k (suc v₀) (pioneer_string l) v b)
  where
    at : 64 < length l → (o : Option ℕ) → first l ≡ o → full_at v₀ o (full_from k (suc v₀) (pioneer_string l)) ≡ full v b
        → (full_from k (suc v₀) (pioneer_string l) ≡ full v b → Lowest k (suc v₀) (pioneer_string l) v b) → Lowest (suc k) v₀ l v b
    at h none q d ih = deeper k v₀ v b l h (no_full (flags l) (first_is l none q)) (ih d)
    at h (some c) q d ih =
        let u : v₀ ≡ v = ap (carried 0) d in
        let w : c ≡ b = ap (carried 1) d in
        record {
          under = 0;
          level = omega arith;
          few = omega arith;
          long = λ j p. let z : 0 ≡ j = omega arith in subst (λ i. 64 < length (higher i l)) z h;
          here = subst (LowestFull (flags l)) w ((full_exactly (flags l) c).0 (first_is l (some c) q));
          lower = λ j p. absurd (not-suc-le-zero p);
        }

    go : Dec (length l ≤ 64) → (full_from k (suc v₀) (pioneer_string l) ≡ full v b → Lowest k (suc v₀) (pioneer_string l) v b) → Lowest (suc k) v₀ l v b
    go (yes h) ih = absurd (let z : ◌≡◌ {A = ℕ} 0 5 = ap number_of (sym (if_true _ _ (le-leb (length l) 64 h)) ∙ e) in omega arith)
    go (no h) ih = at (omega arith) (first l) refl (sym (if_false _ _ (lt-leb (length l) 64 (omega arith))) ∙ e) ih

-- no block is full, so none is found
none_found : (l : List Bool) → NoFull (flags l) → first l ≡ none
unfolding first NoFull
none_found l n = go (first l) refl
  where
    go : (o : Option ℕ) → first l ≡ o → first l ≡ none
    go none e = e
    go (some b) e = absurd (omega (arith, n b, ((full_exactly (flags l) b).0 (first_is l (some b) e)).full))

from : (k v₀ : ℕ) (l : List Bool) (v b : ℕ) → Lowest k v₀ l v b → full_from k v₀ l ≡ full v b
unfolding full_from full full_at first higher
from zero v₀ l v b r = absurd (not-suc-le-zero r.few)
from (suc k) v₀ l v b r = go r.under refl (from k (suc v₀) (pioneer_string l) v b)
  where
    long : 64 < length l
    long = r.long 0 (omega arith)

    go : (u : ℕ) → r.under ≡ u → (Lowest k (suc v₀) (pioneer_string l) v b → full_from k (suc v₀) (pioneer_string l) ≡ full v b)
        → full_from (suc k) v₀ l ≡ full v b
    go zero e ih =
        let i : LowestFull (flags l) b = subst (λ j. LowestFull (flags (higher j l)) b) e r.here in
        let u : v₀ ≡ v = omega (arith, r.level) in
        if_false _ _ (lt-leb (length l) 64 long)
        ∙ ap (λ o. full_at v₀ o (full_from k (suc v₀) (pioneer_string l)))
        (ap (λ n. full_block (n / 256 + 1) 0 (flags l)) (sym (length_flags l)) ∙ (full_exactly (flags l) b).1 i)
        ∙ ap (λ x. full x b) u
    go (suc u) e ih =
        if_false _ _ (lt-leb (length l) 64 long)
        ∙ ap (λ o. full_at v₀ o (full_from k (suc v₀) (pioneer_string l))) (none_found l (r.lower 0 (omega arith)))
        ∙ ih
        (record {
          under = u;
          level = omega (arith, r.level);
          few = omega (arith, r.few);
          long = λ j q. r.long (suc j) (omega arith);
          here = subst (λ j. LowestFull (flags (higher j l)) b) e r.here;
          lower = λ j q. r.lower (suc j) (omega arith);
        })

pub full_level : (l : List Bool) (v b : ℕ) → (full_from 4 1 l ≡ refuse 5 (v ∷ b ∷ [])) ↔ LowestLevel l v b
unfolding full NoFull
full_level l v b = (
  λ e. let r = to 4 1 l v b e in
      record { under = r.under; level = omega (arith, r.level); few = r.few; long = r.long; here = r.here; lower = r.lower },
  λ r. from 4 1 l v b
      (record { under = r.under; level = omega (arith, r.level); few = r.few; long = r.long; here = r.here; lower = r.lower }),
)
