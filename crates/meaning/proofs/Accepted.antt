-- A build is not refused exactly if each of its checks holds.
use mathlib.Core.Path.{◌≡◌, refl, ap, ◌∙◌}
use mathlib.Core.Bool.{Bool, true, false}
use mathlib.Core.Option.{Option, none, some}
use mathlib.Core.Logic.{◌↔◌}
use mathlib.Core.List.{List, [], ◌∷◌}
use Prim.Native.Nat.{ℕ}
use native.Mathlib.Omega.{arith}
use borrow.Author.Tests.{le-leb, leb-true, eq-eqb, eqb-true}
use Rattle.meaning.specs.Answers.{Refusal}
use Rattle.meaning.specs.Areas.{Rooms}
use Rattle.meaning.specs.Refusals.{refuse, check, first_of, level_rule, checks, refusal, Accepted}
use Rattle.meaning.proofs.Offending.{offending_none}

pub check_none : (b : Bool) (n : ℕ) (l : List ℕ) → check b n l ≡ none → b ≡ true
unfolding check
check_none true n l e = refl
check_none false n l e = absurd (let z : ◌≡◌ {A = ℕ} 0 1 = cc in omega arith)

pub check_true : {b : Bool} (n : ℕ) (l : List ℕ) → b ≡ true → check b n l ≡ none
unfolding check
check_true n l e = rw (e, check)

pub check_false : {b : Bool} (n : ℕ) (l : List ℕ) → b ≡ false → check b n l ≡ refuse n l
unfolding check
check_false n l e = rw (e, check)

pub level_none : (o : Option ℕ) → level_rule o ≡ none → o ≡ none
unfolding level_rule
level_none none e = refl
level_none (some k) e = absurd (let z : ◌≡◌ {A = ℕ} 0 1 = cc in omega arith)

pub first_none : (o : Option Refusal) (rs : List (Option Refusal)) → first_of (o ∷ rs) ≡ none → (o ≡ none) × (first_of rs ≡ none)
unfolding first_of
first_none none rs e = (refl, e)
first_none (some r) rs e = absurd (let z : ◌≡◌ {A = ℕ} 0 1 = cc in omega arith)

-- the same of all of them at once
pub data AllNone : List (Option Refusal) → Type 0 where
  done : AllNone []
  and : {o : Option Refusal} {rs : List (Option Refusal)} → o ≡ none → AllNone rs → AllNone (o ∷ rs)

pub all_none : {rs : List (Option Refusal)} → AllNone rs → first_of rs ≡ none
unfolding first_of
all_none done = refl
all_none (and {rs = rs} e a) = ap (λ x. first_of (x ∷ rs)) e ∙ all_none a

module _ (vs bs : List ℕ) (rooms : Rooms) where
  to : refusal vs bs rooms ≡ none → Accepted vs bs rooms
  unfolding refusal checks
  to e =
      let a = first_none _ _ e in
      let b = first_none _ _ a.1 in
      let c = first_none _ _ b.1 in
      let d = first_none _ _ c.1 in
      let f = first_none _ _ d.1 in
      let g = first_none _ _ f.1 in
      let h = first_none _ _ g.1 in
      let i = first_none _ _ h.1 in
      let j = first_none _ _ i.1 in
      let k = first_none _ _ j.1 in
      record {
        same = eqb-true _ _ (check_none _ _ _ a.0);
        few = leb-true _ _ (check_none _ _ _ b.0);
        rule = (offending_none vs).0 (level_none _ c.0);
        scratch = leb-true _ _ (check_none _ _ _ d.0);
        narrow = f.0;
        words = leb-true _ _ (check_none _ _ _ g.0);
        bytes = leb-true _ _ (check_none _ _ _ h.0);
        middle = leb-true _ _ (check_none _ _ _ i.0);
        large = leb-true _ _ (check_none _ _ _ j.0);
        label = leb-true _ _ (check_none _ _ _ k.0);
      }

  from : Accepted vs bs rooms → refusal vs bs rooms ≡ none
  unfolding refusal checks level_rule
  from a =
      all_none
      (and (check_true _ _ (eq-eqb _ _ a.same))
      (and (check_true _ _ (le-leb _ _ a.few))
      (and (ap level_rule ((offending_none vs).1 a.rule))
      (and (check_true _ _ (le-leb _ _ a.scratch))
      (and a.narrow
      (and (check_true _ _ (le-leb _ _ a.words))
      (and (check_true _ _ (le-leb _ _ a.bytes))
      (and (check_true _ _ (le-leb _ _ a.middle))
      (and (check_true _ _ (le-leb _ _ a.large))
      (and (check_true _ _ (le-leb _ _ a.label))
      done))))))))))

  pub accepted_exactly : (refusal vs bs rooms ≡ none) ↔ Accepted vs bs rooms
  accepted_exactly = (to, from)
