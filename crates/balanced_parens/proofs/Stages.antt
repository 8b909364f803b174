-- A string that stands in scratch, or an earlier refusal: what the level builder then leaves.
use mathlib.Core.Path.{◌≡◌, refl, sym, ap, ap₂, ◌∙◌}
use mathlib.Core.Bool.{Bool, true}
use mathlib.Core.Option.{Option, none, some}
use mathlib.Core.List.{List, ◌∷◌}
use Prim.Native.Nat.{ℕ, ◌+◌, ◌*◌, ◌≤◌}
use native.Mathlib.Omega.{arith}
use lib.ListN.{length, replicate}
use borrow.Author.Tests.{le-leb, leb-true}
use Rattle.meaning.specs.Answers.{Refusal, is, refused}
use Rattle.meaning.specs.List.{Rule, greatest}
use Rattle.meaning.specs.String.{string}
use Rattle.meaning.specs.Family.{tower}
use Rattle.meaning.specs.Areas.{Held, written, counted}
use Rattle.meaning.specs.Refusals.{first_of}
use Rattle.meaning.specs.Growth.{one_root}
use Rattle.meaning.proofs.If.{if_true, and_true, if_some}
use Rattle.meaning.proofs.Accepted.{check_none, level_none, first_none}
use Rattle.meaning.proofs.Offending.{offending_none}
use Rattle.meaning.proofs.String.{string_length}
use Rattle.meaning.proofs.OneRoot.{one_root_test, string_one_root}
use Rattle.pioneers.specs.Placed.{Placing, placing, holding, list_checks}
use Rattle.pioneers.specs.Scratch.{text_of}
use Rattle.parentheses.specs.Raises.{Raising, raising, raise_in, rooms_at, string_in, string_checks, lay_of}
use Rattle.parentheses.proofs.Holds.{length_holding, text_held}
use Rattle.balanced_parens.specs.Areas.{staged_in}

-- what was placed tells whether a check refused
pub placed_none : (o : Option Refusal) (x z s : List ℕ) → placing none s ≡ elim o [ none ↦ placing none x | some r ↦ placing (some r) z ]
    → (o ≡ none) × (s ≡ x)
placed_none none x z s e = (refl, ap (λ (p : Placing). p.scr) e)
placed_none (some r) x z s e = absurd (let y : none ≡ some r = ap (λ (p : Placing). p.refusal) e in let w : ◌≡◌ {A = ℕ} 0 1 = cc in omega arith)

pub placed_some : (o : Option Refusal) (r : Refusal) (x z s : List ℕ)
    → placing (some r) s ≡ elim o [ none ↦ placing none x | some q ↦ placing (some q) z ] → (o ≡ some r) × (s ≡ z)
placed_some none r x z s e = absurd (let y : some r ≡ none = ap (λ (p : Placing). p.refusal) e in let w : ◌≡◌ {A = ℕ} 0 1 = cc in omega arith)
placed_some (some q) r x z s e = (sym (ap (λ (p : Placing). p.refusal) e), ap (λ (p : Placing). p.scr) e)

-- a list that no check of its own refuses
pub record Listed (vs : List ℕ) (k : ℕ) : Type 0 where
  pub few : length vs ≤ greatest
  pub rule : Rule vs
  pub room : 2 * length vs + 2 ≤ k

pub listed : (vs : List ℕ) (k : ℕ) → first_of (list_checks vs k) ≡ none → Listed vs k
unfolding list_checks
listed vs k e =
    let a = first_none _ _ e in
    let b = first_none _ _ a.1 in
    let c = first_none _ _ b.1 in
    record {
      few = leb-true _ _ (check_none _ _ _ a.0);
      rule = (offending_none vs).0 (level_none _ b.0);
      room = leb-true _ _ (check_none _ _ _ c.0);
    }

module _ (early : Option Refusal) (l : List Bool) (n : ℕ) (a : Held) (labels k : ℕ) where
  pub stage_refused : (r : Refusal) → early ≡ some r → (s : List ℕ) → s ≡ replicate k 0 → raising (refused r) a s ≡ staged_in early l n a labels k
  unfolding staged_in first_of
  stage_refused r e s z =
      ap (raising (refused r) a) z ∙ sym (if_some _ _ r (ap (λ o. first_of (o ∷ string_checks l n (rooms_at a labels k))) e))

  -- the later checks, and what they leave
  late : ℕ → List Bool → Raising
  late j x =
      elim (first_of (string_checks x n (rooms_at a labels j))) [
        | none ↦ raising (is (record { nodes = n; counts = counted (tower 4 x) })) (written (rooms_at a labels j) (tower 4 x)) (replicate j 0)
        | some r ↦ raising (refused r) a (replicate j 0)
      ]

  module _ (e : early ≡ none) (few : n ≤ greatest) (room : 2 * n + 2 ≤ k) (root : one_root l ≡ true) (size : length l ≡ 2 * n + 2) where
    module _ (s : List ℕ) (q : s ≡ holding (n + 1) k l) where
      same : length s ≡ k
      same = ap length q ∙ length_holding (n + 1) k l (omega arith)

      stands : string_in s n ≡ l
      unfolding string_in text_of
      stands = ap (λ (x : List ℕ). string_in x n) q ∙ text_held (lay_of n) k l (omega arith) size (omega arith)

      test : one_root (string_in s n) ≡ true
      test = ap one_root stands ∙ root

      pub stage_raised : (x : Raising) → x ≡ raise_in s n a labels → x ≡ staged_in early l n a labels k
      unfolding raise_in staged_in first_of late
      stage_raised x p =
          let room' : 2 * n + 2 ≤ length s = omega (arith, same) in
          p ∙ if_true _ _ (and_true (le-leb _ _ few) (and_true (le-leb _ _ room') test)) ∙ ap₂ late same stands
          ∙ sym (ap (λ o. staged_in o l n a labels k) e)

-- of the string of a list
pub list_raised : (early : Option Refusal) (vs : List ℕ) (a : Held) (labels k : ℕ) → early ≡ none → Listed vs k → (s : List ℕ) → s ≡ holding (length vs + 1) k (string vs)
    → (x : Raising) → x ≡ raise_in s (length vs) a labels → x ≡ staged_in early (string vs) (length vs) a labels k
list_raised early vs a labels k e h s q x p =
    stage_raised early (string vs) (length vs) a labels k e h.few h.room ((one_root_test (string vs)).1 (string_one_root vs h.rule))
    (string_length vs h.rule) s q x p
