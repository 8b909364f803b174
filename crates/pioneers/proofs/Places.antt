-- The ways out of `place`, and the string in its part of scratch.
use mathlib.Core.Path.{◌≡◌, sym, ap, ap₂, ◌∙◌, subst}
use mathlib.Core.Bool.{Bool, true}
use mathlib.Core.Option.{Option, none, some}
use mathlib.Core.List.{List, [], ◌∷◌, ◌++◌}
use Prim.Native.Nat.{ℕ, ◌+◌, ◌-◌, ◌*◌, ◌≤◌, ◌<◌}
use native.Mathlib.Omega.{arith}
use lib.Dec.{leb}
use lib.ListN.{length, take, drop, replicate, length-replicate, length-drop}
use borrow.Author.Tests.{le-leb, lt-leb}
use Rattle.meaning.specs.Answers.{Refusal}
use Rattle.meaning.specs.Bits.{pack}
use Rattle.meaning.specs.String.{string}
use Rattle.meaning.specs.List.{offending, greatest}
use Rattle.meaning.specs.Refusals.{check, level_rule, first_of}
use Rattle.meaning.proofs.If.{if_none, if_some}
use Rattle.meaning.proofs.Runs.{take_zeros, drop_zeros}
use Rattle.pioneers.specs.Placed.{rule_of, placing, holding, list_checks, place_in, Ready}
use Rattle.std.specs.Prelude.{Ok, Err}
use Rattle.refusal.specs.Said.{refusal_of}
use Rattle.refusal.specs.declared.Refusal as refusal
use Rattle.refusal.specs.declared.Refusal.TheVariants.{Many, Room}
use Rattle.pioneers.proofs.Parts.{part_is, part_new}
use Rattle.pioneers.proofs.Ruled.{kept_none, broken_some, rule_of_lem}

module _ (vs : List ℕ) (k : ℕ) where
  after : Bool → Option ℕ → Bool → Option Refusal
  after a o b = first_of (check a 2 (length vs ∷ []) ∷ level_rule o ∷ check b 4 (5 ∷ []) ∷ [])

  refused : (r : Refusal) → first_of (list_checks vs k) ≡ some r → (exit : List ℕ) → exit ≡ replicate k 0 → placing (some r) exit ≡ place_in vs k
  unfolding place_in
  refused r e exit z = ap (placing (some r)) z ∙ sym (if_some _ _ r e)

  pub place_many : greatest < length vs → (exit : List ℕ) → exit ≡ replicate k 0 → placing (some (refusal_of (Many (length vs)))) exit ≡ place_in vs k
  unfolding list_checks first_of check after
  place_many h exit z = refused _ (ap (λ b. after b (offending vs) (leb (2 * length vs + 2) k)) (lt-leb (length vs) greatest h)) exit z

  module _ (h : length vs ≤ greatest) where
    pub place_level : (r : refusal.Refusal) → Err r ≡ rule_of (offending vs) → (exit : List ℕ) → exit ≡ replicate k 0 → placing (some (refusal_of r)) exit ≡ place_in vs k
    unfolding list_checks first_of check level_rule after
    place_level r e exit z =
        let b = broken_some r (offending vs) e in
        subst (λ (r : refusal.Refusal). placing (some (refusal_of r)) exit ≡ place_in vs k) (sym b.2)
        (refused _ (ap₂ (λ b o. after b o (leb (2 * length vs + 2) k)) (le-leb (length vs) greatest h) b.1) exit z)

    module _ (e : Ok tt ≡ rule_of (offending vs)) where
      no_level : offending vs ≡ none
      no_level = kept_none (offending vs) e

      module _ (z : List ℕ) (w : z ≡ replicate k 0) where
        size : length z ≡ k
        size = ap length w ∙ length-replicate k 0

        pub place_room : length z < 2 * length vs + 2 → placing (some (refusal_of (Room 5))) z ≡ place_in vs k
        unfolding list_checks first_of check level_rule after
        place_room l =
            refused _
            (ap₂ (λ b o. after b o (leb (2 * length vs + 2) k)) (le-leb (length vs) greatest h) no_level
            ∙ ap (after true none) (lt-leb (2 * length vs + 2) k (omega (arith, size))))
            z w

        module _ (l : 2 * length vs + 2 ≤ length z) where
          none_refuses : first_of (list_checks vs k) ≡ none
          unfolding list_checks first_of check level_rule after
          none_refuses =
              ap₂ (λ b o. after b o (leb (2 * length vs + 2) k)) (le-leb (length vs) greatest h) no_level
              ∙ ap (after true none) (le-leb (2 * length vs + 2) k (omega (arith, size)))

          part_length : length (take (length z - (length vs + 1)) (drop (length vs + 1) z)) ≡ k - (length vs + 1)
          part_length = ap length (part_is z (length vs + 1)) ∙ length-drop (length vs + 1) z ∙ ap (λ (n : ℕ). n - (length vs + 1)) size

          pub place_ready : Ready vs (take (length z - (length vs + 1)) (drop (length vs + 1) z))
          place_ready =
              record {
                rule = rule_of_lem vs e;
                few = h;
                room = omega (arith, part_length, size);
                zeros =
                    part_is z (length vs + 1) ∙ ap (drop (length vs + 1)) w ∙ drop_zeros (length vs + 1) k
                    ∙ ap (λ (n : ℕ). replicate n 0) (sym part_length);
              }

          pub place_made : (part : List ℕ) → part ≡ pack (length (take (length z - (length vs + 1)) (drop (length vs + 1) z))) (string vs)
              → placing none (take (length vs + 1) z ++ (part ++ drop (length z - (length vs + 1)) (drop (length vs + 1) z))) ≡ place_in vs k
          unfolding place_in holding
          place_made part g =
              ap (placing none)
              (part_new z part (length vs + 1)
              ∙ ap₂ (λ (x y : List ℕ). x ++ y) (ap (take (length vs + 1)) w ∙ take_zeros (length vs + 1) k (omega (arith, size))) (g ∙ ap (λ (n : ℕ). pack n (string vs)) part_length))
              ∙ sym (if_none _ _ none_refuses)
