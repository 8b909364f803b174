-- The string of a level list in scratch, and what is refused before it stands there.
use Rattle.std.specs.Prelude.{◌≡◌, Bool, true, List, [], ◌∷◌, ◌++◌, ℕ, ◌+◌, ◌*◌, ◌-◌, ◌≤◌, leb, length, replicate}
use Rattle.std.specs.Prelude.{Result, Ok, Err}
use Rattle.std.proofs.Math.Option.{Option, none, some}
use Rattle.meaning.specs.Answers.{Refusal}
use Rattle.meaning.specs.Bits.{pack, stored}
use Rattle.meaning.specs.String.{string}
use Rattle.meaning.specs.List as list
use Rattle.meaning.specs.List.{offending, greatest}
use Rattle.meaning.specs.Refusals.{check, level_rule, first_of}
use Rattle.refusal.specs.declared.Refusal as refusal
use Rattle.refusal.specs.declared.Refusal.TheVariants.{Level}

-- the list rule's answer
abbrev pub rule_of : Option ℕ → Result (Unit {0}) refusal.Refusal
rule_of none = Ok tt
rule_of (some k) = Err (Level k)

-- an answer with scratch as it is left
pub record Placing : Type 0 where
  pub refusal : Option Refusal
  pub scr : List ℕ

abbrev pub placing : Option Refusal → List ℕ → Placing
placing r s = record { refusal = r; scr = s }

-- scratch of k words that holds the string l behind t zeros, and nothing else
unfoldable pub holding : ℕ → ℕ → List Bool → List ℕ
holding t k l = replicate t 0 ++ pack (k - t) l

-- "Build checks 1, 2, 3, ROOM for area 5": those of the list and of scratch, of k words
unfoldable pub list_checks : List ℕ → ℕ → List (Option Refusal)
list_checks levels k =
    check (leb (length levels) greatest) 2 (length levels ∷ [])
    ∷ level_rule (offending levels)
    ∷ check (leb (2 * length levels + 2) k) 4 (5 ∷ [])
    ∷ []

-- where none of them refuses, the string stands from word n + 1 on
unfoldable pub place_in : List ℕ → ℕ → Placing
place_in levels k =
    elim (first_of (list_checks levels k)) [
      | none ↦ placing none (holding (length levels + 1) k (string levels))
      | some r ↦ placing (some r) (replicate k 0)
    ]

-- what the writing starts from: an accepted list, and room in words that are all zero
pub record Ready (vs ws : List ℕ) : Type 0 where
  pub rule : list.Rule vs
  pub few : length vs ≤ greatest
  pub room : 2 * length vs + 2 ≤ 64 * length ws
  pub zeros : ws ≡ replicate (length ws) 0

-- what the nodes are written behind: the root's open, in words that were all zero
pub record Opened (vs ws : List ℕ) : Type 0 where
  pub zeros : List ℕ
  pub ready : Ready vs zeros
  pub root : ws ≡ stored zeros 0 true
