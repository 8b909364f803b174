-- What the demands say of build and growth, about the outcomes of the code: an answer r and final areas z that a contract allows. With the
-- questions asked they stand in mission/specs/Demands.antt.
use Rattle.std.specs.Prelude.{Result, Ok, is_ok}
use Rattle.std.specs.Prelude.{◌≡◌, Bool, true, false, ◌↔◌, List, [], ◌∷◌, ◌++◌, ℕ, suc, length, get_or, set, replicate}
use Rattle.std.proofs.Math.Option.{none, some}
use Rattle.meaning.specs.Answers.{Refusal, is}
use Rattle.meaning.specs.Bits.{bits_of}
use Rattle.meaning.specs.String.{string}
use Rattle.meaning.specs.Family.{Level, tower}
use Rattle.meaning.specs.Areas.{written, counted}
use Rattle.meaning.specs.Refusals.{refusal, Accepted}
use Rattle.meaning.specs.Build.{Lent, After, rooms_of, zeroed}
use Rattle.meaning.specs.Growth.{levels_of, grow_refusal}
use Rattle.meaning.specs.Demands.{Answered, Grows}
use Rattle.refusal.specs.Said.{refused_of}
use Rattle.refusal.specs.declared.Refusal as refusal
use Rattle.record.specs.Record.{tree_in}
use Rattle.record.specs.declared.Counts.{Counts}
use Rattle.balanced_parens.specs.Said.{said}
use Rattle.balanced_parens.specs.Areas.{after}
use Rattle.balanced_parens.specs.Contract.{GrowsTo}

-- the record of counts, or a refusal
abbrev pub Made : Type 0
Made = Result Counts refusal.Refusal

-- the tree that an answer gives, with the areas
abbrev pub tree_at : Made → Lent → After
tree_at r z = after (said r) z

-- Demand 1, of a build of the levels vs and the labels bs in the areas a
pub record BuildAnswers (vs bs : List ℕ) (a z : Lent) (r : Made) : Type 0 where
  -- "Every list, number and lent area gets an answer or one of the numbered refusals": a tree exactly if no check refuses
  pub made : (is_ok r ≡ true) ↔ Accepted vs bs (rooms_of a)
  -- "Build checks 1, 2, 3, ROOM for area 5, then 5 (lowest level, lowest block), 6, then ROOM for 0 to 4": else the first that refuses
  pub first : (x : Refusal) → (refused_of r ≡ some x) ↔ (refusal vs bs (rooms_of a) ≡ some x)
  -- "A refused build leaves all six areas zero"; no counts come with it
  pub zeros : is_ok r ≡ false → z ≡ zeroed (rooms_of a)
  -- "Scratch is zero after every call"; no area has another length
  pub scratch : z.scratch ≡ replicate (length a.scratch) 0
  pub lengths : rooms_of z ≡ rooms_of a

-- Demand 2, of a build that is accepted
pub record TreeAnswers (vs bs : List ℕ) (z : Lent) (r : Made) : Type 0 where
  pub made : is_ok r ≡ true
  pub answered : Answered vs bs (tree_at r z)

-- the string that growth works from: area 0 and the first bits of the record
abbrev pub string_at : Counts → Lent → List Bool
string_at c a = bits_of a.held.words (get_or c.bits 0 0)

-- the levels of the longer list, and the levels above its string
abbrev pub longer_at : Counts → Lent → ℕ → List ℕ
longer_at c a v = levels_of (string_at c a) ++ v ∷ []

abbrev pub tower_at : Counts → Lent → ℕ → List Level
tower_at c a v = tower 4 (string (longer_at c a v))

-- Demand 1, of growth by level v and label b, on any record c and any content of the areas a
pub record GrowthAnswers (c : Counts) (v b : ℕ) (a z : Lent) (r : Made) : Type 0 where
  -- "BROKEN if it is past area 0, not balanced under one root or its count disagrees, then 2, 3 and so on for the longer list"
  pub made : (is_ok r ≡ true) ↔ (grow_refusal (tree_in c) a v ≡ none)
  pub first : (x : Refusal) → (refused_of r ≡ some x) ↔ (grow_refusal (tree_in c) a v ≡ some x)
  -- "Areas 0 to 3 then hold, to their ends, what a build of the longer list writes; in area 4 only the new label is written"
  pub record_of : is_ok r ≡ true → said r ≡ is (record { nodes = suc c.nodes; counts = counted (tower_at c a v) })
  pub areas : is_ok r ≡ true → z.held ≡ written (rooms_of a) (tower_at c a v)
  pub labels : is_ok r ≡ true → z.labels ≡ set a.labels c.nodes b
  -- "Refused growth leaves 0 to 4 as they stood"; no counts come with it
  pub kept : is_ok r ≡ false → (z.held ≡ a.held) × (z.labels ≡ a.labels)
  -- "Scratch is zero after every call"
  pub scratch : z.scratch ≡ replicate (length a.scratch) 0

-- what growth works from is the same: the nodes and the first bits of the record, the string in area 0, and the lengths. The other counts,
-- areas 1 to 3, the rest of area 0, area 4 and scratch may hold anything
pub record SameString (c c' : Counts) (a a' : Lent) : Type 0 where
  pub nodes : c.nodes ≡ c'.nodes
  pub bits : get_or c.bits 0 0 ≡ get_or c'.bits 0 0
  pub string : string_at c a ≡ string_at c' a'
  pub lengths : rooms_of a ≡ rooms_of a'

-- then so is the outcome, by the same level and label: the answer, and areas 0 to 3 and the new label where it is made. Refused, nothing
-- but scratch has changed (`kept` of `GrowthAnswers`)
pub record SameGrowth (a a' z z' : Lent) (r r' : Made) : Type 0 where
  pub answer : r ≡ r'
  pub areas : is_ok r ≡ true → z.held ≡ z'.held
  pub labels : a.labels ≡ a'.labels → z.labels ≡ z'.labels
  pub scratch : z.scratch ≡ z'.scratch

-- Demand 3. r₁ and z₁ are what a build of the list left, r₂ and z₂ what growth of that by level v and label b left, and r₃ and z₃ what a
-- build of the longer list left in areas of the same lengths
pub record Growth (vs bs : List ℕ) (v b : ℕ) (z₁ z₂ z₃ : Lent) (r₁ r₂ r₃ : Made) : Type 0 where
  -- "Growing a tree by one node leaves every catalogue area and the record of counts as building the longer list afresh does"
  pub areas : z₂ ≡ z₃
  pub counts : r₂ ≡ r₃
  pub made : is_ok r₂ ≡ true
  -- "and of all older nodes' first-child and next-sibling answers exactly one differs: the new node becomes first child of the last one
  -- (the root, if the list was empty), or next sibling of the last node at its level, where there was none. No older id or label moves."
  pub answers : Grows vs bs v b (tree_at r₁ z₁) (tree_at r₂ z₂) (tree_at r₃ z₃)

-- where the longer list is refused, growth is refused as its build is, and leaves all areas as they stood
pub record GrowthRefused (z₁ z₂ : Lent) (r₂ r₃ : Made) : Type 0 where
  pub answer : r₂ ≡ r₃
  pub areas : z₂ ≡ z₁

-- calls of growth, one after another: each takes the record that the last one answered and the areas as that left them
pub data Grown : Made → Lent → List ℕ → List ℕ → Made → Lent → Type 0 where
  none_more : {r : Made} {a : Lent} → Grown r a [] [] r a
  one_more : {r q s : Made} {c : Counts} {a b z : Lent} {v l : ℕ} {vs bs : List ℕ} → r ≡ Ok c → GrowsTo c v l a b q → Grown q b vs bs s z
      → Grown r a (v ∷ vs) (l ∷ bs) s z
