-- THE FIRST DEMAND, of every public operation of the tree, the string and the dictionary: "Every list, number and lent area gets an answer or one of
-- document 01's numbered refusals, with nothing left for the caller to check first. A refused build leaves zeros in every lent area. A question, or a
-- refused growth, changes no catalogue area; scratch ends as zeros." It is said of the contract of the code itself: `Asked` is what a function's
-- `requires` asks, `Learnt` what its `ensures` tells.
use Rattle.std.specs.Prelude.{◌≡◌, ◌⊎◌, true, false, List, [], ◌∷◌, ℕ, length, replicate}
use Rattle.std.proofs.Math.Option.{some}
use contract.Lifetimes.{Lfts}
use borrow.Fn.Kind.{ParamKind, ResultKind}
use borrow.Fn.Kinds.{In, Out, Dens, res_t, ended_of}
use Rattle.std.specs.Borrow.{Bor, MutBor}
use denote.Triple.Clauses.{Lasts, at_exit}
use Rattle.meaning.specs.Answers.{Refusal, Answer, is, nothing, refused, place, close, room, broken}
use Rattle.meaning.specs.Child as child
use Rattle.meaning.specs.Build.{Lent, Tree, rooms_of}
use Rattle.meaning.specs.Refusals.{refusal}
use Rattle.meaning.specs.Growth.{grow_refusal}
use Rattle.meaning.specs.Questions.{bit_in, close_in, first_child, next_sibling, label_in, leaves_below, nodes_in, is_empty_in, bytes_held}
use Rattle.meaning.specs.Walking as walking
use Rattle.meaning.specs.Walking.{walking}
use Rattle.meaning.specs.BitString.{string_get, string_rank, string_select, string_pred, string_succ, string_size, one_from}
use Rattle.meaning.specs.BitString.{edited, string_set, string_push, string_resize}
use Rattle.meaning.specs.Dictionary.{Dict, rank_of, select_of, pred_of, succ_of}
use Rattle.meaning.specs.Answers.{or_broken}
use Rattle.meaning.specs.Direct.{DictRooms, dict_rank, dict_select, dict_pred, dict_succ, dict_past, dict_size, dict_refusal, dict_rooms, dict_zeroed}
use Rattle.meaning.specs.Direct.{dict_plan, dict_write, dict_build}
use Rattle.refusal.specs.Said.{said_number, said_truth, said_bit, found_number, found_bit}
use Rattle.record.specs.Record.{tree_in, tree_of, lent_of}
use Rattle.record.specs.declared.Catalogue.{Catalogue}
use Rattle.closes.proofs as closes
use Rattle.questions.specs.Said.{node_of, said_edge}
use Rattle.questions.proofs as questions
use Rattle.walk.specs.Said as walk_said
use Rattle.walk.proofs as walks
use Rattle.bit_string.specs.declared.BitString.{BitString}
use Rattle.bit_string.specs.Said.{said_step}
use Rattle.bit_string.proofs as string
use Rattle.sparse_one_nnd.specs.Said.{entries_in, areas_in, dict_at, said_entries, after}
use Rattle.sparse_one_nnd.specs.declared.DictAreas.{DictAreas}
use Rattle.sparse_one_nnd.proofs.SparseOneNnd as dictionary
use Rattle.sparse_one_nnd.proofs as own
use Rattle.balanced_parens.specs.Said.{said}
use Rattle.balanced_parens.specs.Areas as areas
use Rattle.balanced_parens.specs.Demands.{BuildAnswers, GrowthAnswers}
use Rattle.balanced_parens.proofs as tree
use Rattle.mission.specs.Numbered.{Numbered}

-- A function whose contract asks `Asks` of the parameters a, and allows the answer x and the parameters at exit e if `Allows` holds. At exit an
-- area that was lent to be read is as it was passed, and one that was lent to be written holds some last value: these are w
pub record Total {n : ℕ} (ps : List (ParamKind n)) (r : ResultKind n) (Asks : In n ps) (Allows Ends : Out n ps r) : Type 0 where
  -- "with nothing left for the caller to check first"
  pub asks_nothing : (κs : Lfts n) (a : Dens κs ps) → Asks κs a
  -- whatever it allows is as `Ends` says
  pub ends : (κs : Lfts n) (a : Dens κs ps) (x : (res_t r κs).Denot) (w : Lasts (ended_of n ps r) κs a)
      → Allows κs a x (at_exit (ended_of n ps r) κs a w) → Ends κs a x (at_exit (ended_of n ps r) κs a w)

-- "gets an answer or one of document 01's numbered refusals": a value, nothing, or a refusal with a number, and of those that R lets this call give
pub data Told {A : Type 0} (R : Refusal → Type 0) : Answer A → Type 0 where
  value : (v : A) → Told R (is v)
  none_found : Told R nothing
  refusal_of : {r : Refusal} → Numbered r → R r → Told R (refused r)

-- one of a list
abbrev pub OneOf : List Refusal → Refusal → Type 0
OneOf [] r = ⊥
OneOf (q ∷ qs) r = (r ≡ q) ⊎ OneOf qs r

-- A question that may answer x, which 01's rules answer by d; it is lent areas that hold `before`, and leaves `left` there
pub record Question {A L : Type 0} (R : Refusal → Type 0) (d x : Answer A) (before left : L) : Type 0 where
  pub rules : x ≡ d
  pub told : Told R x
  -- "A question [..] changes no catalogue area": it is lent slices that cannot be written
  pub kept : left ≡ before

-- A change that may answer x and leave `left`, where 01's rules give d; where it refuses, it leaves `unmade`
pub record Change {A L O : Type 0} (R : Refusal → Type 0) (outcome : Answer A → L → O) (d : O) (x : Answer A) (unmade left : L) : Type 0 where
  pub rules : outcome x left ≡ d
  pub told : Told R x
  pub refuses : (r : Refusal) → x ≡ refused r → left ≡ unmade

-- A parameter of index k is `.1` k times and then `.0`. A catalogue, with what follows it
abbrev pub catalogue_in : {X : Type 0} → Bor Catalogue × X → Lent
catalogue_in a = lent_of a.0.now

-- all six areas, lent to be written
abbrev pub Six : Type 0 → Type 0
Six X =
    MutBor (List ℕ) × (MutBor (List ℕ) × (MutBor (List ℕ) × (MutBor (List ℕ) × (MutBor (List ℕ) × (MutBor (List ℕ) × X)))))

abbrev pub six_in : {X : Type 0} → Six X → Lent
six_in a = areas.lent_at a.0.now a.1.0.now a.1.1.0.now a.1.1.1.0.now a.1.1.1.1.0.now a.1.1.1.1.1.0.now

-- the tree by its record of counts
abbrev pub tree_at : {X : Type 0} → Bor Catalogue × X → Tree
tree_at a = tree_of a.0.now

-- the node or the place behind it
abbrev pub asked_at : {A X : Type 0} → Bor Catalogue × (A × X) → A
asked_at a = a.1.0

-- a string's words, and its length
abbrev pub words_in : {X : Type 0} → Bor BitString × X → List ℕ
words_in a = a.0.now.words.now

abbrev pub bits_in : {X : Type 0} → Bor BitString × X → ℕ
bits_in a = a.0.now.len

-- areas 1 to 3
abbrev pub dict_in : {X : Type 0} → DictAreas × X → Dict
dict_in a = areas_in a.0

-- the same, lent to be written
abbrev pub dict_lent : {X : Type 0} → MutBor (List ℕ) × (MutBor (List ℕ) × (MutBor (List ℕ) × X)) → Dict
dict_lent a = dict_at a.0.now a.1.0.now a.1.1.0.now

-- their lengths
abbrev pub rooms_in : Dict → DictRooms
rooms_in d = record { bytes = length d.bytes; middle = length d.middle; large = length d.large }

-- "Questions [..] check: counts that do not fit the areas (9), then 7, then 8" (01): a question of a place of the tree
abbrev pub AtPlace : ℕ → Refusal → Type 0
AtPlace p = OneOf (place p ∷ close p ∷ broken ∷ [])

-- of no place
abbrev pub Broken : Refusal → Type 0
Broken = OneOf (broken ∷ [])

-- a walk: ROOM for scratch and for its two lists, BROKEN, and what the questions that it asks on its way refuse
abbrev pub OnWalk : Refusal → Type 0
OnWalk r = OneOf (room 5 ∷ room 10 ∷ room 11 ∷ broken ∷ []) r ⊎ ((p : ℕ) × OneOf (place p ∷ close p ∷ []) r)

-- "MANY", which carries the bits, and "FULL with level 0", which carries the level and the block
abbrev pub many : ℕ → Refusal
many n = record { number = 2; carries = n ∷ [] }

abbrev pub full : ℕ → Refusal
full b = record { number = 5; carries = 0 ∷ b ∷ [] }

-- the plan of a dictionary of n bits: "BROKEN (a length past its words), MANY, FULL with level 0" (01)
abbrev pub OnPlan : ℕ → Refusal → Type 0
OnPlan n r = OneOf (broken ∷ many n ∷ []) r ⊎ ((b : ℕ) × (r ≡ full b))

-- A walk that may answer x. It is lent lists that hold us and cs and scratch that holds s, and leaves us', cs' and s' there
pub record Walks (d : walking.Walked) (x : Answer ℕ) (us cs s us' cs' s' : List ℕ) (before left : Lent) : Type 0 where
  pub rules : walk_said.walked x us' cs' s' ≡ d
  pub told : Told OnWalk x
  -- refused, both lists are zeros (docs/DECISIONS.md)
  pub refuses : (r : Refusal) → x ≡ refused r → (us' ≡ replicate (length us) 0) × (cs' ≡ replicate (length cs) 0)
  -- "scratch ends as zeros"
  pub scratch : s' ≡ replicate (length s) 0
  -- "A question [..] changes no catalogue area"
  pub kept : left ≡ before

pub record FirstDemand : Type 0 where
  -- ---- the tree
  -- "A refused build leaves zeros in every lent area", `zeros` of `BuildAnswers`; no counts come with it; "scratch ends as zeros", `scratch`.
  -- Refused by the first of 01's checks that fails
  pub build : Total tree.builder.build.Kinds.ps tree.builder.build.Kinds.r tree.builder.build.Reads.Asked tree.builder.build.Reads.Learnt (λ κs a x e.
      Told (λ r. refusal a.0.now a.1.0.now (rooms_of (six_in a.1.1)) ≡ some r) (said x)
      × BuildAnswers a.0.now a.1.0.now (six_in a.1.1) (six_in e.1.1) x)
  -- "a refused growth, changes no catalogue area", `kept` of `GrowthAnswers`; "scratch ends as zeros", `scratch`
  pub grow : Total tree.growth.grow.Kinds.ps tree.growth.grow.Kinds.r tree.growth.grow.Reads.Asked tree.growth.grow.Reads.Learnt (λ κs a x e.
      Told (λ r. grow_refusal (tree_in a.1.1.1.1.1.1.0) (six_in a) a.1.1.1.1.1.1.1.0 ≡ some r) (said x)
      × GrowthAnswers a.1.1.1.1.1.1.0 a.1.1.1.1.1.1.1.0 a.1.1.1.1.1.1.1.1.0 (six_in a) (six_in e) x)
  pub root : Total questions.root.Kinds.ps questions.root.Kinds.r questions.root.Reads.Asked questions.root.Reads.Learnt (λ κs a x e. node_of x ≡ child.root)
  pub first_child_lem : Total questions.first_child.Kinds.ps questions.first_child.Kinds.r questions.first_child.Reads.Asked questions.first_child.Reads.Learnt (λ κs a x e.
      Question (AtPlace (asked_at a).place) (first_child (tree_at a) (catalogue_in a) (node_of (asked_at a))) (said_edge x) (catalogue_in a) (catalogue_in e))
  pub next_sibling_lem : Total questions.next_sibling.Kinds.ps questions.next_sibling.Kinds.r questions.next_sibling.Reads.Asked questions.next_sibling.Reads.Learnt (λ κs a x e.
      Question (AtPlace (asked_at a).place) (next_sibling (tree_at a) (catalogue_in a) (node_of (asked_at a))) (said_edge x) (catalogue_in a) (catalogue_in e))
  pub label : Total questions.label.Kinds.ps questions.label.Kinds.r questions.label.Reads.Asked questions.label.Reads.Learnt (λ κs a x e.
      Question (AtPlace (asked_at a).place) (label_in (tree_at a) (catalogue_in a) (node_of (asked_at a))) (found_number x) (catalogue_in a) (catalogue_in e))
  pub leaf_count_lem : Total questions.leaf_count.Kinds.ps questions.leaf_count.Kinds.r questions.leaf_count.Reads.Asked questions.leaf_count.Reads.Learnt (λ κs a x e.
      Question (AtPlace (asked_at a).place) (leaves_below (tree_at a) (catalogue_in a) (node_of (asked_at a))) (said_number x) (catalogue_in a) (catalogue_in e))
  pub nodes : Total questions.nodes.Kinds.ps questions.nodes.Kinds.r questions.nodes.Reads.Asked questions.nodes.Reads.Learnt (λ κs a x e.
      Question Broken (nodes_in (tree_at a) (catalogue_in a)) (said_number x) (catalogue_in a) (catalogue_in e))
  pub is_empty_lem : Total questions.is_empty.Kinds.ps questions.is_empty.Kinds.r questions.is_empty.Reads.Asked questions.is_empty.Reads.Learnt (λ κs a x e.
      Question Broken (is_empty_in (tree_at a) (catalogue_in a)) (said_truth x) (catalogue_in a) (catalogue_in e))
  pub byte_size_lem : Total questions.byte_size.Kinds.ps questions.byte_size.Kinds.r questions.byte_size.Reads.Asked questions.byte_size.Reads.Learnt (λ κs a x e.
      Question Broken (bytes_held (tree_at a) (catalogue_in a)) (said_number x) (catalogue_in a) (catalogue_in e))
  pub get_close_lem : Total closes.get_close.Kinds.ps closes.get_close.Kinds.r closes.get_close.Reads.Asked closes.get_close.Reads.Learnt (λ κs a x e.
      Question (AtPlace (asked_at a)) (close_in (tree_at a) (catalogue_in a) (asked_at a)) (said_number x) (catalogue_in a) (catalogue_in e))
  pub get : Total closes.get.Kinds.ps closes.get.Kinds.r closes.get.Reads.Asked closes.get.Reads.Learnt (λ κs a x e.
      Question (OneOf (place (asked_at a) ∷ broken ∷ [])) (bit_in (tree_at a) (catalogue_in a) (asked_at a)) (said_bit x) (catalogue_in a) (catalogue_in e))
  pub walk : Total walks.walk.Kinds.ps walks.walk.Kinds.r walks.walk.Reads.Asked walks.walk.Reads.Learnt (λ κs a x e.
      let own = a.1 in
      let own' = e.1 in
      Walks (walking (tree_at a) (catalogue_in a) (walk_said.rooms_at own.0.now own.1.0.now own.1.1.0.now)) (said_number x)
      own.0.now own.1.0.now own.1.1.0.now own'.0.now own'.1.0.now own'.1.1.0.now (catalogue_in a) (catalogue_in e))
  -- ---- the string: its words and length, and the place or the rank; of the changes the words, the length, and the place or the new length
  pub string_get_lem : Total string.BitString.get.Kinds.ps string.BitString.get.Kinds.r string.BitString.get.Reads.Asked string.BitString.get.Reads.Learnt (λ κs a x e.
      Question Broken (string_get (words_in a) (bits_in a) a.1.0) (found_bit x) (words_in a) (words_in e))
  pub string_rank_one : Total string.find.BitStringFid.rank_one.Kinds.ps string.find.BitStringFid.rank_one.Kinds.r string.find.BitStringFid.rank_one.Reads.Asked string.find.BitStringFid.rank_one.Reads.Learnt (λ κs a x e.
      Question Broken (string_rank true (words_in a) (bits_in a) a.1.0) (said_number x) (words_in a) (words_in e))
  -- "the zero questions past the end are PLACE" (01)
  pub string_rank_zero : Total string.find.BitStringFid.rank_zero.Kinds.ps string.find.BitStringFid.rank_zero.Kinds.r string.find.BitStringFid.rank_zero.Reads.Asked string.find.BitStringFid.rank_zero.Reads.Learnt (λ κs a x e.
      Question (OneOf (place a.1.0 ∷ broken ∷ [])) (string_rank false (words_in a) (bits_in a) a.1.0) (said_number x) (words_in a) (words_in e))
  pub string_select_one : Total string.find.BitStringFid.select_one.Kinds.ps string.find.BitStringFid.select_one.Kinds.r string.find.BitStringFid.select_one.Reads.Asked string.find.BitStringFid.select_one.Reads.Learnt (λ κs a x e.
      Question Broken (string_select true (words_in a) (bits_in a) a.1.0) (found_number x) (words_in a) (words_in e))
  pub string_select_zero : Total string.find.BitStringFid.select_zero.Kinds.ps string.find.BitStringFid.select_zero.Kinds.r string.find.BitStringFid.select_zero.Reads.Asked string.find.BitStringFid.select_zero.Reads.Learnt (λ κs a x e.
      Question Broken (string_select false (words_in a) (bits_in a) a.1.0) (found_number x) (words_in a) (words_in e))
  pub string_pred_one : Total string.find.BitStringFid.pred_one.Kinds.ps string.find.BitStringFid.pred_one.Kinds.r string.find.BitStringFid.pred_one.Reads.Asked string.find.BitStringFid.pred_one.Reads.Learnt (λ κs a x e.
      Question Broken (string_pred true (words_in a) (bits_in a) a.1.0) (found_number x) (words_in a) (words_in e))
  pub string_pred_zero : Total string.find.BitStringFid.pred_zero.Kinds.ps string.find.BitStringFid.pred_zero.Kinds.r string.find.BitStringFid.pred_zero.Reads.Asked string.find.BitStringFid.pred_zero.Reads.Learnt (λ κs a x e.
      Question (OneOf (place a.1.0 ∷ broken ∷ [])) (string_pred false (words_in a) (bits_in a) a.1.0) (found_number x) (words_in a) (words_in e))
  pub string_succ_one : Total string.find.BitStringFid.succ_one.Kinds.ps string.find.BitStringFid.succ_one.Kinds.r string.find.BitStringFid.succ_one.Reads.Asked string.find.BitStringFid.succ_one.Reads.Learnt (λ κs a x e.
      Question Broken (string_succ true (words_in a) (bits_in a) a.1.0) (found_number x) (words_in a) (words_in e))
  pub string_succ_zero : Total string.find.BitStringFid.succ_zero.Kinds.ps string.find.BitStringFid.succ_zero.Kinds.r string.find.BitStringFid.succ_zero.Reads.Asked string.find.BitStringFid.succ_zero.Reads.Learnt (λ κs a x e.
      Question (OneOf (place a.1.0 ∷ broken ∷ [])) (string_succ false (words_in a) (bits_in a) a.1.0) (found_number x) (words_in a) (words_in e))
  pub string_byte_size : Total string.BitString.byte_size.Kinds.ps string.BitString.byte_size.Kinds.r string.BitString.byte_size.Reads.Asked string.BitString.byte_size.Reads.Learnt (λ κs a x e.
      Question Broken (string_size (words_in a) (bits_in a)) (said_number x) (words_in a) (words_in e))
  -- the cursor stands first
  pub cursor_step : Total string.Cursor.step.Kinds.ps string.Cursor.step.Kinds.r string.Cursor.step.Reads.Asked string.Cursor.step.Reads.Learnt (λ κs a x e.
      Question Broken (one_from (words_in a.1) (bits_in a.1) a.0.next) (said_step x) (words_in a.1) (words_in e.1))
  -- "push, set and resize [..] refused, they change nothing" (01)
  pub string_set_lem : Total string.set.Kinds.ps string.set.Kinds.r string.set.Reads.Asked string.set.Reads.Learnt (λ κs a x e.
      Change (OneOf (place a.1.1.0 ∷ broken ∷ [])) edited (string_set a.0.now a.1.0 a.1.1.0 a.1.1.1.0) (said_number x) a.0.now e.0.now)
  pub string_push_lem : Total string.push.Kinds.ps string.push.Kinds.r string.push.Reads.Asked string.push.Reads.Learnt (λ κs a x e.
      Change (OneOf (room 0 ∷ broken ∷ [])) edited (string_push a.0.now a.1.0 a.1.1.0) (said_number x) a.0.now e.0.now)
  pub string_resize_lem : Total string.resize.Kinds.ps string.resize.Kinds.r string.resize.Reads.Asked string.resize.Reads.Learnt (λ κs a x e.
      Change (OneOf (room 0 ∷ broken ∷ [])) edited (string_resize a.0.now a.1.0 a.1.1.0) (said_number x) a.0.now e.0.now)
  -- ---- the dictionary: the words and the length, areas 1 to 3. "refused, its areas are zero" (01)
  pub dict_build_lem : Total dictionary.build.Kinds.ps dictionary.build.Kinds.r dictionary.build.Reads.Asked dictionary.build.Reads.Learnt (λ κs a x e.
      let rooms : DictRooms = rooms_in (dict_lent a.1.1) in
      Change (λ r. dict_refusal a.0.now a.1.0 rooms ≡ some r) after (dict_build a.0.now a.1.0 rooms) (said_entries x) (dict_zeroed rooms) (dict_lent e.1.1))
  -- past as many entries as the third parameter counts; refused, the areas are as they stood
  pub dict_write_lem : Total dictionary.write.Kinds.ps dictionary.write.Kinds.r dictionary.write.Reads.Asked dictionary.write.Reads.Learnt (λ κs a x e.
      let from = entries_in a.1.1.0 in
      Change (λ r. dict_refusal a.0.now a.1.0 (dict_rooms from (dict_lent a.1.1.1)) ≡ some r) after
      (dict_write a.0.now a.1.0 from (dict_lent a.1.1.1)) (said_entries x) (dict_lent a.1.1.1) (dict_lent e.1.1.1))
  pub dict_plan_lem : Total dictionary.plan.Kinds.ps dictionary.plan.Kinds.r dictionary.plan.Reads.Asked dictionary.plan.Reads.Learnt (λ κs a x e.
      Question (OnPlan a.1.0) (dict_plan a.0.now a.1.0) (said_entries x) a.0.now e.0.now)
  -- the record of counts, areas 1 to 3, and the place or the rank
  pub dict_rank_one : Total dictionary.rank_one.Kinds.ps dictionary.rank_one.Kinds.r dictionary.rank_one.Reads.Asked dictionary.rank_one.Reads.Learnt (λ κs a x e.
      Question Broken (dict_rank (entries_in a.0) (dict_in a.1) a.1.1.0) (said_number x) (dict_in a.1) (dict_in e.1))
  pub dict_select_one : Total dictionary.select_one.Kinds.ps dictionary.select_one.Kinds.r dictionary.select_one.Reads.Asked dictionary.select_one.Reads.Learnt (λ κs a x e.
      Question Broken (dict_select (entries_in a.0) (dict_in a.1) a.1.1.0) (found_number x) (dict_in a.1) (dict_in e.1))
  pub dict_pred_one : Total dictionary.pred_one.Kinds.ps dictionary.pred_one.Kinds.r dictionary.pred_one.Reads.Asked dictionary.pred_one.Reads.Learnt (λ κs a x e.
      Question Broken (dict_pred (entries_in a.0) (dict_in a.1) a.1.1.0) (found_number x) (dict_in a.1) (dict_in e.1))
  pub dict_succ_one : Total dictionary.succ_one.Kinds.ps dictionary.succ_one.Kinds.r dictionary.succ_one.Reads.Asked dictionary.succ_one.Reads.Learnt (λ κs a x e.
      Question Broken (dict_succ (entries_in a.0) (dict_in a.1) a.1.1.0) (found_number x) (dict_in a.1) (dict_in e.1))
  -- it is lent no area
  pub dict_byte_size : Total dictionary.byte_size.Kinds.ps dictionary.byte_size.Kinds.r dictionary.byte_size.Reads.Asked dictionary.byte_size.Reads.Learnt (λ κs a x e.
      Question Broken (dict_size (entries_in a.0)) (said_number x) a.0 e.0)
  -- the same of a part, which starts past as many entries as the second parameter counts
  pub dict_rank_part : Total dictionary.rank_part.Kinds.ps dictionary.rank_part.Kinds.r dictionary.rank_part.Reads.Asked dictionary.rank_part.Reads.Learnt (λ κs a x e.
      Question Broken (dict_rank (entries_in a.0) (dict_past (entries_in a.1.0) (dict_in a.1.1)) a.1.1.1.0) (said_number x)
      (dict_in a.1.1) (dict_in e.1.1))
  pub dict_select_part : Total dictionary.select_part.Kinds.ps dictionary.select_part.Kinds.r dictionary.select_part.Reads.Asked dictionary.select_part.Reads.Learnt (λ κs a x e.
      Question Broken (dict_select (entries_in a.0) (dict_past (entries_in a.1.0) (dict_in a.1.1)) a.1.1.1.0) (found_number x)
      (dict_in a.1.1) (dict_in e.1.1))
  pub dict_pred_part : Total dictionary.pred_part.Kinds.ps dictionary.pred_part.Kinds.r dictionary.pred_part.Reads.Asked dictionary.pred_part.Reads.Learnt (λ κs a x e.
      Question Broken (dict_pred (entries_in a.0) (dict_past (entries_in a.1.0) (dict_in a.1.1)) a.1.1.1.0) (found_number x)
      (dict_in a.1.1) (dict_in e.1.1))
  pub dict_succ_part : Total dictionary.succ_part.Kinds.ps dictionary.succ_part.Kinds.r dictionary.succ_part.Reads.Asked dictionary.succ_part.Reads.Learnt (λ κs a x e.
      Question Broken (dict_succ (entries_in a.0) (dict_past (entries_in a.1.0) (dict_in a.1.1)) a.1.1.1.0) (found_number x)
      (dict_in a.1.1) (dict_in e.1.1))
  -- and of a dictionary's own areas
  pub dict_rank_lem : Total own.DictAreas.rank.Kinds.ps own.DictAreas.rank.Kinds.r own.DictAreas.rank.Reads.Asked own.DictAreas.rank.Reads.Learnt (λ κs a x e.
      Question Broken (or_broken (rank_of (dict_in a) a.1.0)) (said_number x) (dict_in a) (dict_in e))
  pub dict_select_lem : Total own.DictAreas.select.Kinds.ps own.DictAreas.select.Kinds.r own.DictAreas.select.Reads.Asked own.DictAreas.select.Reads.Learnt (λ κs a x e.
      Question Broken (select_of (dict_in a) a.1.0) (found_number x) (dict_in a) (dict_in e))
  pub dict_pred_lem : Total own.DictAreas.pred.Kinds.ps own.DictAreas.pred.Kinds.r own.DictAreas.pred.Reads.Asked own.DictAreas.pred.Reads.Learnt (λ κs a x e.
      Question Broken (pred_of (dict_in a) a.1.0) (found_number x) (dict_in a) (dict_in e))
  pub dict_succ_lem : Total own.DictAreas.succ.Kinds.ps own.DictAreas.succ.Kinds.r own.DictAreas.succ.Reads.Asked own.DictAreas.succ.Reads.Learnt (λ κs a x e.
      Question Broken (succ_of (dict_in a) a.1.0) (found_number x) (dict_in a) (dict_in e))
