-- What the string may refuse, and what its words are then.
use mathlib.Core.Path.{refl}
use mathlib.Core.Bool.{Bool, true, false, ◌&&◌}
use mathlib.Core.Logic.{inl, inr}
use mathlib.Core.List.{List, [], ◌∷◌}
use Prim.Native.Nat.{ℕ, zero, suc, ◌*◌, ◌^◌}
use lib.Dec.{ltb}
use lib.ListN.{take, drop}
use Rattle.meaning.specs.Answers.{Refusal, Answer, place, room, broken}
use Rattle.meaning.specs.Bits.{bits_of, places, word_count}
use Rattle.meaning.specs.Plain.{side, item, last, plain_select, plain_pred, plain_succ}
use Rattle.meaning.specs.BitString.{Edited, edit_if, held, if_held, before_end, string_get, string_rank, string_select, string_pred, string_succ, string_size}
use Rattle.meaning.specs.BitString.{string_set, string_push, string_resize, met_at, one_from}
use Rattle.mission.specs.Numbered as numbered
use Rattle.mission.specs.FirstDemand.{Told, value, none_found, refusal_of, OneOf, Broken}
use Rattle.mission.proofs.Told.{Given, given, if_told, provided_told, only_broken, Sound, answered, unmade_sound}

item_told : {R : Refusal → Type 0} (r : ℕ) (l : List ℕ) → Told R (item r l)
unfolding item
item_told r [] = none_found
item_told zero (i ∷ l) = value i
item_told (suc r) (i ∷ l) = item_told r l

last_told : {R : Refusal → Type 0} (l : List ℕ) → Told R (last l)
unfolding last
last_told [] = none_found
last_told (i ∷ []) = value i
last_told (i ∷ j ∷ l) = last_told (j ∷ l)

select_plain_told : {R : Refusal → Type 0} (l : List Bool) (k : ℕ) → Told R (plain_select l k)
unfolding plain_select
select_plain_told l zero = none_found
select_plain_told l (suc k) = item_told k (places 0 l)

-- PLACE is of the zero questions alone
abbrev pub sided : Bool → ℕ → List Refusal
sided true i = broken ∷ []
sided false i = place i ∷ broken ∷ []

side_broken : (b : Bool) (i : ℕ) → Given (OneOf (sided b i)) broken
side_broken true i = only_broken
side_broken false i = given numbered.broken (inr (inl refl))

before_told : (b : Bool) (n i : ℕ) {x : Answer ℕ} → Told (OneOf (sided b i)) x → Told (OneOf (sided b i)) (before_end b n i x)
unfolding before_end
before_told true n i t = t
before_told false n i t = provided_told (ltb i n) (given (numbered.place i) (inl refl)) t

meet_told : {R : Refusal → Type 0} {x : Answer ℕ} → Told R x → Told R (met_at x)
unfolding met_at
meet_told (value j) = value _
meet_told none_found = none_found
meet_told (refusal_of n h) = refusal_of n h

module _ (ws : List ℕ) (n : ℕ) where
  pub get_told : (i : ℕ) → Told Broken (string_get ws n i)
  unfolding string_get if_held
  get_told i = provided_told (held ws n) only_broken (if_told (ltb i n) (value _) none_found)

  pub rank_told : (b : Bool) (i : ℕ) → Told (OneOf (sided b i)) (string_rank b ws n i)
  unfolding string_rank if_held
  rank_told b i = provided_told (held ws n) (side_broken b i) (before_told b n i (value _))

  pub select_told : (b : Bool) (k : ℕ) → Told Broken (string_select b ws n k)
  unfolding string_select if_held
  select_told b k = provided_told (held ws n) only_broken (select_plain_told (side b (bits_of ws n)) k)

  pub pred_told : (b : Bool) (i : ℕ) → Told (OneOf (sided b i)) (string_pred b ws n i)
  unfolding string_pred if_held plain_pred
  pred_told b i = provided_told (held ws n) (side_broken b i) (before_told b n i (last_told (places 0 (take (suc i) (side b (bits_of ws n))))))

  pub succ_told : (b : Bool) (i : ℕ) → Told (OneOf (sided b i)) (string_succ b ws n i)
  unfolding string_succ if_held plain_succ
  succ_told b i = provided_told (held ws n) (side_broken b i) (before_told b n i (item_told 0 (places i (drop i (side b (bits_of ws n))))))

  pub size_told : Told Broken (string_size ws n)
  unfolding string_size if_held
  size_told = provided_told (held ws n) only_broken (provided_told (ltb (8 * word_count n) (2 ^ 64)) only_broken (value _))

  pub step_told : (i : ℕ) → Told Broken (one_from ws n i)
  unfolding one_from
  step_told i = meet_told (succ_told true i)

-- "refused, they change nothing" (01)
abbrev pub EditSound : (Refusal → Type 0) → List ℕ → Edited → Type 0
EditSound R ws e = Sound R ws e.answer e.words

edit_if_sound : {R : Refusal → Type 0} {q : Refusal} (b : Bool) (ws : List ℕ) (e : Edited) → Given R q → EditSound R ws e → EditSound R ws (edit_if b q ws e)
unfolding edit_if
edit_if_sound true ws e g s = s
edit_if_sound false ws e g s = unmade_sound ws g

module _ (ws : List ℕ) (n : ℕ) where
  pub set_sound : (i : ℕ) (b : Bool) → EditSound (OneOf (place i ∷ broken ∷ [])) ws (string_set ws n i b)
  unfolding string_set
  set_sound i b =
      edit_if_sound (held ws n) ws _ (given numbered.broken (inr (inl refl)))
      (edit_if_sound (ltb i n) ws _ (given (numbered.place i) (inl refl)) (answered n _))

  -- the words are area 0
  room_given : Given (OneOf (room 0 ∷ broken ∷ [])) (room 0)
  room_given = given (numbered.room numbered.words) (inl refl)

  broken_given : Given (OneOf (room 0 ∷ broken ∷ [])) broken
  broken_given = given numbered.broken (inr (inl refl))

  pub push_sound : (b : Bool) → EditSound (OneOf (room 0 ∷ broken ∷ [])) ws (string_push ws n b)
  unfolding string_push
  push_sound b =
      edit_if_sound (held ws n) ws _ broken_given (edit_if_sound (held ws (suc n) && ltb (suc n) (2 ^ 64)) ws _ room_given (answered (suc n) _))

  pub resize_sound : (m : ℕ) → EditSound (OneOf (room 0 ∷ broken ∷ [])) ws (string_resize ws n m)
  unfolding string_resize
  resize_sound m = edit_if_sound (held ws n) ws _ broken_given (edit_if_sound (held ws m) ws _ room_given (answered m _))
