-- What the dictionary may refuse, and what areas 1 to 3 hold then.
use mathlib.Core.Path.{◌≡◌, refl}
use mathlib.Core.Bool.{true, false}
use mathlib.Core.Option.{Option, none, some}
use mathlib.Core.Logic.{inl, inr}
use mathlib.Core.List.{List, [], ◌∷◌}
use Prim.Native.Nat.{ℕ, zero, suc, pred, ◌+◌, ◌-◌, ◌*◌, ◌/◌, ◌^◌}
use lib.Dec.{leb, ltb, eqb}
use lib.ListN.{get_or}
use Rattle.meaning.specs.Answers.{Refusal, Answer, is, refused, broken, or_broken}
use Rattle.meaning.specs.Bits.{bits_of}
use Rattle.meaning.specs.Dictionary.{Dict, Start, is_empty, start_at, nth, plus, placed, select_walk, select_start, select_from, rank_of, select_of, pred_of, select_next, succ_by, succ_of}
use Rattle.meaning.specs.Questions.{sized}
use Rattle.meaning.specs.Refusals.{full_block}
use Rattle.meaning.specs.Direct.{DictRooms, Entries, DictAfter, dict_refusal, dict_rooms, dict_zeroed, dict_plan, dict_write, dict_build, dict_size}
use Rattle.meaning.specs.Direct.{dict_in, entries_fit, if_fit, dict_rank, dict_select, dict_pred, dict_succ}
use Rattle.mission.specs.Numbered as numbered
use Rattle.mission.specs.Numbered.{Numbered}
use Rattle.mission.specs.FirstDemand.{Told, value, none_found, refusal_of, Broken, OnPlan}
use Rattle.mission.proofs.Told.{given, refused_told, if_told, or_broken_told, option_told, only_broken, Sound, answered, unmade_sound}
use Rattle.mission.proofs.Told.{Refuses, passes, refuses, no_more, then, first_refuses, check_refuses, full_at_refuses}

-- its questions have no other refusal
broken_told : {A : Type 0} → Told {A = A} Broken (refused broken)
broken_told = refused_told only_broken

nth_told : (i : ℕ) (l : List ℕ) → Told Broken (nth i l)
unfolding nth
nth_told zero [] = broken_told
nth_told (suc i) [] = broken_told
nth_told zero (o ∷ l) = value o
nth_told (suc i) (o ∷ l) = nth_told i l

plus_told : (x : ℕ) {a : Answer ℕ} → Told Broken a → Told Broken (plus x a)
unfolding plus
plus_told x (value o) = value _
plus_told x none_found = none_found
plus_told x (refusal_of n h) = refusal_of n h

walk_told : (s x r : ℕ) (l : List ℕ) → Told Broken (select_walk s x r l)
unfolding select_walk
walk_told zero x r [] = none_found
walk_told (suc s) x r [] = broken_told
walk_told (suc s) x r (n ∷ l) = walk_told s x r l
walk_told zero x r (n ∷ l) = if_told (leb r n) (plus_told x (nth_told (pred r) l)) (walk_told n (x + 256) (r - n) l)

start_told : (x r o : ℕ) (l : List ℕ) → Told Broken (select_start x r o l)
unfolding select_start
start_told x r o [] = if_told (ltb o (2 ^ 64)) none_found broken_told
start_told x r o (n ∷ l) = if_told (ltb o r) (walk_told 0 x (r - o) (n ∷ l)) broken_told

placed_told : {a : Answer ℕ} → Told Broken a → Told Broken (placed a)
unfolding placed
placed_told (value i) = if_told (ltb i (2 ^ 64)) (value i) broken_told
placed_told none_found = none_found
placed_told (refusal_of n h) = refusal_of n h

module _ (d : Dict) where
  from_told : (r g m : ℕ) → Told Broken (select_from d r g m)
  unfolding select_from
  from_told r g m = at_start (start_at d g m)
    where
      at_start : (o : Option Start)
          → Told Broken (elim o as (λ (k : Option Start). Answer ℕ) [
            | none ↦ refused broken
            | some s ↦ elim (ltb (get_or d.large (2 * g + 1) 0) r) [ true ↦ select_start (2048 * m) r s.passed s.rest | false ↦ refused broken ]
          ])
      at_start none = broken_told
      at_start (some s) = if_told (ltb (get_or d.large (2 * g + 1) 0) r) (start_told (2048 * m) r s.passed s.rest) broken_told

  pub select_of_told : (r : ℕ) → Told Broken (select_of d r)
  unfolding select_of
  select_of_told zero = none_found
  select_of_told (suc r) = if_told (is_empty d) none_found (placed_told (from_told (suc r) _ _))

  by_rank_told : (f : ℕ → Answer ℕ) → ((r : ℕ) → Told Broken (f r)) → (o : Option ℕ)
      → Told Broken (elim o as (λ (k : Option ℕ). Answer ℕ) [ none ↦ refused broken | some r ↦ f r ])
  by_rank_told f h none = broken_told
  by_rank_told f h (some r) = h r

  pub pred_of_told : (x : ℕ) → Told Broken (pred_of d x)
  unfolding pred_of
  pred_of_told x = by_rank_told (select_of d) select_of_told (rank_of d x)

  next_told : (r : ℕ) → Told Broken (select_next d r)
  unfolding select_next
  next_told r = if_told (ltb (suc r) (2 ^ 64)) (select_of_told (suc r)) broken_told

  by_told : (x r : ℕ) {a : Answer ℕ} → Told Broken a → Told Broken (succ_by d x r a)
  unfolding succ_by
  by_told x r (value i) = if_told (eqb i x) (value x) (next_told r)
  by_told x r none_found = next_told r
  by_told x r (refusal_of n h) = refusal_of n h

  pub succ_of_told : (x : ℕ) → Told Broken (succ_of d x)
  unfolding succ_of
  succ_of_told x = by_rank_told (λ r. succ_by d x r (select_of d r)) (λ r. by_told x r (select_of_told r)) (rank_of d x)

  pub rank_of_told : (x : ℕ) → Told Broken (or_broken (rank_of d x))
  rank_of_told x = or_broken_told only_broken (rank_of d x)

module _ (e : Entries) (a : Dict) where
  fit_told : {x : Answer ℕ} → Told Broken x → Told Broken (if_fit e a x)
  unfolding if_fit
  fit_told t = if_told (entries_fit e a) t broken_told

  pub dict_rank_told : (x : ℕ) → Told Broken (dict_rank e a x)
  unfolding dict_rank
  dict_rank_told x = fit_told (rank_of_told (dict_in e a) x)

  pub dict_select_told : (r : ℕ) → Told Broken (dict_select e a r)
  unfolding dict_select
  dict_select_told r = fit_told (select_of_told (dict_in e a) r)

  pub dict_pred_told : (x : ℕ) → Told Broken (dict_pred e a x)
  unfolding dict_pred
  dict_pred_told x = fit_told (pred_of_told (dict_in e a) x)

  pub dict_succ_told : (x : ℕ) → Told Broken (dict_succ e a x)
  unfolding dict_succ
  dict_succ_told x = fit_told (succ_of_told (dict_in e a) x)

pub dict_size_told : (e : Entries) → Told Broken (dict_size e)
unfolding dict_size sized
dict_size_told e = if_told (ltb (e.bytes + 4 * e.middle + 16 * e.large) (2 ^ 64)) (value _) broken_told

pub plan_told : (ws : List ℕ) (n : ℕ) → Told (OnPlan n) (dict_plan ws n)
unfolding dict_plan
plan_told ws n =
    option_told
    (first_refuses
    (then (check_refuses _ 9 _ (given numbered.broken (inl (inl refl))))
    (then (check_refuses _ 2 _ (given (numbered.many n) (inl (inr (inl refl)))))
    (then (full_at_refuses 0 (full_block (n / 256 + 1) 0 (bits_of ws n)) (λ b. given (numbered.full 0 b) (inr (b, refl))) passes) no_more)))) (value _)

dict_refuses : (ws : List ℕ) (n : ℕ) (rooms : DictRooms) → Refuses Numbered (dict_refusal ws n rooms)
unfolding dict_refusal
dict_refuses ws n rooms =
    first_refuses
    (then (check_refuses _ 9 _ numbered.broken)
    (then (check_refuses _ 2 _ (numbered.many n))
    (then (full_at_refuses 0 (full_block (n / 256 + 1) 0 (bits_of ws n)) (numbered.full 0) passes)
    (then (check_refuses _ 4 _ (numbered.room numbered.bytes))
    (then (check_refuses _ 4 _ (numbered.room numbered.middle)) (then (check_refuses _ 4 _ (numbered.room numbered.large)) no_more))))))

abbrev pub DictSound : (Refusal → Type 0) → Dict → DictAfter → Type 0
DictSound R unmade d = Sound R unmade d.reply d.areas

outcome_sound : {o : Option Refusal} (e : Entries) (z unmade : Dict) → Refuses Numbered o
    → DictSound (λ r. o ≡ some r) unmade (elim o as (λ (k : Option Refusal). DictAfter) [
      | none ↦ record { reply = is e; areas = z }
      | some r ↦ record { reply = refused r; areas = unmade }
    ])
outcome_sound e z unmade passes = answered e z
outcome_sound e z unmade (refuses n) = unmade_sound unmade (given n refl)

pub build_sound : (ws : List ℕ) (n : ℕ) (rooms : DictRooms) → DictSound (λ r. dict_refusal ws n rooms ≡ some r) (dict_zeroed rooms) (dict_build ws n rooms)
unfolding dict_build
build_sound ws n rooms = outcome_sound _ _ (dict_zeroed rooms) (dict_refuses ws n rooms)

pub write_sound : (ws : List ℕ) (n : ℕ) (o : Entries) (a : Dict)
    → DictSound (λ r. dict_refusal ws n (dict_rooms o a) ≡ some r) a (dict_write ws n o a)
unfolding dict_write
write_sound ws n o a = outcome_sound _ _ a (dict_refuses ws n (dict_rooms o a))
