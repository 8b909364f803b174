-- What build and growth may refuse: rows of 01's table, and not 6.
use mathlib.Core.Path.{◌≡◌, refl}
use mathlib.Core.Bool.{Bool, true, false}
use mathlib.Core.Option.{Option, none, some}
use mathlib.Core.Logic.{◌⊎◌, inl, inr}
use mathlib.Core.List.{List, [], ◌∷◌, ◌++◌}
use Prim.Native.Nat.{ℕ, zero, suc, ◌+◌, ◌/◌}
use lib.Dec.{leb}
use lib.ListN.{length}
use Rattle.meaning.specs.Answers.{Refusal}
use Rattle.meaning.specs.Bits.{bits_of}
use Rattle.meaning.specs.String.{string}
use Rattle.meaning.specs.List.{offending}
use Rattle.meaning.specs.Pioneers.{flags, pioneer_string}
use Rattle.meaning.specs.Areas.{Rooms}
use Rattle.meaning.specs.Refusals.{full_block, full_from, checks, refusal}
use Rattle.meaning.specs.Build.{Lent, Tree, rooms_of}
use Rattle.meaning.specs.Growth.{levels_of, bits_in, grow_refusal}
use Rattle.meaning.proofs.NeverDeep.{never_six, growth_never_six}
use Rattle.std.specs.Prelude.{Ok, Err}
use Rattle.refusal.specs.Said as code
use Rattle.refusal.specs.Said.{refused_of}
use Rattle.balanced_parens.specs.Said.{said}
use Rattle.balanced_parens.specs.Demands.{Made}
use Rattle.mission.specs.Numbered as numbered
use Rattle.mission.specs.Numbered.{Numbered}
use Rattle.mission.specs.FirstDemand.{Told, value}
use Rattle.mission.proofs.Told.{Given, refused_told, Refuses, passes, AllRefuse, no_more, then, first_refuses, check_refuses, level_refuses, full_at_refuses}
use Rattle.mission.proofs.Told.{refuses_some}

-- a row of the table, or its 6
abbrev InTable : Refusal → Type 0
InTable r = Numbered r ⊎ (r.number ≡ 6)

if_refuses : {P : Refusal → Type 0} (b : Bool) {o : Option Refusal} → Refuses P o → Refuses P (elim b [ true ↦ none | false ↦ o ])
if_refuses true h = passes
if_refuses false h = h

full_refuses : (k v : ℕ) (l : List Bool) → Refuses InTable (full_from k v l)
unfolding full_from
full_refuses zero v l = check_refuses (leb (length l) 64) 6 (0 ∷ []) (inr refl)
full_refuses (suc k) v l =
    if_refuses (leb (length l) 64)
    (full_at_refuses v (full_block (length l / 256 + 1) 0 (flags l)) (λ b. inl (numbered.full v b)) (full_refuses k (suc v) (pioneer_string l)))

checks_refuse : (vs : List ℕ) (rooms : Rooms) → AllRefuse InTable (checks vs rooms)
unfolding checks
checks_refuse vs rooms =
    then (check_refuses _ 2 _ (inl (numbered.many (length vs))))
    (then (level_refuses (λ k. inl (numbered.level k)) (offending vs))
    (then (check_refuses _ 4 _ (inl (numbered.room numbered.scratch)))
    (then (full_refuses 4 1 (string vs))
    (then (check_refuses _ 4 _ (inl (numbered.room numbered.words)))
    (then (check_refuses _ 4 _ (inl (numbered.room numbered.bytes)))
    (then (check_refuses _ 4 _ (inl (numbered.room numbered.middle)))
    (then (check_refuses _ 4 _ (inl (numbered.room numbered.large)))
    (then (check_refuses _ 4 _ (inl (numbered.room numbered.labels))) no_more))))))))

not_six : {r : Refusal} → InTable r → ¬ (r.number ≡ 6) → Numbered r
not_six (inl n) h = n
not_six (inr e) h = absurd (h e)

pub build_numbered : (vs bs : List ℕ) (rooms : Rooms) (r : Refusal) → refusal vs bs rooms ≡ some r → Numbered r
unfolding refusal
build_numbered vs bs rooms r e =
    not_six (refuses_some (first_refuses (then (check_refuses _ 1 _ (inl numbered.lengths)) (checks_refuse vs rooms))) r e) (never_six vs bs rooms r e)

pub growth_numbered : (t : Tree) (a : Lent) (v : ℕ) (r : Refusal) → grow_refusal t a v ≡ some r → Numbered r
unfolding grow_refusal
growth_numbered t a v r e =
    not_six
    (refuses_some
    (first_refuses
    (then (check_refuses _ 9 _ (inl numbered.broken)) (checks_refuse (levels_of (bits_of a.held.words (bits_in t)) ++ v ∷ []) (rooms_of a)))) r e)
    (growth_never_six t a v r e)

-- the answer, by its refusal
pub reply_told : {R : Refusal → Type 0} (r : Made) → ((x : Refusal) → refused_of r ≡ some x → Given R x) → Told R (said r)
reply_told (Ok c) h = value _
reply_told (Err x) h = refused_told (h (code.refusal_of x) refl)
