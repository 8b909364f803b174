-- THE END over the areas that a build of an accepted list leaves: the close, first child, next sibling and walk by the steps.
use mathlib.Core.Path.{◌≡◌, refl, sym, ap, ap₂, ◌∙◌}
use mathlib.Core.Bool.{Bool, true, false}
use mathlib.Core.Option.{some, none}
use mathlib.Core.Logic.{◌⊎◌, inl, inr}
use mathlib.Core.List.{List, [], ◌∷◌, ◌++◌, append_assoc}
use Prim.Native.Nat.{ℕ, zero, suc, ◌+◌, ◌*◌, ◌-◌, ◌≤◌}
use native.Mathlib.Omega.{arith}
use lib.Dec.{leb}
use lib.ListN.{length, get_or, replicate}
use Rattle.meaning.specs.Answers.{is}
use Rattle.meaning.specs.Bits.{bits_of, words_of}
use Rattle.meaning.specs.String.{string}
use Rattle.meaning.specs.List.{Rule, greatest}
use Rattle.meaning.specs.Match.{close_of}
use Rattle.meaning.specs.Family.{Level, no_dict, tower, Fits}
use Rattle.meaning.specs.Close.{close_at}
use Rattle.meaning.specs.Child.{root}
use Rattle.meaning.specs.Walk.{lowest, AnswersAre, visits, Tells, tell}
use Rattle.meaning.specs.Areas.{Rooms, Held, joined, area_words, area_bytes, area_middle, area_large, filled, view, no_counts, written, counted}
use Rattle.meaning.specs.Refusals.{refusal}
use Rattle.meaning.specs.Build.{tree_of, lent_of, levels_in, answers_in, build}
use Rattle.meaning.proofs.If.{bit, if_true, if_false, if_none}
use Rattle.meaning.proofs.String.{string_walk, string_length}
use Rattle.meaning.proofs.Deep.{fits_four}
use Rattle.meaning.proofs.Whole.{close_string}
use Rattle.meaning.proofs.Words.{words_hold}
use Rattle.meaning.proofs.View.{held_areas, view_tower}
use Rattle.meaning.proofs.Accepted.{accepted_exactly}
use Rattle.meaning.proofs.WalkBy.{walk_by_tells}
use Rattle.meaning.proofs.Stepped.{stepped_are}

-- the levels read back are the levels written
read_tower : (rooms : Rooms) (k : ℕ) (l : List Bool) → Fits k l → view (counted (tower k l)) (written rooms (tower k l)) ≡ tower k l
unfolding written filled counted
read_tower rooms k l fit =
    ap (view (counted (tower k l))) (sym (held_areas (tower k l) zeros)) ∙ view_tower k l fit (replicate (5 - length (tower k l)) no_counts) zeros
  where
    rest : ℕ → List ℕ → List ℕ
    rest n s = replicate (n - length s) 0

    zeros : Held
    zeros =
        record {
          words = rest rooms.words (area_words (tower k l));
          bytes = rest rooms.bytes (area_bytes (tower k l));
          middle = rest rooms.middle (area_middle (tower k l));
          large = rest rooms.large (area_large (tower k l));
        }

-- the lowest level is the string's
pub record First (l : List Bool) (t : List Level) : Type 0 where
  pub lead : Level
  pub more : List Level
  pub is : t ≡ lead ∷ more
  pub bits : lead.bits ≡ l

pub tower_first : (k : ℕ) (l : List Bool) → First l (tower k l)
unfolding tower
tower_first zero l = record { lead = record { bits = l; dict = no_dict }; more = []; is = refl; bits = refl }
tower_first (suc k) l = go (bit (leb (length l) 64))
  where
    go : (leb (length l) 64 ≡ true) ⊎ (leb (length l) 64 ≡ false) → First l (tower (suc k) l)
    go (inl e) = record { lead = _; more = _; is = if_true _ _ e; bits = refl }
    go (inr e) = record { lead = _; more = _; is = if_false _ _ e; bits = refl }

module _ (vs bs : List ℕ) (rooms : Rooms) (r : Rule vs) (h : length vs ≤ greatest) where
  levels_in_lem : levels_in (tree_of vs) (lent_of vs bs rooms) ≡ tower 4 (string vs)
  unfolding tree_of lent_of
  levels_in_lem = read_tower rooms 4 (string vs) (fits_four (string vs) (string_walk vs r) (omega (arith, string_length vs r)))

  pub held_close : (p : ℕ) → get_or (string vs) p false ≡ true → close_at (levels_in (tree_of vs) (lent_of vs bs rooms)) p ≡ some (close_of (string vs) p)
  held_close p e = ap (λ t. close_at t p) levels_in_lem ∙ close_string vs r h p e

  pub held_lowest : lowest (levels_in (tree_of vs) (lent_of vs bs rooms)) ≡ string vs
  unfolding lowest
  held_lowest = let f = tower_first 4 (string vs) in ap lowest levels_in_lem ∙ ap lowest f.is ∙ f.bits

  -- first child and next sibling by the steps
  pub held_answers : AnswersAre (string vs) (answers_in (tree_of vs) (lent_of vs bs rooms))
  held_answers = stepped_are (string vs) (levels_in (tree_of vs) (lent_of vs bs rooms)) held_lowest held_close

  -- so the walk by the steps tells exactly the levels and the labels
  pub held_tells : length vs ≡ length bs → (k : ℕ) → length vs ≤ k
      → Tells vs bs (tell (lent_of vs bs rooms).labels (visits (answers_in (tree_of vs) (lent_of vs bs rooms)) k (root ∷ [])))
  unfolding lent_of filled
  held_tells e k g =
      walk_by_tells vs r (answers_in (tree_of vs) (lent_of vs bs rooms)) held_answers bs (replicate (rooms.labels - length bs) 0) e k g

  -- area 0 holds the string
  pub held_string : bits_of (lent_of vs bs rooms).held.words (2 * length vs + 2) ≡ string vs
  unfolding lent_of written filled area_words joined
  held_string =
      let l = string vs in
      let f = tower_first 4 l in
      let zeros : List ℕ = replicate (rooms.words - length (area_words (tower 4 l))) 0 in
      let e : area_words (tower 4 l) ++ zeros ≡ words_of l ++ (area_words f.more ++ zeros) =
      ap (λ t. area_words t ++ zeros) f.is
      ∙ ap (λ b. (words_of b ++ area_words f.more) ++ zeros) f.bits
      ∙ append_assoc (words_of l) (area_words f.more) zeros in
      ap₂ bits_of e (sym (string_length vs r)) ∙ words_hold l (area_words f.more ++ zeros)

-- so of every build that is not refused
pub build_tells : (vs bs : List ℕ) (rooms : Rooms) → refusal vs bs rooms ≡ none
    → (build vs bs rooms ≡ record { reply = is (tree_of vs); areas = lent_of vs bs rooms })
    × Tells vs bs (tell (lent_of vs bs rooms).labels (visits (answers_in (tree_of vs) (lent_of vs bs rooms)) (length vs) (root ∷ [])))
unfolding build
build_tells vs bs rooms e =
    let a = (accepted_exactly vs bs rooms).0 e in
    (if_none _ _ e, held_tells vs bs rooms a.rule a.few a.same (length vs) (omega arith))
