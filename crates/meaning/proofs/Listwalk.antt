-- Of the build's refusals only LEVEL can show in `listwalk`, and the siblings of its listing are the tree's.
use mathlib.Core.Path.{◌≡◌, refl, sym, ap, subst, ◌∙◌}
use mathlib.Core.Bool.{Bool, true, false, ◌&&◌}
use mathlib.Core.Option.{Option, none, some}
use mathlib.Core.Logic.{◌⊎◌, inl, inr}
use mathlib.Core.List.{List, [], ◌∷◌, ◌++◌}
use Prim.Native.Nat.{ℕ, zero, suc, ◌+◌, ◌*◌, ◌/◌, ◌<◌, ◌≤◌}
use native.Mathlib.Decide.{dec_le}
use native.Mathlib.Omega.{arith}
use lib.Dec.{ltb, eqb}
use lib.ListN.{length, get_or, take, drop, length-append, take-append-drop}
use borrow.Author.Tests.{le-leb, lt-leb, lt-ltb, eq-eqb, ne_eqb, ltb-true, eqb-true}
use Rattle.meaning.specs.Answers.{Refusal}
use Rattle.meaning.specs.Bits.{opens, words_of}
use Rattle.meaning.specs.String.{string}
use Rattle.meaning.specs.List.{offending, Rule, greatest}
use Rattle.meaning.specs.Pioneers.{flags, pioneer_string}
use Rattle.meaning.specs.Dictionary.{block_count, ones_to, byte_pos, dict_of, dict_with, middle_pos, middle_rank, large_pos, large_rank}
use Rattle.meaning.specs.Family.{Level, no_dict, tower}
use Rattle.meaning.specs.Sibling.{next}
use Rattle.meaning.specs.Kin.{node_at, below, HasLevel}
use Rattle.meaning.specs.Areas.{Rooms, joined, area_words, area_bytes, area_middle, area_large}
use Rattle.meaning.specs.Refusals.{check, full_block, full_at, full_from, first_of, level_rule, checks, refusal, Accepted}
use Rattle.meaning.specs.Build.{tree_of, lent_of}
use Rattle.meaning.specs.Questions.{next_sibling, heard}
use Rattle.meaning.specs.Listing.{Enough, id_at_level, sibling_id, id_of}
use Rattle.meaning.proofs.If.{bit, if_true, if_false, and_true, both}
use Rattle.meaning.proofs.Tab.{opens_append, opens_take}
use Rattle.meaning.proofs.String.{Walk, string_length, string_walk}
use Rattle.meaning.proofs.Offending.{offending_none}
use Rattle.meaning.proofs.Rank.{length_pair_up}
use Rattle.meaning.proofs.Up.{length_flags}
use Rattle.meaning.proofs.Words.{length_words}
use Rattle.meaning.proofs.Deep.{flags_few, up_few}
use Rattle.meaning.proofs.Narrow.{bytes_ones, end_le}
use Rattle.meaning.proofs.Accepted.{accepted_exactly}
use Rattle.meaning.proofs.Kin.{node_of_lem, kin}
use Rattle.meaning.proofs.Questions.{asking_are}

-- fewer than 256 ones fill no block
few_full : (k b : ℕ) (f : List Bool) → opens f < 256 → full_block k b f ≡ none
unfolding full_block
few_full zero b f h = refl
few_full (suc k) b f h =
    if_false _ _ (ne_eqb (opens (take 256 f)) 256 (λ e. omega (arith, opens_take 256 f)))
    ∙ few_full k (suc b) (drop 256 f) (omega (arith, opens_append (take 256 f) (drop 256 f), ap opens (take-append-drop 256 f)))

-- a string of at most 17 words
module _ (l : List Bool) (w : Walk 0 l 0) (h : length l ≤ 1026) where
  up_short : length (pioneer_string l) ≤ 62
  up_short = omega (arith, up_few l w 17 (omega arith))

  flags_short : opens (flags l) ≤ 62
  flags_short = omega (arith, flags_few l w 17 (omega arith))

  short_none : full_from 4 1 l ≡ none
  unfolding full_from full_at
  short_none = go (dec_le (length l) 64)
    where
      go : Dec (length l ≤ 64) → full_from 4 1 l ≡ none
      go (yes s) = if_true _ _ (le-leb (length l) 64 s)
      go (no s) =
          if_false _ _ (lt-leb (length l) 64 (omega arith))
          ∙ ap (λ o. full_at 1 o (full_from 3 2 (pioneer_string l))) (few_full (length l / 256 + 1) 0 (flags l) (omega (arith, flags_short)))
          ∙ if_true _ _ (le-leb (length (pioneer_string l)) 64 (omega (arith, up_short)))

  -- its tower: itself, and at most one pioneer string
  short_tower : (P : List Level → Type 0) → P (record { bits = l; dict = no_dict } ∷ [])
      → P (record { bits = l; dict = dict_of (flags l) } ∷ record { bits = pioneer_string l; dict = no_dict } ∷ []) → P (tower 4 l)
  unfolding tower pioneer_string
  short_tower P a b = go (dec_le (length l) 64)
    where
      go : Dec (length l ≤ 64) → P (tower 4 l)
      go (yes s) = subst P (sym (if_true _ _ (le-leb (length l) 64 s))) a
      go (no s) =
          let u = if_true _ _ (le-leb (length (pioneer_string l)) 64 (omega (arith, up_short))) in
          subst P (sym (if_false _ _ (lt-leb (length l) 64 (omega arith)) ∙ ap (λ t. record { bits = l; dict = dict_of (flags l) } ∷ t) u)) b

  blocks_few : block_count (flags l) ≤ 5
  unfolding block_count
  blocks_few = omega (arith, end_le (flags l), length_flags l)

  words_few : length (area_words (tower 4 l)) ≤ 18
  unfolding area_words joined
  words_few =
      short_tower (λ t. length (area_words t) ≤ 18)
      (omega (arith, length-append (words_of l) [], length_words l))
      (omega (
        arith,
        up_short,
        length-append (words_of l) (words_of (pioneer_string l) ++ []),
        length-append (words_of (pioneer_string l)) [],
        length_words l,
        length_words (pioneer_string l),
      ))

  dict_bytes : length (dict_of (flags l)).bytes ≤ 67
  unfolding dict_of dict_with byte_pos ones_to
  dict_bytes =
      let k = block_count (flags l) in
      omega (arith, blocks_few, flags_short, bytes_ones k (flags l), opens_take (256 * k) (flags l))

  dict_middle : length (dict_of (flags l)).middle ≤ 2
  unfolding dict_of dict_with
  dict_middle =
      let f = flags l in
      omega (arith, blocks_few, length_pair_up (middle_pos f) (middle_rank f) 0 ((block_count f + 7) / 8))

  dict_large : length (dict_of (flags l)).large ≤ 2
  unfolding dict_of dict_with
  dict_large =
      let f = flags l in
      omega (arith, blocks_few, length_pair_up (large_pos f) (large_rank f) 0 ((block_count f + 255) / 256))

  bytes_few : length (area_bytes (tower 4 l)) ≤ 67
  unfolding area_bytes joined
  bytes_few =
      short_tower (λ t. length (area_bytes t) ≤ 67) (omega arith) (omega (arith, dict_bytes, length-append (dict_of (flags l)).bytes []))

  middle_few : length (area_middle (tower 4 l)) ≤ 2
  unfolding area_middle joined
  middle_few =
      short_tower (λ t. length (area_middle t) ≤ 2) (omega arith) (omega (arith, dict_middle, length-append (dict_of (flags l)).middle []))

  large_few : length (area_large (tower 4 l)) ≤ 2
  unfolding area_large joined
  large_few =
      short_tower (λ t. length (area_large t) ≤ 2) (omega arith) (omega (arith, dict_large, length-append (dict_of (flags l)).large []))

module _ (vs bs : List ℕ) (rooms : Rooms) (same : length vs ≡ length bs) (few : length vs ≤ 512) (big : Enough rooms) where
  pub short_accepted : Rule vs → Accepted vs bs rooms
  short_accepted r =
      let l = string vs in
      let w = string_walk vs r in
      let h : length l ≤ 1026 = omega (arith, string_length vs r) in
      record {
        same = same;
        few = omega arith;
        rule = r;
        scratch = omega (arith, big.scratch);
        narrow = short_none l w h;
        words = omega (arith, words_few l w h, big.words);
        bytes = omega (arith, bytes_few l w h, big.bytes);
        middle = omega (arith, middle_few l w h, big.middle);
        large = omega (arith, large_few l w h, big.large);
        label = omega (arith, big.labels);
      }

  -- "LEVEL is the only refusal of the build that can show"
  pub only_level : refusal vs bs rooms ≡ level_rule (offending vs)
  unfolding refusal checks level_rule first_of check
  only_level = go (offending vs) refl
    where
      first : (a b : Bool) (o : Option ℕ) (k : ℕ) (rs : List (Option Refusal)) → a ≡ true → b ≡ true → o ≡ some k
          → first_of (check a 1 (0 ∷ []) ∷ check b 2 (length vs ∷ []) ∷ level_rule o ∷ rs) ≡ level_rule o
      first a b o k rs e f g = rw (e, f, g, first_of, check, level_rule)

      go : (o : Option ℕ) → offending vs ≡ o → refusal vs bs rooms ≡ level_rule (offending vs)
      go none e = (accepted_exactly vs bs rooms).1 (short_accepted ((offending_none vs).0 e)) ∙ sym (ap level_rule e)
      go (some k) e =
          first _ _ (offending vs) k (drop 2 (checks vs rooms)) (eq-eqb (length vs) (length bs) same) (le-leb (length vs) greatest (omega arith)) e

-- the listing's next sibling is the tree's
has_level : (vs : List ℕ) (v j : ℕ) → HasLevel vs j v → id_at_level vs v j ≡ suc j
unfolding id_at_level
has_level vs v j h = if_true _ _ (and_true (lt-ltb j (length vs) h.inside) (eq-eqb (get_or vs j 0) v h.level))

no_level : (vs : List ℕ) (v j : ℕ) → id_at_level vs v j ≡ 0 → ¬ (HasLevel vs j v)
no_level vs v j e h = omega (arith, has_level vs v j h)

level_or_not : (vs : List ℕ) (v j : ℕ) → HasLevel vs j v ⊎ (id_at_level vs v j ≡ 0)
unfolding id_at_level
level_or_not vs v j = go (bit (ltb j (length vs) && eqb (get_or vs j 0) v))
  where
    go : ((ltb j (length vs) && eqb (get_or vs j 0) v) ≡ true) ⊎ ((ltb j (length vs) && eqb (get_or vs j 0) v) ≡ false) → HasLevel vs j v ⊎ (id_at_level vs v j ≡ 0)
    go (inl e) =
        let b = both _ _ e in
        inl (record { inside = ltb-true j (length vs) b.0; level = eqb-true (get_or vs j 0) v b.1 })
    go (inr e) = inr (if_false _ _ e)

pub sibling_id_lem : (vs : List ℕ) → Rule vs → (k : ℕ) → k < length vs → sibling_id vs k ≡ id_of (next (string vs) (node_at vs k))
unfolding sibling_id id_of node_at
sibling_id_lem vs r k h = go (level_or_not vs (get_or vs k 0) (suc k + below vs k))
  where
    go : HasLevel vs (suc k + below vs k) (get_or vs k 0) ⊎ (id_at_level vs (get_or vs k 0) (suc k + below vs k) ≡ 0)
        → sibling_id vs k ≡ id_of (next (string vs) (node_at vs k))
    go (inl g) = has_level vs (get_or vs k 0) (suc k + below vs k) g ∙ sym (ap id_of ((kin vs r k h).sib g))
    go (inr e) = e ∙ sym (ap id_of ((kin vs r k h).no_sib (no_level vs (get_or vs k 0) (suc k + below vs k) e)))

-- as the question answers it on what a build left
pub sibling_heard : (vs bs : List ℕ) (rooms : Rooms) (a : Accepted vs bs rooms) (k : ℕ) → k < length vs
    → id_of (heard (next_sibling (tree_of vs) (lent_of vs bs rooms) (node_at vs k))) ≡ sibling_id vs k
sibling_heard vs bs rooms a k h =
    ap id_of ((asking_are vs bs rooms a).sib (node_at vs k) (node_of_lem vs a.rule k h)) ∙ sym (sibling_id_lem vs a.rule k h)
