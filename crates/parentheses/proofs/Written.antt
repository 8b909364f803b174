-- The ways out of `write_levels`: the string's words, then its dictionary, then the levels above it, with no gaps.
use mathlib.Core.Path.{◌≡◌, refl, sym, ap, ap₂, ◌∙◌}
use mathlib.Core.Bool.{Bool, true, false}
use mathlib.Core.Option.{Option, none, some}
use mathlib.Core.List.{List, [], ◌∷◌, ◌++◌, append-nil}
use mathlib.Core.Logic.{◌⊎◌, inl, inr}
use Prim.Native.Nat.{ℕ, zero, suc, ◌+◌, ◌-◌, ◌*◌, ◌/◌, ◌≤◌, ◌<◌}
use native.Mathlib.Omega.{arith}
use lib.Dec.{leb}
use lib.ListN.{length, take, drop, replicate, length-append}
use lib.Seq.{sets, sets-eq, length-sets, paste, ext_get_or, get_or-take, length-take-le}
use borrow.Author.Tests.{le-leb, lt-leb}
use Rattle.meaning.specs.Answers.{Refusal}
use Rattle.meaning.specs.Bits.{pack, words_of, word_count}
use Rattle.meaning.specs.Pioneers.{flags, pioneer_string}
use Rattle.meaning.specs.Dictionary.{Dict, dict_of}
use Rattle.meaning.specs.Family.{Level, tower}
use Rattle.meaning.specs.Areas.{Held, joined, area_words, area_bytes, area_middle, area_large}
use Rattle.meaning.specs.Refusals.{full_block, full_at, full_from}
use Rattle.meaning.specs.Direct.{Entries, entries_of, dict_put}
use Rattle.meaning.proofs.Pack.{length_pack, pack_at}
use Rattle.meaning.proofs.Words.{length_words}
use Rattle.meaning.proofs.Runs.{sets_more}
use Rattle.sparse_one_nnd.specs.Said.{entries_in, dict_at}
use Rattle.pioneers.specs.Scratch.{text_of}
use Rattle.pioneers.specs.declared.flags.Layout.{Layout}
use Rattle.pioneers.proofs.Parts.{text_length}
use Rattle.parentheses.specs.Plans.{added, Small, Standing}
use Rattle.parentheses.specs.Writes.{held_at, put, Putting, PutIs, Writing, WrittenIs}
use Rattle.parentheses.specs.declared.plans.Sizes.{Sizes}
use Rattle.parentheses.specs.declared.plans.Family.{Family}
use Rattle.std.specs.Prelude.{Some, None}
use Rattle.parentheses.proofs.Holds.{drop_holding, standing_next}
use Rattle.parentheses.proofs.Counting.{single, famous, tower_short, tower_long, even_middle, even_large}
use Rattle.parentheses.proofs.Planning.{long_next}

-- a copy is a run of stores
pub paste_sets : (d : List ℕ) (b : ℕ) (s : List ℕ) (n : ℕ) (v : List ℕ) → take n s ≡ v → n ≡ length v → b + length v ≤ length d → paste d b s n ≡ sets d b v
paste_sets d b s n v e f h = ap₂ (λ (x : List ℕ) (k : ℕ). take b d ++ x ++ drop (b + k) d) e f ∙ sym (sets-eq v d b h)

-- the first words of a packed list
pub take_pack : (a k : ℕ) (l : List Bool) → a ≤ k → take a (pack k l) ≡ pack a l
take_pack a k l h =
    ext_get_or 0 (take a (pack k l)) (pack a l) (size ∙ sym (length_pack a l))
    (λ w g. let i : w < a = omega (arith, size) in get_or-take a (pack k l) w 0 i ∙ pack_at k l w (omega arith) ∙ sym (pack_at a l w i))
  where
    size : length (take a (pack k l)) ≡ a
    size = length-take-le a (pack k l) (omega (arith, length_pack k l))

pub held_ext : (a b : Held) → a.words ≡ b.words → a.bytes ≡ b.bytes → a.middle ≡ b.middle → a.large ≡ b.large → a ≡ b
held_ext a b p q r s = λ i. record { words = p i; bytes = q i; middle = r i; large = s i }

full_next : (v : ℕ) (o : Option ℕ) (r : Option Refusal) → full_at v o r ≡ none → (o ≡ none) × (r ≡ none)
unfolding full_at
full_next v none r e = (refl, e)
full_next v (some b) r e = absurd (let z : ◌≡◌ {A = ℕ} 0 1 = cc in omega arith)

module _ (scr : List ℕ) (lay : Layout) (left : ℕ) (at : Sizes) (w b m g : List ℕ) (s : Writing scr lay left at (held_at w b m g)) where
  abbrev l : List Bool
  l = text_of scr lay

  abbrev st : Standing scr lay
  st = s.standing

  size : length l ≡ lay.bits
  size = text_length scr lay

  -- the string's words are the first of the area, and the levels above come after them
  tower_words : (t : List Level) → area_words (single l ∷ t) ≡ words_of l ++ area_words t
  unfolding area_words joined
  tower_words t = refl

  is_first : (v : Level) (t : List Level) → v.bits ≡ l → length (area_words (v ∷ t)) ≡ word_count lay.bits + length (area_words t)
  unfolding area_words joined
  is_first v t e = length-append (words_of v.bits) (area_words t) ∙ omega (arith, ap (λ x. length (words_of x)) e, length_words l, size)

  short_tower : (lay.bits ≤ 64) ⊎ (left ≡ 0) → tower left l ≡ single l ∷ []
  unfolding tower
  short_tower (inl h) = tower_short left l (le-leb (length l) 64 (omega (arith, size)))
  short_tower (inr e) = ap (λ k. tower k l) e

  first_fits : at.words + word_count lay.bits ≤ length w
  first_fits = go (leb (length l) 64) refl left refl
    where
      go : (x : Bool) → leb (length l) 64 ≡ x → (k : ℕ) → left ≡ k → at.words + word_count lay.bits ≤ length w
      go true e k f = omega (arith, s.words, ap (λ t. length (area_words t)) (tower_short left l e), is_first (single l) [] refl)
      go false e zero f = omega (arith, s.words, ap (λ t. length (area_words t)) (short_tower (inr f)), is_first (single l) [] refl)
      go false e (suc k) f =
          omega (arith, s.words, ap (λ t. length (area_words t)) (ap (λ n. tower n l) f ∙ tower_long k l e), is_first (famous l) (tower k (pioneer_string l)) refl)

  pub write_room : (lay.text + word_count lay.bits ≤ length scr) × (at.words + word_count lay.bits ≤ length w)
  write_room = (omega (arith, st.room, st.inside), omega (arith, first_fits))

  -- what is copied
  words_are : take (word_count lay.bits) (drop lay.text scr) ≡ words_of l
  unfolding words_of
  words_are =
      ap (λ (x : List ℕ). take (word_count lay.bits) (drop lay.text x)) st.holds
      ∙ ap (take (word_count lay.bits)) (drop_holding lay.text (length scr) l st.inside)
      ∙ take_pack (word_count lay.bits) (length scr - lay.text) l (omega (arith, st.room))
      ∙ ap (λ n. pack (word_count n) l) (sym size)

  module _ (w' : List ℕ) (c : w' ≡ paste w at.words (drop lay.text scr) (word_count lay.bits)) where
    copied : w' ≡ sets w at.words (words_of l)
    copied =
        c ∙ paste_sets w at.words (drop lay.text scr) (word_count lay.bits) (words_of l) words_are (ap word_count (sym size) ∙ sym (length_words l))
        (omega (arith, first_fits, length_words l, size))

    pub write_last : (lay.bits ≤ 64) ⊎ (left ≡ 0) → (exit : List ℕ) → exit ≡ replicate (length scr) 0
        → WrittenIs scr lay left at (held_at w b m g) (held_at w' b m g) exit
    unfolding area_words area_bytes area_middle area_large joined
    write_last h exit z =
        record {
          areas =
              held_ext (held_at w' b m g) (put at (tower left l) (held_at w b m g))
              (copied ∙ ap (sets w at.words) (sym (append-nil (words_of l))) ∙ ap (λ t. sets w at.words (area_words t)) (sym (short_tower h)))
              (ap (λ t. sets b at.dict.bytes (area_bytes t)) (sym (short_tower h)))
              (ap (λ t. sets m (2 * at.dict.middles) (area_middle t)) (sym (short_tower h)))
              (ap (λ t. sets g (2 * at.dict.larges) (area_large t)) (sym (short_tower h)));
          zeros = z;
        }

    module _ (long : 64 < lay.bits) (n : left ≡ 0 → ⊥) where
      abbrev rest : List Level
      rest = tower (left - 1) (pioneer_string l)

      far : leb (length l) 64 ≡ false
      far = lt-leb (length l) 64 (omega (arith, size))

      tower_is : tower left l ≡ famous l ∷ rest
      tower_is = let u : left ≡ suc (left - 1) = omega arith in ap (λ k. tower k l) u ∙ tower_long (left - 1) l far

      narrow : (full_block (length l / 256 + 1) 0 (flags l) ≡ none) × (full_from (left - 1) (suc s.level) (pioneer_string l) ≡ none)
      narrow =
          let u : suc (left - 1) ≡ left = omega arith in
          full_next s.level _ _ (sym (long_next (left - 1) s.level l far) ∙ ap (λ k. full_from k s.level l) u ∙ s.narrow)

      -- each area: this level's part, then the rest
      bytes_are : length (area_bytes (tower left l)) ≡ length (dict_of (flags l)).bytes + length (area_bytes rest)
      unfolding area_bytes joined
      bytes_are = ap (λ t. length (area_bytes t)) tower_is ∙ length-append (dict_of (flags l)).bytes (area_bytes rest)

      middle_are : length (area_middle (tower left l)) ≡ length (dict_of (flags l)).middle + length (area_middle rest)
      unfolding area_middle joined
      middle_are = ap (λ t. length (area_middle t)) tower_is ∙ length-append (dict_of (flags l)).middle (area_middle rest)

      large_are : length (area_large (tower left l)) ≡ length (dict_of (flags l)).large + length (area_large rest)
      unfolding area_large joined
      large_are = ap (λ t. length (area_large t)) tower_is ∙ length-append (dict_of (flags l)).large (area_large rest)

      rest_words : length (area_words (tower left l)) ≡ word_count lay.bits + length (area_words rest)
      rest_words = ap (λ t. length (area_words t)) tower_is ∙ is_first (famous l) rest refl

      pub write_putting : Putting scr lay at.dict b m g
      write_putting =
          record {
            standing = st;
            long = long;
            narrow = ap (λ k. full_block (k / 256 + 1) 0 (flags l)) (sym size) ∙ narrow.0;
            bytes = omega (arith, s.bytes, bytes_are);
            middle = omega (arith, s.middle, middle_are);
            large = omega (arith, s.large, large_are);
          }

      pub write_refused : (exit b' m' g' : List ℕ) → PutIs None scr lay at.dict b m g exit b' m' g' → {A : Type 0} → A
      unfolding PutIs
      write_refused exit b' m' g' p = absurd p

      module _ (f : Family) (exit b' m' g' : List ℕ) (put_is : PutIs (Some f) scr lay at.dict b m g exit b' m' g') where
        abbrev next : Layout
        next = record { text = lay.text; flags = lay.flags; bits = f.bits }

        entries : entries_in f.dict ≡ entries_of (dict_of (flags l))
        unfolding PutIs
        entries = put_is.0

        dict_bytes : f.dict.bytes ≡ length (dict_of (flags l)).bytes
        unfolding entries_of
        dict_bytes = ap (λ (x : Entries). x.bytes) entries

        dict_middle : 2 * f.dict.middles ≡ length (dict_of (flags l)).middle
        unfolding entries_of
        dict_middle = omega (arith, ap (λ (x : Entries). x.middle) entries, even_middle (flags l))

        dict_large : 2 * f.dict.larges ≡ length (dict_of (flags l)).large
        unfolding entries_of
        dict_large = omega (arith, ap (λ (x : Entries). x.large) entries, even_large (flags l))

        put_areas : dict_at b' m' g' ≡ dict_put (entries_in at.dict) (dict_of (flags l)) (dict_at b m g)
        unfolding PutIs
        put_areas = put_is.3

        bytes_put : b' ≡ sets b at.dict.bytes (dict_of (flags l)).bytes
        unfolding dict_put
        bytes_put = ap (λ (x : Dict). x.bytes) put_areas

        middle_put : m' ≡ sets m (2 * at.dict.middles) (dict_of (flags l)).middle
        unfolding dict_put
        middle_put = ap (λ (x : Dict). x.middle) put_areas

        large_put : g' ≡ sets g (2 * at.dict.larges) (dict_of (flags l)).large
        unfolding dict_put
        large_put = ap (λ (x : Dict). x.large) put_areas

        pub write_small : Small at f.dict
        write_small =
            record {
              words = omega (arith, s.small.0);
              bytes = (omega (arith, s.small.1), omega (arith, s.small.1, bytes_are, dict_bytes));
              middles = (omega (arith, s.small.2), omega (arith, s.small.2, middle_are, dict_middle));
              larges = (omega (arith, s.small.3), omega (arith, s.small.3, large_are, dict_large));
            }

        stands : Standing exit next × (text_of exit next ≡ pioneer_string l) × (length exit ≡ length scr)
        unfolding PutIs
        stands = standing_next scr lay st long exit f.bits put_is.1 put_is.2

        module _ (past : Sizes) (q : past ≡ added at lay.bits f.dict) where
          past_words : past.words ≡ at.words + word_count lay.bits
          past_words = ap (λ (x : Sizes). x.words) q

          past_bytes : past.dict.bytes ≡ at.dict.bytes + f.dict.bytes
          past_bytes = ap (λ (x : Sizes). x.dict.bytes) q

          past_middles : past.dict.middles ≡ at.dict.middles + f.dict.middles
          past_middles = ap (λ (x : Sizes). x.dict.middles) q

          past_larges : past.dict.larges ≡ at.dict.larges + f.dict.larges
          past_larges = ap (λ (x : Sizes). x.dict.larges) q

          same_rest : tower (left - 1) (text_of exit next) ≡ rest
          same_rest = ap (tower (left - 1)) stands.1

          pub write_next : Writing exit next (left - 1) past (held_at w' b' m' g')
          write_next =
              let kw = ap (λ t. length (area_words t)) same_rest in
              let kb = ap (λ t. length (area_bytes t)) same_rest in
              let km = ap (λ t. length (area_middle t)) same_rest in
              let kg = ap (λ t. length (area_large t)) same_rest in
              record {
                standing = stands.0;
                few = omega (arith, s.few);
                level = suc s.level;
                narrow = ap (full_from (left - 1) (suc s.level)) stands.1 ∙ narrow.1;
                words = omega (arith, s.words, rest_words, past_words, kw, ap length copied, length-sets w at.words (words_of l));
                bytes = omega (arith, s.bytes, bytes_are, past_bytes, dict_bytes, kb, ap length bytes_put, length-sets b at.dict.bytes (dict_of (flags l)).bytes);
                middle = omega (arith, s.middle, middle_are, past_middles, dict_middle, km, ap length middle_put, length-sets m (2 * at.dict.middles) (dict_of (flags l)).middle);
                large = omega (arith, s.large, large_are, past_larges, dict_large, kg, ap length large_put, length-sets g (2 * at.dict.larges) (dict_of (flags l)).large);
                small = (
                  omega (arith, s.small.0, rest_words, past_words, kw),
                  omega (arith, s.small.1, bytes_are, past_bytes, dict_bytes, kb),
                  omega (arith, s.small.2, middle_are, past_middles, dict_middle, km),
                  omega (arith, s.small.3, large_are, past_larges, dict_large, kg),
                );
              }

          -- this level and the rest
          after : (x : List ℕ) (i j : ℕ) (u v : List ℕ) (x' x'' : List ℕ) → x' ≡ sets x i u → j ≡ i + length u → x'' ≡ sets x' j v → x'' ≡ sets x i (u ++ v)
          after x i j u v x' x'' a h c = c ∙ ap (λ (y : List ℕ). sets y j v) a ∙ sets_more x i j u v h

          pub write_more : (w'' b'' m'' g'' end : List ℕ) → WrittenIs exit next (left - 1) past (held_at w' b' m' g') (held_at w'' b'' m'' g'') end
              → WrittenIs scr lay left at (held_at w b m g) (held_at w'' b'' m'' g'') end
          unfolding area_words area_bytes area_middle area_large joined
          write_more w'' b'' m'' g'' end r =
              let a : held_at w'' b'' m'' g'' ≡ put past rest (held_at w' b' m' g') = r.areas ∙ ap (λ t. put past t (held_at w' b' m' g')) same_rest in
              record {
                areas =
                    held_ext (held_at w'' b'' m'' g'') (put at (tower left l) (held_at w b m g))
                    (after w at.words past.words (words_of l) (area_words rest) w' w'' copied (omega (arith, past_words, length_words l, size)) (ap (λ (x : Held). x.words) a)
                    ∙ ap (λ t. sets w at.words (area_words t)) (sym tower_is))
                    (after b at.dict.bytes past.dict.bytes (dict_of (flags l)).bytes (area_bytes rest) b' b'' bytes_put (omega (arith, past_bytes, dict_bytes)) (ap (λ (x : Held). x.bytes) a)
                    ∙ ap (λ t. sets b at.dict.bytes (area_bytes t)) (sym tower_is))
                    (after m (2 * at.dict.middles) (2 * past.dict.middles) (dict_of (flags l)).middle (area_middle rest) m' m'' middle_put (omega (arith, past_middles, dict_middle)) (ap (λ (x : Held). x.middle) a)
                    ∙ ap (λ t. sets m (2 * at.dict.middles) (area_middle t)) (sym tower_is))
                    (after g (2 * at.dict.larges) (2 * past.dict.larges) (dict_of (flags l)).large (area_large rest) g' g'' large_put (omega (arith, past_larges, dict_large)) (ap (λ (x : Held). x.large) a)
                    ∙ ap (λ t. sets g (2 * at.dict.larges) (area_large t)) (sym tower_is));
                zeros = r.zeros ∙ ap (λ k. replicate k 0) stands.2;
              }
