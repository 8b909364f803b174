-- THE END of a dictionary built directly: when it is accepted, that its numbers fit u8, u16 and u64, and that its questions find what they mean.
use mathlib.Core.Path.{◌≡◌, refl, sym, ap, ◌∙◌, subst}
use mathlib.Core.Bool.{Bool, true}
use mathlib.Core.Option.{Option, none, some}
use mathlib.Core.Logic.{◌↔◌}
use mathlib.Core.List.{List, [], ◌∷◌}
use Prim.Native.Nat.{ℕ, suc, ◌+◌, ◌*◌, ◌-◌, ◌/◌, ◌^◌, ◌≤◌, ◌<◌}
use native.Mathlib.Omega.{arith}
use lib.Dec.{leb}
use lib.ListN.{length, take, replicate, length-append}
use lib.Seq.{take_at}
use borrow.Author.Tests.{le-leb, lt-leb, leb-true}
use Rattle.meaning.specs.Answers.{Refusal, Answer, is, refused, or_broken}
use Rattle.meaning.specs.Bits.{opens, bits_of}
use Rattle.meaning.specs.Dictionary.{Dict, rank_of, select_of, pred_of, succ_of, dict_of, dict_with, block_count, middle_pos, middle_rank, large_pos, large_rank}
use Rattle.meaning.specs.Nearest.{IsSelect, IsPred, IsSucc}
use Rattle.meaning.specs.Areas.{filled}
use Rattle.meaning.specs.Refusals.{refuse, check, LowestFull, full_block, full_at, first_of}
use Rattle.meaning.specs.Direct.{DictRooms, Entries, dict_zeroed, dict_refusal, entries_of, dict_written, dict_build, dict_in, entries_fit, if_fit, most_bits, dict_rank, dict_select, dict_pred, dict_succ, DictAccepted}
use Rattle.meaning.proofs.If.{if_true, if_none, if_some, and_true}
use Rattle.meaning.proofs.Tab.{opens_closes}
use Rattle.meaning.proofs.Stored.{length_bits}
use Rattle.meaning.proofs.Rank.{length_pair_up, rank_of_lem}
use Rattle.meaning.proofs.Nearest.{select_is, pred_is, succ_is}
use Rattle.meaning.proofs.Narrow.{no_full, Narrow, narrow}
use Rattle.meaning.proofs.View.{length_filled}
use Rattle.meaning.proofs.Full.{full_exactly}
use Rattle.meaning.proofs.Accepted.{check_none, check_true, check_false, first_none, done, and, all_none}

pub full_none : (v : ℕ) (o : Option ℕ) → full_at v o none ≡ none → o ≡ none
unfolding full_at
full_none v none e = refl
full_none v (some b) e = absurd (let z : ◌≡◌ {A = ℕ} 0 1 = cc in omega arith)

module _ (ws : List ℕ) (n : ℕ) (rooms : DictRooms) where
  to : dict_refusal ws n rooms ≡ none → DictAccepted ws n rooms
  unfolding dict_refusal
  to e =
      let a = first_none _ _ e in
      let b = first_none _ _ a.1 in
      let c = first_none _ _ b.1 in
      let d = first_none _ _ c.1 in
      let f = first_none _ _ d.1 in
      let g = first_none _ _ f.1 in
      record {
        inside = leb-true _ _ (check_none _ _ _ a.0);
        few = leb-true _ _ (check_none _ _ _ b.0);
        narrow = full_none 0 _ c.0;
        bytes = leb-true _ _ (check_none _ _ _ d.0);
        middle = leb-true _ _ (check_none _ _ _ f.0);
        large = leb-true _ _ (check_none _ _ _ g.0);
      }

  from : DictAccepted ws n rooms → dict_refusal ws n rooms ≡ none
  unfolding dict_refusal full_at
  from a =
      all_none
      (and (check_true _ _ (le-leb _ _ a.inside))
      (and (check_true _ _ (le-leb _ _ a.few))
      (and (ap (λ o. full_at 0 o none) a.narrow)
      (and (check_true _ _ (le-leb _ _ a.bytes))
      (and (check_true _ _ (le-leb _ _ a.middle))
      (and (check_true _ _ (le-leb _ _ a.large))
      done))))))

  pub dict_exactly : (dict_refusal ws n rooms ≡ none) ↔ DictAccepted ws n rooms
  dict_exactly = (to, from)

  module _ (a : DictAccepted ws n rooms) where
    abbrev l : List Bool
    l = bits_of ws n

    abbrev d : Dict
    d = dict_of l

    pub dict_built : dict_build ws n rooms ≡ record { reply = is (entries_of (dict_of (bits_of ws n))); areas = dict_written rooms (dict_of (bits_of ws n)) }
    unfolding dict_build
    dict_built = if_none _ _ (from a)

    -- its numbers fit
    pub dict_narrow : Narrow (dict_of (bits_of ws n))
    dict_narrow =
        narrow l (no_full l (ap (λ k. full_block (k / 256 + 1) 0 l) (length_bits ws n) ∙ a.narrow)) (omega (arith, length_bits ws n, a.few))

    even_middle : length d.middle ≡ 2 * (length d.middle / 2)
    unfolding dict_of dict_with
    even_middle = omega (arith, length_pair_up (middle_pos l) (middle_rank l) 0 ((block_count l + 7) / 8))

    even_large : length d.large ≡ 2 * (length d.large / 2)
    unfolding dict_of dict_with
    even_large = omega (arith, length_pair_up (large_pos l) (large_rank l) 0 ((block_count l + 255) / 256))

    abbrev E : Entries
    E = entries_of d

    abbrev A : Dict
    A = dict_written rooms d

    -- read back it is the dictionary of the string
    read_back : dict_in E A ≡ d
    unfolding dict_in entries_of dict_written filled
    read_back = λ i.
        record {
          bytes = take_at d.bytes (replicate (rooms.bytes - length d.bytes) 0) (length d.bytes) refl i;
          middle = take_at d.middle (replicate (rooms.middle - length d.middle) 0) (2 * (length d.middle / 2)) even_middle i;
          large = take_at d.large (replicate (rooms.large - length d.large) 0) (2 * (length d.large / 2)) even_large i;
        }

    -- zeros behind do not shorten it
    longer : (k : ℕ) (s : List ℕ) → length s ≤ length (filled k s)
    unfolding filled
    longer k s = omega (arith, length-append s (replicate (k - length s) 0))

    fit : entries_fit E A ≡ true
    unfolding entries_fit entries_of dict_written
    fit = and_true (and_true (le-leb _ _ (longer rooms.bytes d.bytes)) (le-leb _ _ middle)) (le-leb _ _ large)
      where
        middle : 2 * (length d.middle / 2) ≤ length (filled rooms.middle d.middle)
        middle = omega (arith, longer rooms.middle d.middle)

        large : 2 * (length d.large / 2) ≤ length (filled rooms.large d.large)
        large = omega (arith, longer rooms.large d.large)

    short : length l < 2 ^ 64
    short = omega (arith, length_bits ws n, a.few)

    fits : (f : Answer ℕ) → if_fit E A f ≡ f
    unfolding if_fit
    fits f = if_true _ _ fit

    pub direct_rank : (x : ℕ) → dict_rank E A x ≡ is (opens (take (suc x) (bits_of ws n)))
    unfolding dict_rank or_broken
    direct_rank x =
        fits (or_broken (rank_of (dict_in E A) x))
        ∙ ap or_broken (ap (λ d. rank_of d x) read_back ∙ rank_of_lem l x (omega (arith, opens_closes l, short)))

    pub direct_select : (r : ℕ) → IsSelect (bits_of ws n) r (dict_select E A r)
    unfolding dict_select
    direct_select r = subst (IsSelect l r) (sym (fits (select_of (dict_in E A) r) ∙ ap (λ d. select_of d r) read_back)) (select_is l short r)

    pub direct_pred : (x : ℕ) → IsPred (bits_of ws n) x (dict_pred E A x)
    unfolding dict_pred
    direct_pred x = subst (IsPred l x) (sym (fits (pred_of (dict_in E A) x) ∙ ap (λ d. pred_of d x) read_back)) (pred_is l short x)

    pub direct_succ : (x : ℕ) → IsSucc (bits_of ws n) x (dict_succ E A x)
    unfolding dict_succ
    direct_succ x =
        subst (IsSucc l x) (sym (fits (succ_of (dict_in E A) x) ∙ ap (λ d. succ_of d x) read_back))
        (succ_is l short (omega (arith, length_bits ws n, a.few)) x)

    -- the areas keep their lengths
    pub direct_rooms : (length (dict_written rooms (dict_of (bits_of ws n))).bytes ≡ rooms.bytes)
        × (length (dict_written rooms (dict_of (bits_of ws n))).middle ≡ rooms.middle)
        × (length (dict_written rooms (dict_of (bits_of ws n))).large ≡ rooms.large)
    unfolding dict_written
    direct_rooms =
        (length_filled rooms.bytes d.bytes a.bytes, length_filled rooms.middle d.middle a.middle, length_filled rooms.large d.large a.large)

  -- each refusal, in the order of the checks
  pub direct_broken : 64 * length ws < n → dict_refusal ws n rooms ≡ refuse 9 (0 ∷ [])
  unfolding dict_refusal first_of
  direct_broken h = rw (check_false 9 (0 ∷ []) (lt-leb n (64 * length ws) h))

  module _ (h : n ≤ 64 * length ws) where
    inside : check (leb n (64 * length ws)) 9 (0 ∷ []) ≡ none
    inside = check_true 9 (0 ∷ []) (le-leb n (64 * length ws) h)

    pub direct_many : most_bits < n → dict_refusal ws n rooms ≡ refuse 2 (n ∷ [])
    unfolding dict_refusal first_of
    direct_many k = rw (inside, check_false 2 (n ∷ []) (lt-leb n most_bits k))

    module _ (k : n ≤ most_bits) where
      few : check (leb n most_bits) 2 (n ∷ []) ≡ none
      few = check_true 2 (n ∷ []) (le-leb n most_bits k)

      -- FULL: the lowest block of 256 ones
      pub direct_full : (b : ℕ) → LowestFull (bits_of ws n) b → dict_refusal ws n rooms ≡ refuse 5 (0 ∷ b ∷ [])
      unfolding dict_refusal full_at first_of
      direct_full b full =
          let e : full_block (n / 256 + 1) 0 (bits_of ws n) ≡ some b =
          ap (λ m. full_block (m / 256 + 1) 0 (bits_of ws n)) (sym (length_bits ws n)) ∙ (full_exactly (bits_of ws n) b).1 full in
          rw (inside, few, e)

      -- ROOM
      module _ (e : full_block (n / 256 + 1) 0 (bits_of ws n) ≡ none) where
        abbrev D : Dict
        D = dict_of (bits_of ws n)

        pub direct_room_1 : rooms.bytes < length (dict_of (bits_of ws n)).bytes → dict_refusal ws n rooms ≡ refuse 4 (1 ∷ [])
        unfolding dict_refusal full_at first_of
        direct_room_1 p = rw (inside, few, e, check_false 4 (1 ∷ []) (lt-leb (length D.bytes) rooms.bytes p))

        pub direct_room_2 : length (dict_of (bits_of ws n)).bytes ≤ rooms.bytes → rooms.middle < length (dict_of (bits_of ws n)).middle
            → dict_refusal ws n rooms ≡ refuse 4 (2 ∷ [])
        unfolding dict_refusal full_at first_of
        direct_room_2 p q =
            rw (
              inside,
              few,
              e,
              check_true 4 (1 ∷ []) (le-leb (length D.bytes) rooms.bytes p),
              check_false 4 (2 ∷ []) (lt-leb (length D.middle) rooms.middle q),
            )

        pub direct_room_3 : length (dict_of (bits_of ws n)).bytes ≤ rooms.bytes → length (dict_of (bits_of ws n)).middle ≤ rooms.middle
            → rooms.large < length (dict_of (bits_of ws n)).large
            → dict_refusal ws n rooms ≡ refuse 4 (3 ∷ [])
        unfolding dict_refusal full_at first_of
        direct_room_3 p q r =
            rw (
              inside,
              few,
              e,
              check_true 4 (1 ∷ []) (le-leb (length D.bytes) rooms.bytes p),
              check_true 4 (2 ∷ []) (le-leb (length D.middle) rooms.middle q),
              check_false 4 (3 ∷ []) (lt-leb (length D.large) rooms.large r),
            )

  -- refused, its areas are zero
  pub direct_refused : (r : Refusal) → dict_refusal ws n rooms ≡ some r → dict_build ws n rooms ≡ record { reply = refused r; areas = dict_zeroed rooms }
  unfolding dict_build
  direct_refused r e = if_some _ _ r e
