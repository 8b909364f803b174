-- The ways out of `place_longer`.
use mathlib.Core.Path.{◌≡◌, refl, sym, ap, ap₂, ◌∙◌}
use mathlib.Core.Bool.{Bool, true, false, not}
use mathlib.Core.Option.{Option, none, some}
use mathlib.Core.List.{List, [], ◌∷◌, ◌++◌}
use Prim.Native.Nat.{ℕ, zero, suc, ◌+◌, ◌*◌, ◌-◌, ◌≤◌, ◌<◌}
use native.Mathlib.Decide.{dec_lt}
use native.Mathlib.Omega.{arith}
use lib.Dec.{leb}
use lib.ListN.{length, get_or, set, take, drop, replicate, length-append, length-drop, length-replicate, get_or-append, get_or-eq_default}
use lib.Seq.{get_or-append-add}
use borrow.Author.Tests.{le-leb, lt-leb, leb-true, eqb-true}
use Rattle.meaning.specs.Answers.{Refusal}
use Rattle.meaning.specs.Bits.{bit_at, bits_of, pack, word_count}
use Rattle.meaning.specs.List.{greatest, offending, most}
use Rattle.meaning.specs.Refusals.{refuse, check, level_rule, first_of}
use Rattle.meaning.specs.Growth.{OneRoot, root_opens, levels_of, grown, sound_in}
use Rattle.meaning.proofs.If.{not_true, both, if_none, if_some}
use Rattle.meaning.proofs.Stored.{length_bits, bits_at}
use Rattle.meaning.proofs.Pack.{pack_same}
use Rattle.meaning.proofs.OneRoot.{one_root_test, one_root_held}
use Rattle.meaning.proofs.Offending.{offending_none, offending_snoc}
use Rattle.meaning.proofs.FromString.{count_of, most_last, may_come, grown_is}
use Rattle.meaning.proofs.Count.{in_length}
use Rattle.meaning.proofs.Runs.{take_zeros}
use Rattle.pioneers.specs.Placed.{placing, holding, list_checks}
use Rattle.pioneers.proofs.Parts.{part_is, part_new}
use Rattle.refusal.specs.Said.{refusal_of}
use Rattle.refusal.specs.declared.Refusal.TheVariants.{Many, Level, Room, Broken}
use Rattle.longer.specs.Longer.{longer_checks, longer_in, LastOne, Turning}

-- the string is sound
pub record Sound (ws : List ℕ) (n m : ℕ) : Type 0 where
  pub held : m ≤ 64 * length ws
  pub count : m ≡ 2 * n + 2
  pub root : OneRoot (bits_of ws m)

pub sound_is : (ws : List ℕ) (n m : ℕ) (r : Bool) → r ≡ sound_in ws n m → r ≡ true → Sound ws n m
unfolding sound_in
sound_is ws n m r q e =
    let a = both _ _ (sym q ∙ e) in
    let b = both _ _ a.0 in
    record {
      held = omega (arith, leb-true (word_count m) (length ws) b.0);
      count = eqb-true m (2 * n + 2) b.1;
      root = (one_root_test (bits_of ws m)).0 a.1;
    }

first_opens : (l : List Bool) → OneRoot l → get_or l 0 false ≡ true
first_opens l (root_opens r) = refl

-- the last one tells the highest level that may come
module _ (ws : List ℕ) (n m p : ℕ) (s : Sound ws n m) (t : LastOne ws m p) where
  pub high : p + most (levels_of (bits_of ws m)) + 2 ≡ m
  high = most_last (bits_of ws m) s.root p (bits_at ws m p inside ∙ t.one 0 here first) (λ j e. t.last j (below j e) (sym (bits_at ws m j (below j e)) ∙ e)) ∙ length_bits ws m
    where
      here : 0 < m
      here = omega (arith, s.count)

      first : bit_at ws 0 ≡ true
      first = sym (bits_at ws m 0 here) ∙ first_opens (bits_of ws m) s.root

      inside : p < m
      inside = t.inside 0 here first

      below : (j : ℕ) → get_or (bits_of ws m) j false ≡ true → j < m
      below j e = omega (arith, in_length (bits_of ws m) j e, length_bits ws m)

not_not : (b : Bool) → not b ≡ false → b ≡ true
not_not true e = refl
not_not false e = sym e

-- past the test
module _ (ws : List ℕ) (n m : ℕ) (r : Bool) (q : r ≡ sound_in ws n m) (u : not r ≡ false) where
  past_test : Sound ws n m
  past_test = sound_is ws n m r q (not_not r u)

  pub bits_are : m ≡ 2 * n + 2
  bits_are = past_test.count

  module _ (p : ℕ) (l : LastOne ws m p) where
    pub last_in : p ≤ m - 2
    last_in = omega (arith, high ws n m p past_test l)

    pub longer_ready : (z : List ℕ) (v : ℕ) → v ≤ m - 2 - p → 2 * n + 4 ≤ length z → Turning ws (take (length z - (n + 2)) (drop (n + 2) z)) m v
    longer_ready z v low room =
        record {
          copying = record { held = past_test.held; room = omega (arith, ap length (part_is z (n + 2)) ∙ length-drop (n + 2) z, past_test.count) };
          inside = omega (arith, high ws n m p past_test l);
        }

-- closes at the end of a string add no word that is not zero
two_closes : (k : ℕ) (l : List Bool) → pack k l ≡ pack k (l ++ false ∷ false ∷ [])
two_closes k l = pack_same k l (l ++ false ∷ false ∷ []) (λ j h. go j (dec_lt j (length l)))
  where
    ends : (i : ℕ) → get_or (false ∷ false ∷ []) i false ≡ false
    ends zero = refl
    ends (suc zero) = refl
    ends (suc (suc i)) = refl

    go : (j : ℕ) → Dec (j < length l) → get_or l j false ≡ get_or (l ++ false ∷ false ∷ []) j false
    go j (yes h) = sym (get_or-append l (false ∷ false ∷ []) false j h)
    go j (no h) =
        let e : length l + (j - length l) ≡ j = omega arith in
        get_or-eq_default l false {n = j} (omega arith)
        ∙ sym (ap (λ (x : ℕ). get_or (l ++ false ∷ false ∷ []) x false) (sym e) ∙ get_or-append-add l (false ∷ false ∷ []) (j - length l) false ∙ ends (j - length l))

module _ (ws z : List ℕ) (n m v k : ℕ) (w : z ≡ replicate k 0) (r : Bool) (q : r ≡ sound_in ws n m) where
  abbrev longest : List ℕ
  longest = levels_of (bits_of ws m) ++ v ∷ []

  -- the refusal by what each check says
  after : Bool → Bool → Option ℕ → Bool → Option Refusal
  after a b o c =
      first_of (check a 9 (0 ∷ []) ∷ check b 2 (length longest ∷ []) ∷ level_rule o ∷ check c 4 (5 ∷ []) ∷ [])

  refused : (o : Refusal) → first_of (longer_checks ws n m v k) ≡ some o → placing (some o) z ≡ longer_in ws n m v k
  unfolding longer_in
  refused o e = ap (placing (some o)) w ∙ sym (if_some _ _ o e)

  pub longer_broken : not r ≡ true → placing (some (refusal_of Broken)) z ≡ longer_in ws n m v k
  unfolding longer_checks list_checks first_of check after
  longer_broken e =
      refused _ (ap (λ a. after a (leb (length longest) greatest) (offending longest) (leb (2 * length longest + 2) k)) (sym q ∙ not_true r e))

  module _ (u : not r ≡ false) where
    t : r ≡ true
    t = not_not r u

    s : Sound ws n m
    s = past_test ws n m r q u

    count : length (levels_of (bits_of ws m)) ≡ n
    count = omega (arith, count_of (bits_of ws m) s.root, length_bits ws m, s.count)

    long : length longest ≡ n + 1
    long = length-append (levels_of (bits_of ws m)) (v ∷ []) ∙ ap (λ (x : ℕ). x + 1) count

    size : length z ≡ k
    size = ap length w ∙ length-replicate k 0

    pub longer_many : greatest ≤ n → placing (some (refusal_of (Many (n + 1)))) z ≡ longer_in ws n m v k
    unfolding longer_checks list_checks first_of check after
    longer_many h =
        ap (λ x. placing (refuse 2 (x ∷ [])) z) (sym long)
        ∙ refused _
        (ap₂ (λ a b. after a b (offending longest) (leb (2 * length longest + 2) k)) (sym q ∙ t)
        (lt-leb (length longest) greatest (omega (arith, long))))

    module _ (few : n < greatest) (p : ℕ) (l : LastOne ws m p) where
      counted : leb (length longest) greatest ≡ true
      counted = le-leb (length longest) greatest (omega (arith, long))

      top : p + most (levels_of (bits_of ws m)) + 2 ≡ m
      top = high ws n m p s l

      pub longer_level : m - 2 - p < v → placing (some (refusal_of (Level n))) z ≡ longer_in ws n m v k
      unfolding longer_checks list_checks first_of check level_rule after
      longer_level h =
          refused _
          (ap₂ (λ a b. after a b (offending longest) (leb (2 * length longest + 2) k)) (sym q ∙ t) counted
          ∙ ap (λ o. after true true o (leb (2 * length longest + 2) k))
          (offending_snoc (levels_of (bits_of ws m)) v (one_root_held (bits_of ws m) s.root).0 (omega (arith, top)) ∙ ap some count))

      module _ (low : v ≤ m - 2 - p) where
        allowed : offending longest ≡ none
        allowed = (offending_none longest).1 (may_come (bits_of ws m) s.root v (omega (arith, top)))

        pub longer_room : length z < 2 * n + 4 → placing (some (refusal_of (Room 5))) z ≡ longer_in ws n m v k
        unfolding longer_checks list_checks first_of check level_rule after
        longer_room h =
            refused _
            (ap₂ (λ a b. after a b (offending longest) (leb (2 * length longest + 2) k)) (sym q ∙ t) counted
            ∙ ap₂ (after true true) allowed (lt-leb (2 * length longest + 2) k (omega (arith, long, size))))

        module _ (room : 2 * n + 4 ≤ length z) where
          none_refuses : first_of (longer_checks ws n m v k) ≡ none
          unfolding longer_checks list_checks first_of check level_rule after
          none_refuses =
              ap₂ (λ a b. after a b (offending longest) (leb (2 * length longest + 2) k)) (sym q ∙ t) counted
              ∙ ap₂ (after true true) allowed (le-leb (2 * length longest + 2) k (omega (arith, long, size)))

          part_length : length (take (length z - (n + 2)) (drop (n + 2) z)) ≡ k - (n + 2)
          part_length = ap length (part_is z (n + 2)) ∙ length-drop (n + 2) z ∙ ap (λ (x : ℕ). x - (n + 2)) size

          pub longer_made : (part : List ℕ) → part ≡ pack (length (take (length z - (n + 2)) (drop (n + 2) z))) (set (bits_of ws m) (m - 1 - v) true)
              → placing none (take (n + 2) z ++ (part ++ drop (length z - (n + 2)) (drop (n + 2) z))) ≡ longer_in ws n m v k
          unfolding longer_in holding
          longer_made part g =
              ap (placing none)
              (part_new z part (n + 2)
              ∙ ap₂ (λ (x y : List ℕ). x ++ y) (ap (take (n + 2)) w ∙ take_zeros (n + 2) k (omega (arith, size)))
              (g ∙ ap (λ (x : ℕ). pack x (set (bits_of ws m) (m - 1 - v) true)) part_length ∙ two_closes (k - (n + 2)) (set (bits_of ws m) (m - 1 - v) true) ∙ ap (pack (k - (n + 2))) is_grown))
              ∙ sym (if_none _ _ none_refuses)
            where
              is_grown : set (bits_of ws m) (m - 1 - v) true ++ false ∷ false ∷ [] ≡ grown (bits_of ws m) v
              is_grown =
                  ap (λ (x : ℕ). set (bits_of ws m) (x - 1 - v) true ++ false ∷ false ∷ []) (sym (length_bits ws m))
                  ∙ sym (grown_is (bits_of ws m) s.root v (omega (arith, top)))
