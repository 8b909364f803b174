-- Select by the dictionary's steps is the place of the r-th one.
use mathlib.Core.Path.{◌≡◌, refl, sym, ap, ◌∙◌}
use mathlib.Core.Bool.{Bool, true, false}
use mathlib.Core.List.{List, [], ◌∷◌, ◌++◌}
use Prim.Native.Nat.{ℕ, zero, suc, pred, ◌+◌, ◌*◌, ◌-◌, ◌/◌, ◌^◌, ◌≤◌, ◌<◌, min}
use native.Mathlib.Decide.{dec_le}
use native.Mathlib.Nat.{add-zero, not-suc-le-zero, le_of_suc-le-suc}
use native.Mathlib.Omega.{arith}
use lib.Dec.{ltb}
use lib.ListN.{length, get_or, take, drop, length-take, length-drop}
use lib.Seq.{get_or-take, get_or-drop, drop-drop}
use borrow.Author.Tests.{le-leb, lt-leb, lt-ltb, ltb-true}
use Rattle.meaning.specs.Answers.{Answer, is, nothing, refused}
use Rattle.meaning.specs.Bits.{opens, places}
use Rattle.meaning.specs.Plain.{item}
use Rattle.meaning.specs.Dictionary.{Dict, end_of, block, bytes_of, ones_to, pair_up, dict_of, dict_with, large_pos, large_rank, middle_pos, middle_rank, block_count, nth, plus, select_walk, before, is_empty, placed, select_of, select_start, select_from, start_large, start_middle}
use Rattle.meaning.proofs.If.{if_true, if_false}
use Rattle.meaning.proofs.Plain.{place_at}
use Rattle.meaning.proofs.Rank.{length_places, past_end, even_entry, ones_le, sum_rank, length_pair_up, start_at_lem, not_empty}

place_in : (r : ℕ) (s t : List ℕ) → r < length s → item r (s ++ t) ≡ nth r (s ++ t)
unfolding item nth
place_in r [] t h = absurd (not-suc-le-zero h)
place_in zero (x ∷ s) t h = refl
place_in (suc r) (x ∷ s) t h = place_in r s t (le_of_suc-le-suc h)

nth_left : (r : ℕ) (s t u : List ℕ) → r < length s → nth r (s ++ t) ≡ nth r (s ++ u)
unfolding nth
nth_left r [] t u h = absurd (not-suc-le-zero h)
nth_left zero (x ∷ s) t u h = refl
nth_left (suc r) (x ∷ s) t u h = nth_left r s t u (le_of_suc-le-suc h)

place_past : (r : ℕ) (s t : List ℕ) → length s ≤ r → item r (s ++ t) ≡ item (r - length s) t
unfolding item
place_past r [] t h = let u : r ≡ r - 0 = omega arith in ap (λ k. item k t) u
place_past zero (x ∷ s) t h = absurd (not-suc-le-zero h)
place_past (suc r) (x ∷ s) t h =
    let u : r - length s ≡ suc r - suc (length s) = omega arith in
    place_past r s t (le_of_suc-le-suc h) ∙ ap (λ k. item k t) u

-- places counted from i + k
place_shift : (x i k r : ℕ) (l : List Bool) → plus x (item r (places (i + k) l)) ≡ plus (x + k) (item r (places i l))
unfolding item places plus
place_shift x i k r [] = refl
place_shift x i k zero (true ∷ l) = ap is (omega arith)
place_shift x i k (suc r) (true ∷ l) = let u : suc (i + k) ≡ suc i + k = omega arith in ap (λ j. plus x (item r (places j l))) u ∙ place_shift x (suc i) k r l
place_shift x i k r (false ∷ l) = let u : suc (i + k) ≡ suc i + k = omega arith in ap (λ j. plus x (item r (places j l))) u ∙ place_shift x (suc i) k r l

places_append : (i : ℕ) (s t : List Bool) → places i (s ++ t) ≡ places i s ++ places (i + length s) t
unfolding places
places_append i [] t = ap (λ k. places k t) (sym (add-zero i))
places_append i (true ∷ s) t = let u : suc i + length s ≡ i + suc (length s) = omega arith in ap (λ r. i ∷ r) (places_append (suc i) s t ∙ ap (λ k. places (suc i) s ++ places k t) u)
places_append i (false ∷ s) t = let u : suc i + length s ≡ i + suc (length s) = omega arith in places_append (suc i) s t ∙ ap (λ k. places (suc i) s ++ places k t) u

skip_bytes : (s x r : ℕ) (a b : List ℕ) → length a ≡ s → select_walk s x r (a ++ b) ≡ select_walk 0 x r b
unfolding select_walk
skip_bytes zero x r [] b e = refl
skip_bytes zero x r (y ∷ a) b e = absurd (omega arith)
skip_bytes (suc s) x r [] b e = absurd (omega arith)
skip_bytes (suc s) x r (y ∷ a) b e = skip_bytes s x r a b (omega arith)

no_places : (i : ℕ) (l : List Bool) → opens l ≡ 0 → places i l ≡ []
unfolding places opens
no_places i [] e = refl
no_places i (true ∷ l) e = absurd (omega arith)
no_places i (false ∷ l) e = no_places (suc i) l e

nothing_left : (x r : ℕ) → select_walk 0 x (suc r) [] ≡ plus x (item r [])
unfolding select_walk plus item
nothing_left x r = refl

places_split : (n i : ℕ) (l : List Bool) → places i l ≡ places i (take n l) ++ places (i + n) (drop n l)
unfolding places
places_split zero i l = ap (λ k. places k l) (sym (add-zero i))
places_split (suc n) i [] = refl
places_split (suc n) i (true ∷ l) = let u : suc i + n ≡ i + suc n = omega arith in ap (λ r. i ∷ r) (places_split n (suc i) l ∙ ap (λ k. places (suc i) (take n l) ++ places k (drop n l)) u)
places_split (suc n) i (false ∷ l) = let u : suc i + n ≡ i + suc n = omega arith in places_split n (suc i) l ∙ ap (λ k. places (suc i) (take n l) ++ places k (drop n l)) u

-- the first block's part of the walk
in_block : (x r : ℕ) (o b t : List ℕ) → r < length o → select_walk 0 x (suc r) (length o ∷ (o ++ b)) ≡ plus x (item r (o ++ t))
unfolding select_walk
in_block x r o b t h = rw (le-leb (suc r) (length o) h, select_walk) (ap (plus x) (nth_left r o b t h ∙ sym (place_in r o t h)))

past_block : (x r : ℕ) (o b : List ℕ) → length o ≤ r → select_walk 0 x (suc r) (length o ∷ (o ++ b)) ≡ select_walk 0 (x + 256) (suc (r - length o)) b
unfolding select_walk
past_block x r o b h =
    let u : suc r - length o ≡ suc (r - length o) = omega arith in
    rw (lt-leb (suc r) (length o) (omega arith), select_walk)
    (skip_bytes (length o) (x + 256) (suc r - length o) o b refl ∙ ap (λ k. select_walk 0 (x + 256) k b) u)

pub walk_select : (n x r : ℕ) (l : List Bool) → opens (drop (256 * n) l) ≡ 0 → select_walk 0 x (suc r) (bytes_of n l) ≡ plus x (item r (places 0 l))
unfolding bytes_of block
walk_select zero x r l z = empty ∙ sym (ap (λ s. plus x (item r s)) (no_places 0 l z))
  where
    empty : select_walk 0 x (suc r) [] ≡ plus x (item r [])
    empty = nothing_left x r
walk_select (suc n) x r l z = go (dec_le (suc r) (length (places 0 (take 256 l)))) (walk_select n (x + 256) (r - length (places 0 (take 256 l))) (drop 256 l) z')
  where
    o : List ℕ
    o = places 0 (take 256 l)

    z' : opens (drop (256 * n) (drop 256 l)) ≡ 0
    z' = let u : 256 + 256 * n ≡ 256 * suc n = omega arith in ap opens (drop-drop (256 * n) 256 l) ∙ ap (λ k. opens (drop k l)) u ∙ z

    go : Dec (suc r ≤ length o) → select_walk 0 (x + 256) (suc (r - length o)) (bytes_of n (drop 256 l)) ≡ plus (x + 256) (item (r - length o) (places 0 (drop 256 l)))
        → select_walk 0 x (suc r) (length o ∷ (o ++ bytes_of n (drop 256 l))) ≡ plus x (item r (places 0 l))
    go (yes h) ih =
        in_block x r o (bytes_of n (drop 256 l)) (places (0 + 256) (drop 256 l)) h
        ∙ sym (ap (λ s. plus x (item r s)) (places_split 256 0 l))
    go (no h) ih =
        past_block x r o (bytes_of n (drop 256 l)) (omega arith)
        ∙ ih
        ∙ sym (place_shift x 0 256 (r - length o) (drop 256 l))
        ∙ ap (plus x) (sym (place_past r o (places (0 + 256) (drop 256 l)) (omega arith)))
        ∙ sym (ap (λ s. plus x (item r s)) (places_split 256 0 l))

-- `before` counts leading entries; the last that it counts has a rank below r
before_holds : (b r k : ℕ) (es : List ℕ) → before b r es ≡ suc k → (b + get_or es (2 * k + 1) 0 < r) × (2 * k + 1 < length es)
unfolding before
before_holds b r k [] e = absurd (omega arith)
before_holds b r k (p ∷ []) e = absurd (omega arith)
before_holds b r k (p ∷ x ∷ es) e = go k (ltb (b + x) r) refl e (λ k e. before_holds b r k es e)
  where
    go : (k : ℕ) (t : Bool) → ltb (b + x) r ≡ t → ◌≡◌ {A = ℕ} (elim t [ true ↦ suc (before b r es) | false ↦ 0 ]) (suc k)
        → ((k : ℕ) → before b r es ≡ suc k → (b + get_or es (2 * k + 1) 0 < r) × (2 * k + 1 < length es))
        → (b + get_or (p ∷ x ∷ es) (2 * k + 1) 0 < r) × (2 * k + 1 < length (p ∷ x ∷ es))
    go k false q e ih = absurd (omega arith)
    go zero true q e ih = (ltb-true (b + x) r q, omega arith)
    go (suc k) true q e ih =
        let u : 2 * suc k + 1 ≡ suc (suc (2 * k + 1)) = omega arith in
        let v : get_or (p ∷ x ∷ es) (2 * suc k + 1) 0 ≡ get_or es (2 * k + 1) 0 = ap (λ j. get_or (p ∷ x ∷ es) j 0) u in
        let w = ih k (omega arith) in
        (omega (arith, w), omega (arith, w))

plus_zero : (f : Answer ℕ) → plus 0 f ≡ f
unfolding plus
plus_zero (is i) = ap is (omega arith)
plus_zero nothing = refl
plus_zero (refused e) = refl

-- from item N on
from_place : (l : List Bool) (N X r : ℕ) → X ≡ 0 + N → opens (take N l) ≤ r → plus X (item (r - opens (take N l)) (places 0 (drop N l))) ≡ item r (places 0 l)
from_place l N X r x h =
    ap (λ k. plus k (item (r - opens (take N l)) (places 0 (drop N l)))) x
    ∙ sym (place_shift 0 0 N (r - opens (take N l)) (drop N l))
    ∙ plus_zero (item (r - opens (take N l)) (places (0 + N) (drop N l)))
    ∙ ap (λ k. item (r - k) (places (0 + N) (drop N l))) (sym (length_places 0 (take N l)))
    ∙ sym (place_past r (places 0 (take N l)) (places (0 + N) (drop N l)) (omega (arith, length_places 0 (take N l))))
    ∙ ap (item r) (sym (places_split N 0 l))

-- a start before the end of the bytes, and no more than r - 1 ones passed
select_start_lem : (x r o : ℕ) (bs : List ℕ) → 0 < length bs → o < r → select_start x r o bs ≡ select_walk 0 x (r - o) bs
unfolding select_start
select_start_lem x r o [] h e = absurd (omega arith)
select_start_lem x r o (n ∷ bs) h e = if_true _ _ (lt-ltb o r e)

bytes_some : (n : ℕ) (l : List Bool) → 0 < n → 0 < length (bytes_of n l)
unfolding bytes_of block
bytes_some zero l h = absurd (omega arith)
bytes_some (suc n) l h = omega arith

-- the rank of a large entry
rank_in_large : (l : List Bool) (n g : ℕ) → g < (n + 255) / 256 → get_or (dict_with l n).large (2 * g + 1) 0 ≡ ones_to l (256 * g)
unfolding dict_with large_rank
rank_in_large l n g h =
    let z : 0 + g ≡ g = omega arith in (even_entry (large_pos l) (large_rank l) 0 ((n + 255) / 256) g h).1 ∙ ap (large_rank l) z

-- from an entry whose rank is at most r
select_entry : (l : List Bool) (n r g m : ℕ) → end_of l ≤ 256 * n → g ≡ m / 32 → m < (n + 7) / 8 → ones_to l (8 * m) ≤ r
    → select_from (dict_with l n) (suc r) g m ≡ item r (places 0 l)
unfolding select_from ones_to
select_entry l n r g m cover e h k =
    let u : 256 * (8 * m) + 256 * (n - 8 * m) ≡ 256 * n = omega arith in
    let t : suc r - opens (take (256 * (8 * m)) l) ≡ suc (r - opens (take (256 * (8 * m)) l)) = omega arith in
    rw (start_at_lem l n g m e h, select_from)
    (if_true _ _ (lt-ltb (get_or (dict_with l n).large (2 * g + 1) 0) (suc r) (omega (arith, rank_in_large l n g (omega arith), ones_le l (256 * g) (8 * m) (omega arith))))
    ∙ select_start_lem (2048 * m) (suc r) (opens (take (256 * (8 * m)) l)) (bytes_of (n - 8 * m) (drop (256 * (8 * m)) l))
    (bytes_some (n - 8 * m) (drop (256 * (8 * m)) l) (omega arith))
    (omega arith)
    ∙ ap (λ k. select_walk 0 (2048 * m) k (bytes_of (n - 8 * m) (drop (256 * (8 * m)) l))) t
    ∙ walk_select (n - 8 * m) (2048 * m) (r - opens (take (256 * (8 * m)) l)) (drop (256 * (8 * m)) l)
    (ap opens (drop-drop (256 * (n - 8 * m)) (256 * (8 * m)) l) ∙ ap (λ k. opens (drop k l)) u ∙ past_end l (256 * n) cover)
    ∙ from_place l (256 * (8 * m)) (2048 * m) r (omega arith) k)

-- the first entry is counted if its rank does not exceed
before_first : (b r : ℕ) (es : List ℕ) → 2 ≤ length es → b + get_or es 1 0 < r → (k : ℕ) × (before b r es ≡ suc k)
unfolding before
before_first b r [] h e = absurd (omega arith)
before_first b r (p ∷ []) h e = absurd (omega arith)
before_first b r (p ∷ x ∷ es) h e = (before b r es, if_true _ _ (lt-ltb (b + x) r e))

-- an entry that select chooses among es
record Choice (b r : ℕ) (es : List ℕ) (k : ℕ) : Type 0 where
  is : pred (before b (suc r) es) ≡ k
  low : b + get_or es (2 * k + 1) 0 ≤ r
  there : 2 * k + 1 < length es

choice : (b r : ℕ) (es : List ℕ) → 2 ≤ length es → b + get_or es 1 0 ≤ r → (k : ℕ) × Choice b r es k
choice b r es h e = go (before_first b (suc r) es h (omega arith))
  where
    go : (k : ℕ) × (before b (suc r) es ≡ suc k) → (k : ℕ) × Choice b r es k
    go c =
        let w = before_holds b (suc r) c.0 es c.1 in
        (c.0, record { is = ap pred c.1; low = omega (arith, w.0); there = w.1 })

-- select's choice of entries: they are there, their rank does not exceed r, and the large one is the middle one's
module _ (l : List Bool) (n r : ℕ) where
  Ls : List ℕ
  Ls = pair_up (large_pos l) (large_rank l) 0 ((suc n + 255) / 256)

  Ms : List ℕ
  Ms = pair_up (middle_pos l) (middle_rank l) 0 ((suc n + 7) / 8)

  zero_rank : large_rank l 0 ≡ 0
  unfolding large_rank ones_to opens
  zero_rank = refl

  big : (g : ℕ) × Choice 0 r Ls g
  unfolding Ls
  big =
      choice 0 r Ls (omega (arith, length_pair_up (large_pos l) (large_rank l) 0 ((suc n + 255) / 256)))
      (omega (arith, (even_entry (large_pos l) (large_rank l) 0 ((suc n + 255) / 256) 0 (omega arith)).1, zero_rank))

  module _ (g : ℕ) (c : Choice 0 r Ls g) where
    large_rank_lem : get_or Ls (2 * g + 1) 0 ≡ large_rank l g
    unfolding Ls
    large_rank_lem =
        let u : 0 + g ≡ g = omega arith in
        (even_entry (large_pos l) (large_rank l) 0 ((suc n + 255) / 256) g
        (omega (arith, c.there, length_pair_up (large_pos l) (large_rank l) 0 ((suc n + 255) / 256)))).1
        ∙ ap (large_rank l) u

    own : List ℕ
    own = take 64 (drop (64 * g) Ms)

    -- entry k of them is entry 32 * g + k of all
    own_entry : (k : ℕ) → k < 32 → 32 * g + k < (suc n + 7) / 8 → get_or own (2 * k + 1) 0 ≡ middle_rank l (32 * g + k)
    unfolding own Ms
    own_entry k h e =
        let u : 64 * g + (2 * k + 1) ≡ 2 * (32 * g + k) + 1 = omega arith in
        let v : 0 + (32 * g + k) ≡ 32 * g + k = omega arith in
        get_or-take 64 (drop (64 * g) Ms) (2 * k + 1) 0 (omega arith)
        ∙ get_or-drop (64 * g) Ms (2 * k + 1) 0
        ∙ ap (λ i. get_or Ms i 0) u
        ∙ (even_entry (middle_pos l) (middle_rank l) 0 ((suc n + 7) / 8) (32 * g + k) e).1
        ∙ ap (middle_rank l) v

    own_length : length own ≡ min 64 (2 * ((suc n + 7) / 8) - 64 * g)
    unfolding own Ms
    own_length =
        length-take 64 (drop (64 * g) Ms)
        ∙ ap (min 64) (length-drop (64 * g) Ms ∙ ap (λ k. k - 64 * g) (length_pair_up (middle_pos l) (middle_rank l) 0 ((suc n + 7) / 8)))

    g_in : g < (suc n + 255) / 256
    unfolding Ls
    g_in = omega (arith, c.there, length_pair_up (large_pos l) (large_rank l) 0 ((suc n + 255) / 256))

    total : (k : ℕ) → k < 32 → large_rank l g + middle_rank l (32 * g + k) ≡ ones_to l (8 * (32 * g + k))
    total k h = let u : g ≡ (32 * g + k) / 32 = omega arith in ap (λ i. large_rank l i + middle_rank l (32 * g + k)) u ∙ sum_rank l (32 * g + k)

    mid : (k : ℕ) × Choice (large_rank l g) r own k
    unfolding large_rank
    mid =
        let u : 8 * (32 * g + 0) ≡ 256 * g = omega arith in
        choice (large_rank l g) r own (omega (arith, own_length, g_in))
        (omega (arith, own_entry 0 (omega arith) (omega (arith, g_in)), total 0 (omega arith), ap (ones_to l) u, c.low, large_rank_lem))

    chosen : (k : ℕ) → Choice (large_rank l g) r own k → end_of l ≤ 256 * suc n
        → select_from (dict_with l (suc n)) (suc r) g (32 * g + k) ≡ item r (places 0 l)
    chosen k e cover =
        select_entry l (suc n) r g (32 * g + k) cover (omega (arith, e.there, own_length)) (omega (arith, e.there, own_length))
        (omega (
          arith,
          e.low,
          e.there,
          own_length,
          own_entry k (omega (arith, e.there, own_length)) (omega (arith, e.there, own_length)),
          total k (omega (arith, e.there, own_length)),
        ))

    start : (k : ℕ) → Choice (large_rank l g) r own k
        → (start_large (dict_with l (suc n)) (suc r) ≡ g) × (start_middle (dict_with l (suc n)) (suc r) g ≡ 32 * g + k)
    unfolding start_large start_middle dict_with own Ls Ms
    start k e = (c.is, ap (λ b. 32 * g + pred (before b (suc r) own)) large_rank_lem ∙ ap (λ k. 32 * g + k) e.is)

-- a item that a u64 holds
placed_place : (r i : ℕ) (l : List Bool) → i + length l ≤ 2 ^ 64 → placed (item r (places i l)) ≡ item r (places i l)
unfolding placed item places
placed_place r i [] h = refl
placed_place zero i (true ∷ l) h = if_true _ _ (lt-ltb i (2 ^ 64) (omega arith))
placed_place (suc r) i (true ∷ l) h = placed_place r (suc i) l (omega arith)
placed_place r i (false ∷ l) h = placed_place r (suc i) l (omega arith)

select_with : (l : List Bool) (n r : ℕ) → length l < 2 ^ 64 → end_of l ≤ 256 * n → select_of (dict_with l n) (suc r) ≡ item r (places 0 l)
unfolding select_of dict_with bytes_of pair_up is_empty item
select_with l zero r small cover = sym (ap (item r) (no_places 0 l (past_end l 0 cover)))
select_with l (suc n) r small cover = if_false _ _ (not_empty l n) ∙ ap placed (go (big l n r)) ∙ placed_place r 0 l (omega arith)
  where
    d : Dict
    d = dict_with l (suc n)

    go : (g : ℕ) × Choice 0 r (Ls l n r) g → select_from d (suc r) (start_large d (suc r)) (start_middle d (suc r) (start_large d (suc r))) ≡ item r (places 0 l)
    go c =
        let e = mid l n r c.0 c.1 in
        let s = start l n r c.0 c.1 e.0 e.1 in
        ap (λ g. select_from d (suc r) g (start_middle d (suc r) g)) s.0
        ∙ ap (select_from d (suc r) c.0) s.1
        ∙ chosen l n r c.0 c.1 e.0 e.1 cover

-- select of r + 1 is the item of the one that has r ones before it
pub select_of_lem : (l : List Bool) (r : ℕ) → length l < 2 ^ 64 → select_of (dict_of l) (suc r) ≡ item r (places 0 l)
unfolding dict_of block_count
select_of_lem l r small = select_with l (block_count l) r small (omega arith)

pub select_at : (l : List Bool) (i : ℕ) → length l < 2 ^ 64 → get_or l i false ≡ true → select_of (dict_of l) (suc (opens (take i l))) ≡ is i
select_at l i small e = select_of_lem l (opens (take i l)) small ∙ place_at l 0 i e ∙ ap is (omega arith)
