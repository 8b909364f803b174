-- Dictionary. Its encoding, and rank, select, pred and succ by their steps.
use Rattle.std.specs.Prelude.{Bool, true, false, ◌&&◌, List, [], ◌∷◌, ◌++◌, ℕ, zero, suc, pred, ◌+◌, ◌*◌, ◌-◌, ◌/◌, ◌%◌, ◌^◌, min, ltb, leb, eqb, length, get_or, take, drop}
use Rattle.std.proofs.Math.Option.{Option, none, some}
use Rattle.meaning.specs.Answers.{Answer, is, nothing, refused, broken}
use Rattle.meaning.specs.Bits.{opens, places}

-- one more, but of 0 nothing
unfoldable pub bump : ℕ → ℕ
bump zero = zero
bump (suc k) = suc (suc k)

-- one past the place of the last one; 0 if there is none
unfoldable pub end_of : List Bool → ℕ
end_of [] = 0
end_of (true ∷ l) = suc (end_of l)
end_of (false ∷ l) = bump (end_of l)

-- "Each 256 places up to the last one's block"
unfoldable pub block_count : List Bool → ℕ
block_count l = (end_of l + 255) / 256

-- "are stored as a count byte and then the offsets as bytes, ascending"
unfoldable pub block : List Bool → List ℕ
block l = let o = places 0 l in length o ∷ o

-- the bytes of the first k blocks
unfoldable pub bytes_of : ℕ → List Bool → List ℕ
bytes_of zero l = []
bytes_of (suc k) l = block (take 256 l) ++ bytes_of k (drop 256 l)

-- ones before block b
unfoldable pub ones_to : List Bool → ℕ → ℕ
ones_to l b = opens (take (256 * b) l)

-- byte position of block b
unfoldable pub byte_pos : List Bool → ℕ → ℕ
byte_pos l b = length (bytes_of b l)

-- two numbers an entry, k entries from the i-th on
unfoldable pub pair_up : (ℕ → ℕ) → (ℕ → ℕ) → ℕ → ℕ → List ℕ
pair_up f g i zero = []
pair_up f g i (suc k) = f i ∷ g i ∷ pair_up f g (suc i) k

-- the three kinds of entries
pub record Dict : Type 0 where
  pub bytes : List ℕ
  pub middle : List ℕ
  pub large : List ℕ

-- "Per 65,536 (256 blocks): two u64, the same, absolute"
unfoldable pub large_pos : List Bool → ℕ → ℕ
large_pos l g = byte_pos l (256 * g)

-- its rank
unfoldable pub large_rank : List Bool → ℕ → ℕ
large_rank l g = ones_to l (256 * g)

-- "Per 2,048 places (8 blocks): two u16, byte position and rank, relative to the enclosing 65,536"
unfoldable pub middle_pos : List Bool → ℕ → ℕ
middle_pos l m = byte_pos l (8 * m) - large_pos l (m / 32)

-- its rank
unfoldable pub middle_rank : List Bool → ℕ → ℕ
middle_rank l m = ones_to l (8 * m) - large_rank l (m / 32)

-- of the first n blocks
unfoldable pub dict_with : List Bool → ℕ → Dict
dict_with l n =
    record {
      bytes = bytes_of n l;
      middle = pair_up (middle_pos l) (middle_rank l) 0 ((n + 7) / 8);
      large = pair_up (large_pos l) (large_rank l) 0 ((n + 255) / 256);
    }

-- "up to the last one's block"
unfoldable pub dict_of : List Bool → Dict
dict_of l = dict_with l (block_count l)

-- a dictionary without entries
unfoldable pub is_empty : Dict → Bool
is_empty d = eqb (length d.bytes + length d.middle + length d.large) 0

-- where a walk starts: the ones before, and the bytes from there on
pub record Start : Type 0 where
  pub passed : ℕ
  pub rest : List ℕ

-- from large entry g and middle entry m; none: an entry that is not there, or a position past the end of the bytes
unfoldable pub start_at : Dict → ℕ → ℕ → Option Start
start_at d g m =
    let pos : ℕ = get_or d.large (2 * g) 0 + get_or d.middle (2 * m) 0 in
    elim (ltb (2 * g + 1) (length d.large) && ltb (2 * m + 1) (length d.middle) && leb pos (length d.bytes)) [
      | true ↦ some (record { passed = get_or d.large (2 * g + 1) 0 + get_or d.middle (2 * m + 1) 0; rest = drop pos d.bytes })
      | false ↦ none
    ]

-- Rank by steps; none: a step reads outside. "counts leading offsets up to its place", read one after another up to the first above x
unfoldable pub leading : ℕ → ℕ → ℕ → List ℕ → Option ℕ
leading x r zero bs = some r
leading x r (suc n) [] = none
leading x r (suc n) (o ∷ bs) = elim (leb o x) [ true ↦ leading x (suc r) n bs | false ↦ some r ]

-- "walks the blocks": k to pass, r ones passed, then the bytes from here on. "A walk that comes exactly to the end of the bytes stops there: the total"
unfoldable pub rank_walk : ℕ → ℕ → ℕ → List ℕ → Option ℕ
rank_walk x zero r [] = some r
rank_walk x zero r (n ∷ bs) = leading x r n bs
rank_walk x (suc k) r [] = some r
rank_walk x (suc k) r (n ∷ bs) = elim (leb n (length bs)) [ true ↦ rank_walk x k (r + n) (drop n bs) | false ↦ none ]

-- rank from large entry g and middle entry m
unfoldable pub rank_from : Dict → ℕ → ℕ → ℕ → Option ℕ
rank_from d x g m = elim (start_at d g m) [ none ↦ none | some s ↦ rank_walk (x % 256) (x / 256 - 8 * m) s.passed s.rest ]

-- A count past 2^64 - 1 overflows. What rank counts only grows, so a test of the last count is one of every step's
unfoldable pub limit : Option ℕ → Option ℕ
limit none = none
limit (some n) = elim (ltb n (2 ^ 64)) [ true ↦ some n | false ↦ none ]

-- "Rank starts from the entries of its place, or the last there are". Without entries it is 0
unfoldable pub rank_of : Dict → ℕ → Option ℕ
rank_of d x =
    elim (is_empty d) [
      | true ↦ some 0
      | false ↦ limit (rank_from d x (min (x / 65536) (length d.large / 2 - 1)) (min (x / 2048) (length d.middle / 2 - 1)))
    ]

-- Select finds a place or nothing; a step that reads outside is BROKEN. The i-th of the bytes
unfoldable pub nth : ℕ → List ℕ → Answer ℕ
nth i [] = refused broken
nth zero (o ∷ bs) = is o
nth (suc i) (o ∷ bs) = nth i bs

-- n places further
unfoldable pub plus : ℕ → Answer ℕ → Answer ℕ
plus n (is i) = is (n + i)
plus n nothing = nothing
plus n (refused e) = refused e

-- Select "walks the blocks": s bytes to pass, then a count byte; the block here starts at place x; r ones are still to come, this one counted.
-- "A walk that comes exactly to the end of the bytes stops there": nothing
unfoldable pub select_walk : ℕ → ℕ → ℕ → List ℕ → Answer ℕ
select_walk s x r [] = elim s [ zero ↦ nothing | suc t ↦ refused broken ]
select_walk (suc s) x r (n ∷ bs) = select_walk s x r bs
select_walk zero x r (n ∷ bs) = elim (leb r n) [ true ↦ plus x (nth (pred r) bs) | false ↦ select_walk n (x + 256) (r - n) bs ]

-- Select of r from place x, o ones passed: a start exactly at the end of the bytes finds nothing (if o does not overflow);
-- any other takes r - 1 less o, which must not be below zero
unfoldable pub select_start : ℕ → ℕ → ℕ → List ℕ → Answer ℕ
select_start x r o [] = elim (ltb o (2 ^ 64)) [ true ↦ nothing | false ↦ refused broken ]
select_start x r o (n ∷ bs) = elim (ltb o r) [ true ↦ select_walk 0 x (r - o) (n ∷ bs) | false ↦ refused broken ]

-- from large entry g and middle entry m; r - 1 less the large rank must not be below zero
unfoldable pub select_from : Dict → ℕ → ℕ → ℕ → Answer ℕ
select_from d r g m =
    elim (start_at d g m) [
      | none ↦ refused broken
      | some s ↦ elim (ltb (get_or d.large (2 * g + 1) 0) r) [ true ↦ select_start (2048 * m) r s.passed s.rest | false ↦ refused broken ]
    ]

-- How many leading entries (pairs) have a rank, b more than what they say, that does not exceed r - 1
unfoldable pub before : ℕ → ℕ → List ℕ → ℕ
before b r [] = 0
before b r (p ∷ []) = 0
before b r (p ∷ k ∷ es) = elim (ltb (b + k) r) [ true ↦ suc (before b r es) | false ↦ 0 ]

-- "Select of r starts from the entry before the first whose rank exceeds r - 1", the first if there is none before, the last if none does
unfoldable pub start_large : Dict → ℕ → ℕ
start_large d r = pred (before 0 r d.large)

-- "large and then middle", among the large one's 32
unfoldable pub start_middle : Dict → ℕ → ℕ → ℕ
start_middle d r g = 32 * g + pred (before (get_or d.large (2 * g + 1) 0) r (take 64 (drop (64 * g) d.middle)))

-- a place past 2^64 - 1 overflows
unfoldable pub placed : Answer ℕ → Answer ℕ
placed (is i) = elim (ltb i (2 ^ 64)) [ true ↦ is i | false ↦ refused broken ]
placed nothing = nothing
placed (refused e) = refused e

-- "select of rank 0, or past the count, finds nothing"; without entries nothing
unfoldable pub select_of : Dict → ℕ → Answer ℕ
select_of d zero = nothing
select_of d (suc r) =
    elim (is_empty d) [
      | true ↦ nothing
      | false ↦ placed (select_from d (suc r) (start_large d (suc r)) (start_middle d (suc r) (start_large d (suc r))))
    ]

-- pred is select of rank
unfoldable pub pred_of : Dict → ℕ → Answer ℕ
pred_of d x = elim (rank_of d x) [ none ↦ refused broken | some r ↦ select_of d r ]

-- select of one more than r, which must not overflow
unfoldable pub select_next : Dict → ℕ → Answer ℕ
select_next d r = elim (ltb (suc r) (2 ^ 64)) [ true ↦ select_of d (suc r) | false ↦ refused broken ]

-- the naive succ of x, whose rank is r: x itself if select of r finds it, else select of r + 1
unfoldable pub succ_by : Dict → ℕ → ℕ → Answer ℕ → Answer ℕ
succ_by d x r (is i) = elim (eqb i x) [ true ↦ is x | false ↦ select_next d r ]
succ_by d x r nothing = select_next d r
succ_by d x r (refused e) = refused e

-- succ
unfoldable pub succ_of : Dict → ℕ → Answer ℕ
succ_of d x = elim (rank_of d x) [ none ↦ refused broken | some r ↦ succ_by d x r (select_of d r) ]
