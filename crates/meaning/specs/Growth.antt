-- Growth. It "takes a level and a label for the list's end and works from the bit string alone".
use Rattle.std.specs.Prelude.{Bool, true, false, ◌&&◌, List, [], ◌∷◌, ◌++◌, ℕ, zero, suc, pred, ◌+◌, ◌*◌, leb, eqb, length, drop, set, replicate}
use Rattle.std.proofs.Math.Option.{Option, none, some}
use Rattle.meaning.specs.Answers.{Refusal, is, refused}
use Rattle.meaning.specs.Bits.{bits_of, word_count}
use Rattle.meaning.specs.String.{string}
use Rattle.meaning.specs.Family.{Level, tower}
use Rattle.meaning.specs.Areas.{Counts, written, counted}
use Rattle.meaning.specs.Refusals.{check, checks, first_of}
use Rattle.meaning.specs.Build.{Lent, rooms_of, Tree, After}

-- "balanced under one root": the first bit opens it and the last bit closes it. `Rest d l`: d nodes are open below the root,
-- and l closes them, opens and closes others, and last of all closes the root
pub data Rest : ℕ → List Bool → Type 0 where
  root_closes : Rest 0 (false ∷ [])
  node_opens : {d : ℕ} {l : List Bool} → Rest (suc d) l → Rest d (true ∷ l)
  node_closes : {d : ℕ} {l : List Bool} → Rest d l → Rest (suc d) (false ∷ l)

-- the whole string (`one_root_test`: what `one_root` tests)
pub data OneRoot : List Bool → Type 0 where
  root_opens : {l : List Bool} → Rest 0 l → OneRoot (true ∷ l)

-- the same as a test
unfoldable pub rest_holds : ℕ → List Bool → Bool
rest_holds d [] = false
rest_holds d (true ∷ l) = rest_holds (suc d) l
rest_holds zero (false ∷ []) = true
rest_holds zero (false ∷ b ∷ l) = false
rest_holds (suc d) (false ∷ l) = rest_holds d l

-- of the whole string
unfoldable pub one_root : List Bool → Bool
one_root [] = false
one_root (true ∷ l) = rest_holds 0 l
one_root (false ∷ l) = false

-- "works from the bit string alone": the levels that a string holds. d nodes are open, the root among them
unfoldable pub levels_at : ℕ → List Bool → List ℕ
levels_at d [] = []
levels_at d (true ∷ l) = pred d ∷ levels_at (suc d) l
levels_at d (false ∷ l) = levels_at (pred d) l

-- of a whole string
unfoldable pub levels_of : List Bool → List ℕ
levels_of l = levels_at 1 (drop 1 l)

-- the string of the list that is longer by level v
unfoldable pub grown : List Bool → ℕ → List Bool
grown l v = string (levels_of l ++ v ∷ [])

-- "Areas 0 to 3 then hold, to their ends, what a build of the longer list writes": the levels of that, from area 0 and its n bits
unfoldable pub grown_tower : List ℕ → ℕ → ℕ → List Level
grown_tower words n v = tower 4 (grown (bits_of words n) v)

-- the bits of the string, by the record of counts
unfoldable pub first_bits : List Counts → ℕ
first_bits [] = 0
first_bits (c ∷ cs) = c.bits

-- of a tree
abbrev pub bits_in : Tree → ℕ
bits_in t = first_bits t.counts

-- "BROKEN if it is past area 0, not balanced under one root or its count disagrees": m bits in the words, for n nodes
unfoldable pub sound_in : List ℕ → ℕ → ℕ → Bool
sound_in ws n m = leb (word_count m) (length ws) && eqb m (2 * n + 2) && one_root (bits_of ws m)

-- by the record of counts
unfoldable pub sound : Tree → Lent → Bool
sound t a = sound_in a.held.words t.nodes (bits_in t)

-- "then 2, 3 and so on for the longer list"
unfoldable pub grow_refusal : Tree → Lent → ℕ → Option Refusal
grow_refusal t a v =
    first_of (check (sound t a) 9 (0 ∷ []) ∷ checks (levels_of (bits_of a.held.words (bits_in t)) ++ v ∷ []) (rooms_of a))

-- "Refused growth leaves 0 to 4 as they stood. Scratch is zero after every call"; "in area 4 only the new label is written"
unfoldable pub grow : Tree → Lent → ℕ → ℕ → After
grow t a v b =
    let zeros : List ℕ = replicate (length a.scratch) 0 in
    let new : List Level = grown_tower a.held.words (bits_in t) v in
    elim (grow_refusal t a v) [
      | none ↦
          record {
            reply = is (record { nodes = suc t.nodes; counts = counted new });
            areas = record { held = written (rooms_of a) new; labels = set a.labels t.nodes b; scratch = zeros };
          }
      | some r ↦ record { reply = refused r; areas = record { held = a.held; labels = a.labels; scratch = zeros } }
    ]
