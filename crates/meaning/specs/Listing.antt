-- The program `listwalk`: what its input says, and the bytes that it writes. A tab is 9, a newline 10, the digit d 48 + d.
use Rattle.std.specs.Prelude.{◌≡◌, true, false, ◌&&◌, List, [], ◌∷◌, ◌++◌, map, ℕ, zero, suc, ◌+◌, ◌-◌, ◌*◌, ◌/◌, ◌%◌, ◌<◌, ◌≤◌, ltb, leb, eqb, length, get_or, replicate}
use Rattle.std.proofs.Math.Option.{Option, none, some}
use Rattle.meaning.specs.Answers.{Refusal, Answer, is, nothing, refused}
use Rattle.meaning.specs.Bits.{tab}
use Rattle.meaning.specs.String.{string}
use Rattle.meaning.specs.List.{offending}
use Rattle.meaning.specs.Family.{tower}
use Rattle.meaning.specs.Close.{and_then, test}
use Rattle.meaning.specs.Child.{Node}
use Rattle.meaning.specs.Size.{byte_size}
use Rattle.meaning.specs.Kin.{below, parent}
use Rattle.meaning.specs.Areas.{Rooms, joined, filled}
use Rattle.meaning.specs.Refusals.{level_rule}
use Rattle.meaning.specs.Quoted.{quoted}

-- "decimal without leading zeros": the digits of n in at most k places, the most significant first
unfoldable pub decimal : ℕ → ℕ → List ℕ
decimal zero n = []
decimal (suc k) n = elim (ltb n 10) [ true ↦ (48 + n) ∷ [] | false ↦ decimal k (n / 10) ++ (48 + n % 10) ∷ [] ]

-- a number of 64 bits has at most 20 places
unfoldable pub digits : ℕ → List ℕ
digits n = decimal 20 n

-- a field and the byte that ends it
unfoldable pub ended : List ℕ → ℕ → List ℕ
ended f b = f ++ b ∷ []

-- "fields tab-parted", "newline-ended"
unfoldable pub line : List (List ℕ) → List ℕ
line [] = 10 ∷ []
line (f ∷ []) = ended f 10
line (f ∷ g ∷ fs) = ended f 9 ++ line (g ∷ fs)

-- an entry of the list
pub record Entry : Type 0 where
  pub level : ℕ
  pub label : ℕ

-- its two numbers
abbrev pub level_of : Entry → ℕ
level_of e = e.level

abbrev pub label_of : Entry → ℕ
label_of e = e.label

-- "lines `level TAB label`"
unfoldable pub entry_line : Entry → List ℕ
entry_line e = line (digits e.level ∷ digits e.label ∷ [])

-- of a whole list
unfoldable pub list_text : List Entry → List ℕ
list_text es = joined (map entry_line es)

-- what does not fit u32
abbrev pub wide : ℕ
wide = 4294967296

-- "each value fitting u32"
pub record EntryFits (e : Entry) : Type 0 where
  pub level : e.level < wide
  pub label : e.label < wide

unfoldable pub AllFit : List Entry → Type 0
AllFit [] = Unit {0}
AllFit (e ∷ es) = EntryFits e × AllFit es

-- an input of at most k lines ("at most 512") that says the list es (`says_exactly`: what `text_of` reads)
pub record Says (k : ℕ) (s : List ℕ) (es : List Entry) : Type 0 where
  pub few : length es ≤ k
  pub fit : AllFit es
  pub text : s ≡ list_text es

-- "the first such line, from 1": the lines before it say a list, there is more, and it starts with no entry's line, or is one too many
-- (`bad_exactly`)
pub record BadLine (k : ℕ) (s : List ℕ) (n : ℕ) : Type 0 where
  pub good : List Entry
  pub rest : List ℕ
  pub before : Says k (list_text good) good
  pub text : s ≡ list_text good ++ rest
  pub number : n ≡ suc (length good)
  pub more : 0 < length rest
  pub bad : length good < k → (e : Entry) (t : List ℕ) → EntryFits e → rest ≡ entry_line e ++ t → ⊥

-- Reading. The value of a digit
unfoldable pub digit : ℕ → Option ℕ
digit b = test (leb 48 b) (test (leb b 57) (some (b - 48)))

-- the value v with the digit b after it: none follows a zero
unfoldable pub with_digit : ℕ → ℕ → Option ℕ
with_digit v b = test (ltb 0 v) (and_then (digit b) (λ d. test (ltb (10 * v + d) wide) (some (10 * v + d))))

-- a number, and the bytes after the one that ends it
pub record Field : Type 0 where
  pub value : ℕ
  pub rest : List ℕ

-- such an answer
abbrev pub got : ℕ → List ℕ → Option Field
got v s = some (record { value = v; rest = s })

-- the digits after the value v, up to the byte that ends them
unfoldable pub scan : ℕ → ℕ → List ℕ → Option Field
scan stop v [] = none
scan stop v (b ∷ s) = elim (eqb b stop) [ true ↦ got v s | false ↦ and_then (with_digit v b) (λ w. scan stop w s) ]

-- a number and the byte that ends it
unfoldable pub field : ℕ → List ℕ → Option Field
field stop [] = none
field stop (b ∷ s) = and_then (digit b) (λ v. scan stop v s)

-- an entry, and the bytes after its line
pub record Row : Type 0 where
  pub entry : Entry
  pub rest : List ℕ

-- such an answer
abbrev pub got_row : ℕ → ℕ → List ℕ → Option Row
got_row v w s = some (record { entry = record { level = v; label = w }; rest = s })

-- a level, a tab, a label, a newline
unfoldable pub row : List ℕ → Option Row
row s = and_then (field 9 s) (λ f. and_then (field 10 f.rest) (λ g. got_row f.value g.value g.rest))

-- what an input says: a list, or the first line that is bad, from 1
pub data Text : Type 0 where
  list : List Entry → Text
  bad : ℕ → Text

-- after a good line
unfoldable pub after : Entry → Text → Text
after e (list es) = list (e ∷ es)
after e (bad n) = bad (suc n)

-- at most k lines; the next one is bad
unfoldable pub lines : ℕ → List ℕ → Text
lines zero [] = list []
lines zero (b ∷ s) = bad 1
lines (suc k) [] = list []
lines (suc k) (b ∷ s) = elim (row (b ∷ s)) [ none ↦ bad 1 | some r ↦ after r.entry (lines k r.rest) ]

-- "at most 512; line 513 is bad"
unfoldable pub text_of : List ℕ → Text
text_of s = lines 512 s

-- "TEXT", which carries "the first such line, from 1"
abbrev pub bad_text : ℕ → Refusal
bad_text n = record { number = 10; carries = n ∷ [] }

-- reading into lent levels and labels: how many there are, and what the two slices then hold
pub record Reading : Type 0 where
  pub reply : Answer ℕ
  pub levels : List ℕ
  pub labels : List ℕ

abbrev pub reading : Answer ℕ → List ℕ → List ℕ → Reading
reading r ls bs = record { reply = r; levels = ls; labels = bs }

-- a list and zeros behind it, or zeros
unfoldable pub outcome : Text → ℕ → ℕ → Reading
outcome (list es) m n = reading (is (length es)) (filled m (map level_of es)) (filled n (map label_of es))
outcome (bad k) m n = reading (refused (bad_text k)) (replicate m 0) (replicate n 0)

-- where there are not 512 of each nothing is read
unfoldable pub read_of : List ℕ → ℕ → ℕ → Reading
read_of s m n = elim (leb 512 m && leb 512 n) [ true ↦ outcome (text_of s) m n | false ↦ reading nothing (replicate m 0) (replicate n 0) ]

-- Writing. "It writes `tree`, nodes, bits, byte size"
unfoldable pub head_line : ℕ → ℕ → ℕ → List ℕ
head_line nodes bits size = line (quoted "tree" ∷ digits nodes ∷ digits bits ∷ digits size ∷ [])

-- "next sibling id or `-`": 0, the root's id, stands for none
unfoldable pub sibling_field : ℕ → List ℕ
sibling_field zero = quoted "-"
sibling_field (suc n) = digits (suc n)

-- "id, level, label, parent id, next sibling id or `-`"
unfoldable pub node_line : ℕ → ℕ → ℕ → ℕ → ℕ → List ℕ
node_line id level label above sibling = line (digits id ∷ digits level ∷ digits label ∷ digits above ∷ sibling_field sibling ∷ [])

-- the node of list place k
unfoldable pub node_text : List ℕ → List ℕ → (ℕ → ℕ) → ℕ → List ℕ
node_text levels labels sibling k = node_line (suc k) (get_or levels k 0) (get_or labels k 0) (parent levels k) (sibling k)

-- "then one line a node in id order": the first n nodes
unfoldable pub nodes_text : List ℕ → List ℕ → (ℕ → ℕ) → ℕ → List ℕ
nodes_text levels labels sibling n = joined (tab (node_text levels labels sibling) 0 n)

-- node j's id if it is of level v, else 0
unfoldable pub id_at_level : List ℕ → ℕ → ℕ → ℕ
id_at_level vs v j = elim (ltb j (length vs) && eqb (get_or vs j 0) v) [ true ↦ suc j | false ↦ 0 ]

-- the next sibling's id: of the node after those below it, if that has the same level
unfoldable pub sibling_id : List ℕ → ℕ → ℕ
sibling_id vs k = id_at_level vs (get_or vs k 0) (suc k + below vs k)

-- the id that an answer to a sibling question has (`sibling_id_lem`; of the proofs alone)
unfoldable pub id_of : Option Node → ℕ
id_of none = 0
id_of (some n) = n.id

-- the listing of a list
unfoldable pub listing : List ℕ → List ℕ → List ℕ
listing levels labels =
    head_line (length levels) (length (string levels)) (byte_size (tower 4 (string levels)) (length levels))
    ++ nodes_text levels labels (sibling_id levels) (length levels)

-- "A refusal is the one tab-parted line `refused`, number, what it carries"
unfoldable pub refusal_line : Refusal → List ℕ
refusal_line r = line (quoted "refused" ∷ digits r.number ∷ map digits r.carries)

-- what the build of a list comes to
unfoldable pub built : Option Refusal → List ℕ → List ℕ → List ℕ
built none levels labels = listing levels labels
built (some r) levels labels = refusal_line r

-- the areas that no list of at most 512 nodes overruns: it has at most 17 words, and flags at most 62 places in 5 blocks
-- (`only_level`: then LEVEL alone refuses)
pub record Enough (rooms : Rooms) : Type 0 where
  pub words : 18 ≤ rooms.words
  pub bytes : 67 ≤ rooms.bytes
  pub middle : 2 ≤ rooms.middle
  pub large : 2 ≤ rooms.large
  pub labels : 512 ≤ rooms.labels
  pub scratch : 1026 ≤ rooms.scratch

-- "a bad line is told before any refusal of the build"; in such areas LEVEL is the only one
unfoldable pub answer_to : Text → List ℕ
answer_to (list es) = built (level_rule (offending (map level_of es))) (map level_of es) (map label_of es)
answer_to (bad n) = refusal_line (bad_text n)

-- "It reads standard input": the whole output, by the whole input
unfoldable pub listwalk_of : List ℕ → List ℕ
listwalk_of s = answer_to (text_of s)
