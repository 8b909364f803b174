-- Bit strings. "Open is 1, close is 0"; "bit i is bit i mod 64 of word i / 64, lowest first".
use Rattle.std.specs.Prelude.{Bool, true, false, List, [], ◌∷◌, ℕ, zero, suc, ◌+◌, ◌*◌, ◌/◌, ◌%◌, ◌^◌, eqb, length, get_or, set, take, drop}

-- how many opens, how many closes
unfoldable pub opens : List Bool → ℕ
opens [] = 0
opens (true ∷ l) = suc (opens l)
opens (false ∷ l) = opens l

unfoldable pub closes : List Bool → ℕ
closes [] = 0
closes (true ∷ l) = closes l
closes (false ∷ l) = suc (closes l)

-- f i, f (i + 1), ..: k of them
unfoldable pub tab {ℓ} : {A : Type ℓ} → (ℕ → A) → ℕ → ℕ → List A
tab f i zero = []
tab f i (suc k) = f i ∷ tab f (suc i) k

-- the places of the ones, counted from i
unfoldable pub places : ℕ → List Bool → List ℕ
places i [] = []
places i (true ∷ l) = i ∷ places (suc i) l
places i (false ∷ l) = places (suc i) l

-- bit i of a number, lowest first: 0 or 1
abbrev pub bit : ℕ → ℕ → ℕ
bit x i = x / 2 ^ i % 2

-- "Open is 1, close is 0"
abbrev pub as_bit : Bool → ℕ
as_bit true = 1
as_bit false = 0

-- a number with bit i made b: the bits above, b, the bits below
abbrev pub with_bit : ℕ → ℕ → ℕ → ℕ
with_bit x i b = x / 2 ^ (1 + i) * 2 ^ (1 + i) + (b * 2 ^ i + x % 2 ^ i)

-- "Bit i is bit i mod 64 of word i / 64, lowest first"
unfoldable pub bit_at : List ℕ → ℕ → Bool
bit_at ws i = eqb (bit (get_or ws (i / 64) 0) (i % 64)) 1

-- the first n bits of the words
unfoldable pub bits_of : List ℕ → ℕ → List Bool
bits_of ws n = tab (bit_at ws) 0 n

-- the words with bit i made b; past their end nothing changes
unfoldable pub stored : List ℕ → ℕ → Bool → List ℕ
stored ws i b = set ws (i / 64) (with_bit (get_or ws (i / 64) 0) (i % 64) (as_bit b))

-- k bits from place a on made zeros
unfoldable pub cleared : List ℕ → ℕ → ℕ → List ℕ
cleared ws a zero = ws
cleared ws a (suc k) = cleared (stored ws a false) (suc a) k

-- the number whose bits, lowest first, are those of the list
unfoldable pub value : List Bool → ℕ
value [] = 0
value (true ∷ l) = 1 + 2 * value l
value (false ∷ l) = 2 * value l

-- "bits / 64 rounded up"
abbrev pub word_count : ℕ → ℕ
word_count n = (n + 63) / 64

-- k words that hold the bits of a list, and zeros behind them
unfoldable pub pack : ℕ → List Bool → List ℕ
pack k l = tab (λ w. value (take 64 (drop (64 * w) l))) 0 k

-- the words of a list of bits, the last one filled up with zeros
unfoldable pub words_of : List Bool → List ℕ
words_of l = pack (word_count (length l)) l
