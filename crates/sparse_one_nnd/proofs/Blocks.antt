-- Blocks of 256 places: their bits in the words, their ones, and the end of the string.
use mathlib.Core.Path.{◌≡◌, refl, sym, ap, ap₂, ◌∙◌}
use mathlib.Core.Bool.{Bool, true, false}
use mathlib.Core.List.{List, [], ◌∷◌, ◌++◌}
use Prim.Native.Nat.{ℕ, zero, suc, ◌+◌, ◌*◌, ◌-◌, ◌/◌, ◌≤◌, ◌<◌, min}
use native.Mathlib.Decide.{dec_le}
use native.Mathlib.Nat.{zero-add, not-suc-le-zero}
use native.Mathlib.Omega.{arith}
use lib.ListN.{length, take, drop, length-take}
use lib.Seq.{take-add, drop-drop}
use borrow.Author.Tests.{eq-eqb, ne_eqb}
use Rattle.meaning.specs.Bits.{opens, tab, bit_at, bits_of}
use Rattle.meaning.specs.Dictionary.{bump, end_of, block_count}
use Rattle.meaning.proofs.If.{if_true, if_false}
use Rattle.meaning.proofs.Stored.{bit_at_drop}
use Rattle.meaning.proofs.Tab.{opens_append, opens_closes}
use Rattle.sparse_one_nnd.specs.Blocks.{last_of}

pub opens_le : (l : List Bool) → opens l ≤ length l
opens_le l = omega (arith, opens_closes l)

-- parts of a tab
drop_tab : (f : ℕ → Bool) (i j n : ℕ) → drop i (tab f j n) ≡ tab f (j + i) (n - i)
unfolding tab
drop_tab f zero j n = let u : n ≡ n - 0 = omega arith in let v : j ≡ j + 0 = omega arith in ap₂ (tab f) v u
drop_tab f (suc i) j zero = let u : 0 ≡ 0 - suc i = omega arith in ap (tab f (j + suc i)) u
drop_tab f (suc i) j (suc n) =
    let u : n - i ≡ suc n - suc i = omega arith in
    let v : suc j + i ≡ j + suc i = omega arith in
    drop_tab f i (suc j) n ∙ ap₂ (tab f) v u

take_tab : (f : ℕ → Bool) (k j n : ℕ) → take k (tab f j n) ≡ tab f j (min k n)
unfolding tab
take_tab f zero j n = let u : 0 ≡ min 0 n = omega arith in ap (tab f j) u
take_tab f (suc k) j zero = let u : 0 ≡ min (suc k) 0 = omega arith in ap (tab f j) u
take_tab f (suc k) j (suc n) =
    let u : suc (min k n) ≡ min (suc k) (suc n) = omega arith in
    ap (λ (t : List Bool). f j ∷ t) (take_tab f k (suc j) n) ∙ ap (tab f j) u

-- block b in the words
pub block_tab : (ws : List ℕ) (n b k : ℕ) → k ≡ min 256 (n - 256 * b) → tab (bit_at ws) (256 * b) k ≡ take 256 (drop (256 * b) (bits_of ws n))
unfolding bits_of
block_tab ws n b k e =
    ap (tab (bit_at ws) (256 * b)) e
    ∙ sym (ap (take 256) (drop_tab (bit_at ws) (256 * b) 0 n)
    ∙ take_tab (bit_at ws) 256 (0 + 256 * b) (n - 256 * b)
    ∙ ap (λ (j : ℕ). tab (bit_at ws) j (min 256 (n - 256 * b))) (zero-add (256 * b)))

-- the block's own words
tab_shift : (f g : ℕ → Bool) (d i k : ℕ) → ((j : ℕ) → f j ≡ g (d + j)) → tab f i k ≡ tab g (d + i) k
unfolding tab
tab_shift f g d i zero h = refl
tab_shift f g d i (suc k) h =
    let u : d + suc i ≡ suc (d + i) = omega arith in
    ap₂ (λ (b : Bool) (l : List Bool). b ∷ l) (h i) (tab_shift f g d (suc i) k h ∙ ap (λ (j : ℕ). tab g j k) u)

pub block_words : (ws : List ℕ) (n b k : ℕ) → k ≡ min 256 (n - 256 * b) → bits_of (drop (4 * b) ws) k ≡ take 256 (drop (256 * b) (bits_of ws n))
unfolding bits_of
block_words ws n b k e =
    let u : 256 * b + 0 ≡ 256 * b = omega arith in
    tab_shift (bit_at (drop (4 * b) ws)) (bit_at ws) (256 * b) 0 k
    (λ j. let v : 64 * (4 * b) + j ≡ 256 * b + j = omega arith in bit_at_drop ws (4 * b) j ∙ ap (bit_at ws) v)
    ∙ ap (λ (j : ℕ). tab (bit_at ws) j k) u ∙ block_tab ws n b k e

pub block_count_lem : (ws : List ℕ) (n b k c : ℕ) → k ≡ min 256 (n - 256 * b) → c ≡ opens (tab (bit_at ws) (256 * b) k)
    → c ≡ opens (take 256 (drop (256 * b) (bits_of ws n)))
block_count_lem ws n b k c e f = f ∙ ap opens (block_tab ws n b k e)

-- the next block taken
pub next_block : (l : List Bool) (b : ℕ) → take (256 * (b + 1)) l ≡ take (256 * b) l ++ take 256 (drop (256 * b) l)
next_block l b = let u : 256 * (b + 1) ≡ 256 * b + 256 = omega arith in ap (λ (k : ℕ). take k l) u ∙ take-add (256 * b) 256 l

pub next_drop : (l : List Bool) (b : ℕ) → drop 256 (drop (256 * b) l) ≡ drop (256 * (b + 1)) l
next_drop l b = let u : 256 * b + 256 ≡ 256 * (b + 1) = omega arith in drop-drop 256 (256 * b) l ∙ ap (λ (k : ℕ). drop k l) u

pub next_ones : (l : List Bool) (b : ℕ) → opens (take (256 * (b + 1)) l) ≡ opens (take (256 * b) l) + opens (take 256 (drop (256 * b) l))
next_ones l b = ap opens (next_block l b) ∙ opens_append (take (256 * b) l) (take 256 (drop (256 * b) l))

-- the end of a string in two parts
end_none : (s t : List Bool) → opens t ≡ 0 → end_of (s ++ t) ≡ end_of s
unfolding end_of opens bump
end_none [] [] h = refl
end_none [] (true ∷ t) h = absurd (omega arith)
end_none [] (false ∷ t) h = ap bump (end_none [] t h)
end_none (true ∷ s) t h = ap suc (end_none s t h)
end_none (false ∷ s) t h = ap bump (end_none s t h)

end_zero : (t : List Bool) → opens t ≡ 0 → end_of t ≡ 0
unfolding end_of opens bump
end_zero [] h = refl
end_zero (true ∷ t) h = absurd (omega arith)
end_zero (false ∷ t) h = rw (end_zero t h)

end_pos : (t : List Bool) → 0 < opens t → (0 < end_of t) × (end_of t ≤ length t)
unfolding end_of opens bump
end_pos [] h = absurd (not-suc-le-zero h)
end_pos (true ∷ t) h = (omega arith, go (dec_le 1 (opens t)) (λ h. end_pos t h))
  where
    go : Dec (1 ≤ opens t) → (0 < opens t → (0 < end_of t) × (end_of t ≤ length t)) → suc (end_of t) ≤ suc (length t)
    go (yes h) ih = omega (arith, ih h)
    go (no h) ih = omega (arith, end_zero t (omega arith))
end_pos (false ∷ t) h = go (end_of t) (end_pos t h)
  where
    go : (k : ℕ) → (0 < k) × (k ≤ length t) → (0 < bump k) × (bump k ≤ suc (length t))
    go zero h = absurd (omega arith)
    go (suc k) h = (omega arith, omega arith)

end_some : (s t : List Bool) → 0 < opens t → end_of (s ++ t) ≡ length s + end_of t
unfolding end_of bump
end_some [] t h = omega arith
end_some (true ∷ s) t h = omega (arith, end_some s t h)
end_some (false ∷ s) t h = go (end_of (s ++ t)) (end_some s t h) (end_pos t h).0
  where
    go : (k : ℕ) → k ≡ length s + end_of t → 0 < end_of t → bump k ≡ suc (length s) + end_of t
    go zero e h = absurd (omega arith)
    go (suc k) e h = omega arith

-- how many blocks there are, a block later
pub next_count : (l : List Bool) (b c : ℕ) → 256 * b ≤ length l → c ≡ opens (take 256 (drop (256 * b) l))
    → block_count (take (256 * (b + 1)) l) ≡ last_of c b (block_count (take (256 * b) l))
unfolding block_count
next_count l b c h e = go (dec_le 1 c)
  where
    s : List Bool
    s = take (256 * b) l

    t : List Bool
    t = take 256 (drop (256 * b) l)

    go : Dec (1 ≤ c) → (end_of (take (256 * (b + 1)) l) + 255) / 256 ≡ last_of c b ((end_of s + 255) / 256)
    go (yes k) =
        let p = end_pos t (omega arith) in
        let q = end_some s t (omega arith) in
        let m : length s ≡ 256 * b = omega (arith, length-take (256 * b) l) in
        let w : length t ≤ 256 = omega (arith, length-take 256 (drop (256 * b) l)) in
        ap (λ (u : List Bool). (end_of u + 255) / 256) (next_block l b) ∙ omega (arith, q, p, m, w)
        ∙ sym (if_false _ _ (ne_eqb c 0 (λ z. omega arith)))
    go (no k) =
        ap (λ (u : List Bool). (end_of u + 255) / 256) (next_block l b) ∙ ap (λ (k : ℕ). (k + 255) / 256) (end_none s t (omega arith))
        ∙ sym (if_true _ _ (eq-eqb c 0 (omega arith)))

pub last_of_none : (c b blocks : ℕ) → c ≡ 0 → blocks ≡ last_of c b blocks
last_of_none c b blocks e = sym (if_true _ _ (eq-eqb c 0 e))

pub last_of_some : (c b blocks : ℕ) → (c ≡ 0 → ⊥) → b + 1 ≡ last_of c b blocks
last_of_some c b blocks e = sym (if_false _ _ (ne_eqb c 0 e))
