-- Words made from a list of bits: `pack` holds them, zeros behind; words are what `pack` makes of their bits.
use mathlib.Core.Path.{◌≡◌, refl, sym, ap, ◌∙◌, subst}
use mathlib.Core.Bool.{Bool, true, false}
use mathlib.Core.List.{List, [], ◌∷◌, ◌++◌}
use Prim.Native.Nat.{ℕ, zero, suc, ◌+◌, ◌*◌, ◌/◌, ◌%◌, ◌^◌, ◌≤◌, ◌<◌}
use native.Mathlib.Nat.{mod-lt, zero-add, two-pow-succ, not-suc-le-zero, le_of_suc-le-suc}
use native.Mathlib.Decide.{ℕ_discrete, dec_lt}
use native.Mathlib.Omega.{arith}
use lib.Dec.{eqb}
use lib.ListN.{length, get_or, set, take, drop, replicate, length-take, length-replicate, get_or-replicate, get_or-eq_default, get_or-append}
use lib.Pow.{pow_pos}
use lib.Seq.{ext_get_or, get_or-take, get_or-drop, get_or-set_same, get_or-set_other, drop-nil}
use Rattle.meaning.specs.Bits.{bit, as_bit, bit_at, tab, bits_of, value, pack, stored, opens}
use Rattle.meaning.proofs.Bit.{bit_none, bit_zero, bit_suc, as_eqb}
use Rattle.meaning.proofs.Tab.{Below, length_tab, get_d_tab, opens_append, tab_add}
use Rattle.meaning.proofs.Stored.{bit_at_word, bit_at_past, words_ext, length_stored, stored_below, stored_here, stored_other, length_bits, bits_at}

-- the number of a list of bits: it fits, and bit j is place j of the list
pub value_lt : (n : ℕ) (l : List Bool) → length l ≤ n → value l < 2 ^ n
unfolding value
value_lt n [] h = pow_pos n
value_lt zero (b ∷ l) h = absurd (not-suc-le-zero h)
value_lt (suc n) (true ∷ l) h = omega (arith, two-pow-succ n, value_lt n l (le_of_suc-le-suc h))
value_lt (suc n) (false ∷ l) h = omega (arith, two-pow-succ n, value_lt n l (le_of_suc-le-suc h))

pub value_bit : (l : List Bool) (j : ℕ) → bit (value l) j ≡ as_bit (get_or l j false)
unfolding value
value_bit [] j = bit_none j
value_bit (true ∷ l) zero = bit_zero (1 + 2 * value l) ∙ omega arith
value_bit (false ∷ l) zero = bit_zero (2 * value l) ∙ omega arith
value_bit (true ∷ l) (suc j) = bit_suc (1 + 2 * value l) j ∙ ap (λ (n : ℕ). bit n j) (omega arith) ∙ value_bit l j
value_bit (false ∷ l) (suc j) = bit_suc (2 * value l) j ∙ ap (λ (n : ℕ). bit n j) (omega arith) ∙ value_bit l j

-- ---- the words

pub length_pack : (k : ℕ) (l : List Bool) → length (pack k l) ≡ k
unfolding pack
length_pack k l = length_tab _ 0 k

pub pack_at : (k : ℕ) (l : List Bool) (w : ℕ) → w < k → get_or (pack k l) w 0 ≡ value (take 64 (drop (64 * w) l))
unfolding pack
pack_at k l w h = get_d_tab (λ w. value (take 64 (drop (64 * w) l))) 0 k w 0 h ∙ ap (λ (w : ℕ). value (take 64 (drop (64 * w) l))) (zero-add w)

pub pack_below : (k : ℕ) (l : List Bool) → Below (2 ^ 64) (pack k l)
pack_below k l w = go (dec_lt w k)
  where
    go : Dec (w < k) → get_or (pack k l) w 0 < 2 ^ 64
    go (yes h) =
        subst (λ (x : ℕ). x < 2 ^ 64) (sym (pack_at k l w h)) (value_lt 64 _ (omega (arith, length-take 64 (drop (64 * w) l))))
    go (no h) = subst (λ (x : ℕ). x < 2 ^ 64) (sym (get_or-eq_default (pack k l) 0 (omega (arith, length_pack k l)))) (omega arith)

-- whatever follows them
pub pack_bit_front : (k : ℕ) (l : List Bool) (r : List ℕ) (i : ℕ) → i < 64 * k → bit_at (pack k l ++ r) i ≡ get_or l i false
pack_bit_front k l r i h =
    ap (bit_at (pack k l ++ r)) split
    ∙ bit_at_word (pack k l ++ r) (i / 64) (i % 64) (mod-lt i (omega arith))
    ∙ ap (λ (x : ℕ). eqb (bit x (i % 64)) 1) (get_or-append (pack k l) r 0 (i / 64) (omega (arith, length_pack k l)) ∙ pack_at k l (i / 64) (omega arith))
    ∙ ap (λ (x : ℕ). eqb x 1) (value_bit (take 64 (drop (64 * (i / 64)) l)) (i % 64))
    ∙ as_eqb _
    ∙ get_or-take 64 (drop (64 * (i / 64)) l) (i % 64) false (mod-lt i (omega arith))
    ∙ get_or-drop (64 * (i / 64)) l (i % 64) false
    ∙ ap (λ (x : ℕ). get_or l x false) (sym split)
  where
    split : i ≡ 64 * (i / 64) + i % 64
    split = omega arith

pub pack_bit : (k : ℕ) (l : List Bool) (i : ℕ) → i < 64 * k → bit_at (pack k l) i ≡ get_or l i false
pack_bit k l i h = ap (λ (s : List ℕ). bit_at s i) (sym (append_nil (pack k l))) ∙ pack_bit_front k l [] i h
  where
    append_nil : (s : List ℕ) → s ++ [] ≡ s
    append_nil [] = refl
    append_nil (x ∷ s) = ap (λ t. x ∷ t) (append_nil s)

-- the words hold the list, whatever follows
pub pack_holds : (k : ℕ) (l : List Bool) (r : List ℕ) → length l ≤ 64 * k → bits_of (pack k l ++ r) (length l) ≡ l
pack_holds k l r h =
    ext_get_or false (bits_of (pack k l ++ r) (length l)) l (length_bits (pack k l ++ r) (length l))
    (λ i q. let p : i < length l = omega (arith, length_bits (pack k l ++ r) (length l)) in bits_at (pack k l ++ r) (length l) i p ∙ pack_bit_front k l r i (omega arith))

-- words with the bits of a list are its words
pub is_pack : (ws : List ℕ) (k : ℕ) (l : List Bool) → length ws ≡ k → Below (2 ^ 64) ws → ((i : ℕ) → i < 64 * k → bit_at ws i ≡ get_or l i false) → ws ≡ pack k l
is_pack ws k l e p h =
    words_ext ws (pack k l) (e ∙ sym (length_pack k l)) p (pack_below k l)
    (λ i q. let g : i < 64 * k = omega (arith, e) in h i g ∙ sym (pack_bit k l i g))

-- words with zeros behind n bits are those of these bits
pub pack_bits : (ws : List ℕ) (n : ℕ) → Below (2 ^ 64) ws → ((i : ℕ) → n ≤ i → bit_at ws i ≡ false) → pack (length ws) (bits_of ws n) ≡ ws
pack_bits ws n p z = sym (is_pack ws (length ws) (bits_of ws n) refl p (λ i h. go i (dec_lt i n)))
  where
    go : (i : ℕ) → Dec (i < n) → bit_at ws i ≡ get_or (bits_of ws n) i false
    go i (yes l) = sym (bits_at ws n i l)
    go i (no l) = z i (omega arith) ∙ sym (get_or-eq_default (bits_of ws n) false (omega (arith, length_bits ws n)))

-- all of the bits
pub pack_all : (ws : List ℕ) → Below (2 ^ 64) ws → pack (length ws) (bits_of ws (64 * length ws)) ≡ ws
pack_all ws p = pack_bits ws (64 * length ws) p (bit_at_past ws)

-- the same bits, the same words
pub pack_same : (k : ℕ) (a b : List Bool) → ((j : ℕ) → j < 64 * k → get_or a j false ≡ get_or b j false) → pack k a ≡ pack k b
pack_same k a b h = is_pack (pack k a) k b (length_pack k a) (pack_below k a) (λ i l. pack_bit k a i l ∙ h i l)

pub pack_nil : (k : ℕ) → pack k [] ≡ replicate k 0
unfolding value
pack_nil k =
    ext_get_or 0 (pack k []) (replicate k 0) (length_pack k [] ∙ sym (length-replicate k 0))
    (λ w l.
    let h : w < k = omega (arith, length_pack k []) in
    pack_at k [] w h ∙ ap (λ (l : List Bool). value (take 64 l)) (drop-nil (64 * w)) ∙ sym (get_or-replicate k w 0 0 h))

-- one bit stored: the words of any list with that bit there, and elsewhere the same bits
pub pack_stored : (k i : ℕ) (c : Bool) (a b : List Bool) → i < 64 * k → get_or b i false ≡ c → ((j : ℕ) → (j ≡ i → ⊥) → get_or b j false ≡ get_or a j false)
    → stored (pack k a) i c ≡ pack k b
pack_stored k i c a b h e o =
    is_pack (stored (pack k a) i c) k b (length_stored (pack k a) i c ∙ length_pack k a) (stored_below (pack k a) i c (pack_below k a))
    (λ j l. go j l (ℕ_discrete j i))
  where
    go : (j : ℕ) → j < 64 * k → Dec (j ≡ i) → bit_at (stored (pack k a) i c) j ≡ get_or b j false
    go j l (yes q) =
        ap (bit_at (stored (pack k a) i c)) q ∙ stored_here (pack k a) i c (omega (arith, length_pack k a)) ∙ sym (ap (λ (x : ℕ). get_or b x false) q ∙ e)
    go j l (no n) = stored_other (pack k a) i c j n ∙ pack_bit k a j l ∙ sym (o j n)

pub pack_set : (k i : ℕ) (c : Bool) (a : List Bool) → i < 64 * k → i < length a → stored (pack k a) i c ≡ pack k (set a i c)
pack_set k i c a h l = pack_stored k i c a (set a i c) h (get_or-set_same a i c false l) (λ j n. get_or-set_other a i j c false n)

-- the ones of q whole words and of k bits more
pub bits_add : (ws : List ℕ) (a k : ℕ) → bits_of ws (a + k) ≡ bits_of ws a ++ tab (bit_at ws) a k
unfolding bits_of
bits_add ws a k = tab_add (bit_at ws) 0 a k ∙ ap (λ (x : ℕ). tab (bit_at ws) 0 a ++ tab (bit_at ws) x k) (zero-add a)

pub ones_add : (ws : List ℕ) (a k : ℕ) → opens (bits_of ws (a + k)) ≡ opens (bits_of ws a) + opens (tab (bit_at ws) a k)
ones_add ws a k = ap opens (bits_add ws a k) ∙ opens_append (bits_of ws a) (tab (bit_at ws) a k)
