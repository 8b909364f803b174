-- Words copied to the front of a part, and what bits then stand there.
use mathlib.Core.Path.{◌≡◌, ap, ap₂, ◌∙◌}
use mathlib.Core.Bool.{true}
use mathlib.Core.List.{List}
use Prim.Native.Nat.{ℕ, ◌+◌, ◌-◌, ◌/◌, ◌%◌, ◌<◌}
use native.Mathlib.Omega.{arith}
use lib.Dec.{eqb}
use lib.ListN.{length, get_or, set, take, drop, length-take, get_or-append}
use lib.Seq.{paste, length-paste, get_or-take}
use Rattle.meaning.specs.Bits.{bit, bit_at, bits_of, pack, stored, word_count}
use Rattle.meaning.proofs.Stored.{bits_same, length_bits}
use Rattle.meaning.proofs.Pack.{pack_set}
use Rattle.longer.specs.Longer.{Copying, Turning}

-- the bits of whole words
same_bits : (ws d : List ℕ) (m : ℕ) → Copying ws d m → bits_of (paste d 0 ws (word_count m)) m ≡ bits_of ws m
unfolding bit_at
same_bits ws d m c =
    bits_same (paste d 0 ws (word_count m)) ws m
    (λ i h. ap (λ (x : ℕ). eqb (bit x (i % 64)) 1) (paste_front (i / 64) (omega arith)))
  where
    paste_front : (w : ℕ) → w < word_count m → get_or (paste d 0 ws (word_count m)) w 0 ≡ get_or ws w 0
    paste_front w h =
        get_or-append (take (word_count m) ws) (drop (0 + word_count m) d) 0 w (omega (arith, length-take (word_count m) ws, c.held))
        ∙ get_or-take (word_count m) ws w 0 h

pub copied_bits : (ws d part out : List ℕ) (m k : ℕ) → Copying ws d m → k ≡ word_count m → part ≡ paste d 0 ws k → out ≡ pack (length part) (bits_of part m)
    → out ≡ pack (length d) (bits_of ws m)
copied_bits ws d part out m k c e f g =
    let p : part ≡ paste d 0 ws (word_count m) = f ∙ ap (paste d 0 ws) e in
    let n : length part ≡ length d = ap length p ∙ length-paste d 0 ws (word_count m) (omega (arith, c.room)) (omega (arith, c.held)) in
    g ∙ ap₂ pack n (ap (λ (x : List ℕ). bits_of x m) p ∙ same_bits ws d m c)

pub turned_bits : (ws d part out : List ℕ) (m v : ℕ) → Turning ws d m v → part ≡ pack (length d) (bits_of ws m) → out ≡ stored part (m - 1 - v) true
    → out ≡ pack (length d) (set (bits_of ws m) (m - 1 - v) true)
turned_bits ws d part out m v t e f =
    f ∙ ap (λ (x : List ℕ). stored x (m - 1 - v) true) e
    ∙ pack_set (length d) (m - 1 - v) true (bits_of ws m) (omega (arith, t.inside, t.copying.room)) (omega (arith, t.inside, length_bits ws m))
