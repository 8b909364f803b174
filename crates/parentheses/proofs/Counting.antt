-- Counts and sizes of a string's levels, one level before the others.
use mathlib.Core.Path.{◌≡◌, refl, sym, ap, ap₂, ◌∙◌, subst}
use mathlib.Core.Bool.{Bool, true, false}
use mathlib.Core.Logic.{◌⊎◌, inl, inr}
use mathlib.Core.List.{List, [], ◌∷◌, ◌++◌, map}
use Prim.Native.Nat.{ℕ, zero, suc, ◌+◌, ◌-◌, ◌*◌, ◌/◌, ◌≤◌}
use native.Mathlib.Nat.{not-suc-le-zero, le_of_suc-le-suc}
use native.Mathlib.Omega.{arith}
use lib.Dec.{leb}
use lib.ListN.{length, get_or, take, replicate, length-append}
use Rattle.meaning.specs.Bits.{words_of}
use Rattle.meaning.specs.Pioneers.{flags, pioneer_string}
use Rattle.meaning.specs.Dictionary.{dict_of, dict_with, block_count, middle_pos, middle_rank, large_pos, large_rank}
use Rattle.meaning.specs.Family.{Level, no_dict, tower}
use Rattle.meaning.specs.Areas as areas
use Rattle.meaning.specs.Areas.{joined, area_words, area_bytes, area_middle, area_large, counts_of, no_counts, counted}
use Rattle.meaning.specs.Direct.{Entries, entries_of}
use Rattle.meaning.specs.Bounds.{words_up, bytes_up, middle_up, large_up}
use Rattle.meaning.proofs.If.{bit, if_true, if_false}
use Rattle.meaning.proofs.Words.{length_words}
use Rattle.meaning.proofs.Rank.{length_pair_up}
use Rattle.meaning.proofs.String.{Walk}
use Rattle.meaning.proofs.Bounds.{Within, tower_within}
use Rattle.record.specs.Record.{tree_in, level_in, last_in}
use Rattle.record.specs.declared.Counts.{Counts}
use Rattle.sparse_one_nnd.specs.Said.{entries_in}
use Rattle.sparse_one_nnd.specs.declared.SparseOneNnd.{SparseOneNnd}
use Rattle.parentheses.specs.Plans.{alone_of, shifted, sizes_of, added, Small, SizesAre}
use Rattle.parentheses.specs.declared.plans.Sizes.{Sizes}

-- the two forms of a level, and the towers of them
abbrev pub single : List Bool → Level
single l = record { bits = l; dict = no_dict }

abbrev pub famous : List Bool → Level
famous l = record { bits = l; dict = dict_of (flags l) }

pub tower_short : (k : ℕ) (l : List Bool) → leb (length l) 64 ≡ true → tower k l ≡ single l ∷ []
unfolding tower
tower_short zero l e = refl
tower_short (suc k) l e = if_true _ _ e

pub tower_long : (k : ℕ) (l : List Bool) → leb (length l) 64 ≡ false → tower (suc k) l ≡ famous l ∷ tower k (pioneer_string l)
unfolding tower pioneer_string
tower_long k l e = if_false _ _ e

tower_size : (k : ℕ) (l : List Bool) → length (tower k l) ≤ suc k
unfolding tower
tower_size zero l = omega arith
tower_size (suc k) l = go (bit (leb (length l) 64)) (tower_size k (pioneer_string l))
  where
    go : (leb (length l) 64 ≡ true) ⊎ (leb (length l) 64 ≡ false) → length (tower k (pioneer_string l)) ≤ suc k → length (tower (suc k) l) ≤ suc (suc k)
    go (inl e) ih = omega (arith, ap length (tower_short (suc k) l e))
    go (inr e) ih = omega (arith, ap length (tower_long k l e))

-- ---- counts

-- no dictionary
record Bald (c : areas.Counts) : Type 0 where
  bytes : c.bytes ≡ 0
  middle : c.middle ≡ 0
  large : c.large ≡ 0

none_there : (n j : ℕ) → get_or (replicate n no_counts) j no_counts ≡ no_counts
none_there zero j = refl
none_there (suc n) zero = refl
none_there (suc n) (suc j) = none_there n j

bald : Bald no_counts
bald = record { bytes = refl; middle = refl; large = refl }

bald_single : (l : List Bool) → Bald (counts_of (single l))
unfolding counts_of
bald_single l = record { bytes = refl; middle = omega arith; large = omega arith }

-- the last string that k levels can have has none
bald_at : (k j : ℕ) (l : List Bool) (n : ℕ) → k ≤ j → Bald (get_or (map counts_of (tower k l) ++ replicate n no_counts) j no_counts)
unfolding tower
bald_at zero zero l n h = bald_single l
bald_at zero (suc j) l n h = subst Bald (sym (none_there n j)) bald
bald_at (suc k) zero l n h = absurd (not-suc-le-zero h)
bald_at (suc k) (suc j) l n h = go (bit (leb (length l) 64)) (bald_at k j (pioneer_string l) n (le_of_suc-le-suc h))
  where
    at : List Level → areas.Counts
    at t = get_or (map counts_of t ++ replicate n no_counts) (suc j) no_counts

    go : (leb (length l) 64 ≡ true) ⊎ (leb (length l) 64 ≡ false) → Bald (get_or (map counts_of (tower k (pioneer_string l)) ++ replicate n no_counts) j no_counts) → Bald (at (tower (suc k) l))
    go (inl e) ih = subst (λ t. Bald (at t)) (sym (tower_short (suc k) l e)) (subst Bald (sym (none_there n j)) bald)
    go (inr e) ih = subst (λ t. Bald (at t)) (sym (tower_long k l e)) ih

-- the counts of the others, in one place less
cut {ℓ} : {A : Type ℓ} (x : A) (a : List A) (n : ℕ) → length a ≤ n → take n (a ++ replicate (suc (n - length a)) x) ≡ a ++ replicate (n - length a) x
cut x [] n h = let e : n - 0 ≡ n = omega arith in ap (λ (m : ℕ). take n (replicate (suc m) x)) e ∙ whole n ∙ ap (λ (m : ℕ). replicate m x) (sym e)
  where
    whole : (n : ℕ) → take n (replicate (suc n) x) ≡ replicate n x
    whole zero = refl
    whole (suc n) = ap (λ t. x ∷ t) (whole n)
cut x (y ∷ a) zero h = absurd (not-suc-le-zero h)
cut x (y ∷ a) (suc n) h =
    let e : suc n - suc (length a) ≡ n - length a = omega arith in
    ap (λ (m : ℕ). y ∷ take n (a ++ replicate (suc m) x)) e ∙ ap (λ t. y ∷ t) (cut x a n (le_of_suc-le-suc h)) ∙ ap (λ (m : ℕ). y ∷ (a ++ replicate m x)) (sym e)

length_map {ℓ κ} : {A : Type ℓ} {B : Type κ} (f : A → B) (l : List A) → length (map f l) ≡ length l
length_map f [] = refl
length_map f (x ∷ l) = ap suc (length_map f l)

counted_more : (v : Level) (t : List Level) → length t ≤ 4 → counted (v ∷ t) ≡ counts_of v ∷ take 4 (counted t)
unfolding counted
counted_more v t h =
    let u : 5 - suc (length t) ≡ 4 - length t = omega arith in
    let w : 5 - length t ≡ suc (4 - length t) = omega arith in
    let c = cut no_counts (map counts_of t) 4 (omega (arith, length_map counts_of t)) in
    let m = length_map counts_of t in
    ap (λ (n : ℕ). counts_of v ∷ (map counts_of t ++ replicate n no_counts)) u
    ∙ ap (λ s. counts_of v ∷ s)
    (ap (λ (n : ℕ). map counts_of t ++ replicate (4 - n) no_counts) (sym m) ∙ sym c
    ∙ ap (λ (n : ℕ). take 4 (map counts_of t ++ replicate (suc (4 - n)) no_counts)) m ∙ ap (λ (n : ℕ). take 4 (map counts_of t ++ replicate n no_counts)) (sym w))

pub counts_last : (l : List Bool) (c : Counts) → c ≡ alone_of (length l) → (tree_in c).counts ≡ counted (single l ∷ [])
unfolding tree_in counted counts_of
counts_last l c e = ap (λ (x : Counts). (tree_in x).counts) e

counts_ext : (a b : areas.Counts) → a.bits ≡ b.bits → a.bytes ≡ b.bytes → a.middle ≡ b.middle → a.large ≡ b.large → a ≡ b
counts_ext a b p q r s = λ i. record { bits = p i; bytes = q i; middle = r i; large = s i }

pub counts_more : (k : ℕ) (l p : List Bool) (m : ℕ) (d : SparseOneNnd) (c : Counts) → k ≤ 3 → m ≡ length l → entries_in d ≡ entries_of (dict_of (flags l))
    → (tree_in c).counts ≡ counted (tower k p) → (tree_in (shifted m d c)).counts ≡ counted (famous l ∷ tower k p)
unfolding tree_in counted counts_of entries_of
counts_more k l p m d c h e f g =
    ap₂ (λ x y. x ∷ level_in c 0 ∷ level_in c 1 ∷ level_in c 2 ∷ y ∷ []) first fourth
    ∙ ap (λ t. counts_of (famous l) ∷ take 4 t) g
    ∙ sym (counted_more (famous l) (tower k p) (omega (arith, tower_size k p)))
  where
    first : level_in (shifted m d c) 0 ≡ counts_of (famous l)
    first =
        counts_ext (level_in (shifted m d c) 0) (counts_of (famous l)) e (ap (λ (x : Entries). x.bytes) f) (ap (λ (x : Entries). x.middle) f) (ap (λ (x : Entries). x.large) f)

    none : Bald (level_in c 3)
    none = subst (λ t. Bald (get_or t 3 no_counts)) (sym g) (bald_at k 3 p (5 - length (tower k p)) h)

    fourth : last_in (shifted m d c) ≡ level_in c 3
    fourth = counts_ext (last_in (shifted m d c)) (level_in c 3) refl (sym none.bytes) (sym none.middle) (sym none.large)

-- ---- sizes

pub sizes_last : (l : List Bool) (s : Sizes) → s ≡ sizes_of (length l) → SizesAre s (single l ∷ [])
unfolding area_words area_bytes area_middle area_large joined
sizes_last l s e =
    subst (λ x. SizesAre x (single l ∷ [])) (sym e)
    (record {
      words = sym (length-append (words_of l) [] ∙ omega (arith, length_words l));
      bytes = refl;
      middle = refl;
      large = refl;
    })

-- two to an entry
pub even_middle : (f : List Bool) → 2 * (length (dict_of f).middle / 2) ≡ length (dict_of f).middle
unfolding dict_of dict_with
even_middle f = omega (arith, length_pair_up (middle_pos f) (middle_rank f) 0 ((block_count f + 7) / 8))

pub even_large : (f : List Bool) → 2 * (length (dict_of f).large / 2) ≡ length (dict_of f).large
unfolding dict_of dict_with
even_large f = omega (arith, length_pair_up (large_pos f) (large_rank f) 0 ((block_count f + 255) / 256))

module _ (l : List Bool) (t : List Level) (m : ℕ) (d : SparseOneNnd) (s : Sizes) (e : m ≡ length l) (f : entries_in d ≡ entries_of (dict_of (flags l))) (a : SizesAre s t) where
  pub sizes_more : SizesAre (added s m d) (famous l ∷ t)
  unfolding area_words area_bytes area_middle area_large joined entries_of
  sizes_more =
      record {
        words = sym (length-append (words_of l) (area_words t) ∙ omega (arith, length_words l, a.words));
        bytes = sym (length-append (dict_of (flags l)).bytes (area_bytes t) ∙ omega (arith, a.bytes, ap (λ (x : Entries). x.bytes) f));
        middle = sym (length-append (dict_of (flags l)).middle (area_middle t) ∙ omega (arith, a.middle, even_middle (flags l), ap (λ (x : Entries). x.middle) f));
        large = sym (length-append (dict_of (flags l)).large (area_large t) ∙ omega (arith, a.large, even_large (flags l), ap (λ (x : Entries). x.large) f));
      }

  -- no sum overflows
  pub sizes_small : Within (famous l ∷ t) 4000000 4000000 4000000 4000000 → Small s d
  unfolding area_words area_bytes area_middle area_large joined entries_of
  sizes_small w =
      record {
        words = omega (arith, a.words, w.words, length-append (words_of l) (area_words t));
        bytes =
            let q = length-append (dict_of (flags l)).bytes (area_bytes t) in
            (omega (arith, a.bytes, w.bytes, q), omega (arith, w.bytes, q, ap (λ (x : Entries). x.bytes) f));
        middles =
            let q = length-append (dict_of (flags l)).middle (area_middle t) in
            (omega (arith, a.middle, w.middle, q), omega (arith, w.middle, q, ap (λ (x : Entries). x.middle) f));
        larges =
            let q = length-append (dict_of (flags l)).large (area_large t) in
            (omega (arith, a.large, w.large, q), omega (arith, w.large, q, ap (λ (x : Entries). x.large) f));
      }

pub few_areas : (k : ℕ) (l : List Bool) → k ≤ 4 → Walk 0 l 0 → length l ≤ 2097152 → Within (tower k l) 4000000 4000000 4000000 4000000
unfolding words_up bytes_up middle_up large_up
few_areas k l h w n = go k h (tower_within k l w 32768 (omega arith))
  where
    go : (k : ℕ) → k ≤ 4 → Within (tower k l) (words_up k 32768) (bytes_up k 32768) (middle_up k 32768) (large_up k 32768) → Within (tower k l) 4000000 4000000 4000000 4000000
    go zero h r = record { words = omega (arith, r.words); bytes = omega (arith, r.bytes); middle = omega (arith, r.middle); large = omega (arith, r.large) }
    go (suc zero) h r = record { words = omega (arith, r.words); bytes = omega (arith, r.bytes); middle = omega (arith, r.middle); large = omega (arith, r.large) }
    go (suc (suc zero)) h r = record { words = omega (arith, r.words); bytes = omega (arith, r.bytes); middle = omega (arith, r.middle); large = omega (arith, r.large) }
    go (suc (suc (suc zero))) h r = record { words = omega (arith, r.words); bytes = omega (arith, r.bytes); middle = omega (arith, r.middle); large = omega (arith, r.large) }
    go (suc (suc (suc (suc zero)))) h r = record { words = omega (arith, r.words); bytes = omega (arith, r.bytes); middle = omega (arith, r.middle); large = omega (arith, r.large) }
    go (suc (suc (suc (suc (suc k))))) h r = absurd (omega arith)
