-- The second pass: runs of stores past o entries of each kind, and what the loops know.
use mathlib.Core.Path.{◌≡◌, refl, sym, ap, ap₂, ◌∙◌}
use mathlib.Core.Bool.{Bool}
use mathlib.Core.List.{List, [], ◌∷◌, ◌++◌, append-nil}
use Prim.Native.Nat.{ℕ, zero, suc, ◌+◌, ◌*◌, ◌-◌, ◌/◌, ◌%◌, ◌≤◌, ◌<◌, min}
use native.Mathlib.Decide.{dec_le}
use native.Mathlib.Nat.{add-zero}
use native.Mathlib.Numerals.{add-one}
use native.Mathlib.Omega.{arith}
use lib.ListN.{length, take, drop, set, length-append, length-set, length-take, length-drop}
use lib.Seq.{sets, length-sets}
use borrow.Author.Tests.{eq-eqb, ne_eqb}
use Rattle.meaning.specs.Bits.{opens, places, bits_of}
use Rattle.meaning.specs.Dictionary.{block, bytes_of, byte_pos, ones_to, pair_up, large_pos, large_rank, middle_pos, middle_rank, dict_with}
use Rattle.meaning.proofs.If.{if_true, if_false}
use Rattle.meaning.proofs.Runs.{sets_more}
use Rattle.meaning.proofs.Rank.{length_places, bytes_add, pos_le, ones_le, length_pair_up}
use Rattle.meaning.proofs.Stored.{length_bits}
use Rattle.sparse_one_nnd.specs.declared.SparseOneNnd.{SparseOneNnd}
use Rattle.sparse_one_nnd.specs.declared.second_pass.Writing.{Writing}
use Rattle.sparse_one_nnd.specs.Writing.{block_at, Writable, large_state, large_area, middle_area, passed, Near, BlockFits}
use Rattle.sparse_one_nnd.specs.Offsets.{OffsetsFit}
use Rattle.sparse_one_nnd.proofs.Blocks.{opens_le, block_words, next_ones}

-- a block: its count and then its offsets, from its own words
module _ (ws : List ℕ) (n b k : ℕ) (e : k ≡ min 256 (n - 256 * b)) (own : List ℕ) (p : own ≡ drop (4 * b) ws) where
  own_bits : bits_of own k ≡ block_at ws n b
  own_bits = ap (λ (l : List ℕ). bits_of l k) p ∙ block_words ws n b k e

  pub block_fits : (at c : ℕ) (B C : List ℕ) → n ≤ 64 * length ws → 256 * b ≤ n → at + 1 + opens (block_at ws n b) ≤ length B → C ≡ set B at c
      → OffsetsFit own C k (at + 1)
  block_fits at c B C inside here room q =
      record {
        inside = omega (arith, ap length p, length-drop (4 * b) ws);
        small = omega arith;
        room = omega (arith, ap length q, length-set B at c, ap opens own_bits);
      }

  pub block_put : (at c : ℕ) (B C E : List ℕ) → c ≡ opens (block_at ws n b) → C ≡ set B at c
      → E ≡ sets C (at + 1) (places 0 (bits_of own k)) → E ≡ sets B at (block (block_at ws n b))
  unfolding block
  block_put at c B C E f q w =
      w
      ∙ ap (λ (l : List ℕ). sets l (at + 1) (places 0 (bits_of own k))) q
      ∙ ap (λ (i : ℕ). sets (set B at c) i (places 0 (bits_of own k))) (add-one at)
      ∙ ap₂ (λ (j : ℕ) (o : List ℕ). sets (set B at j) (suc at) o) (f ∙ sym (length_places 0 (block_at ws n b))) (ap (places 0) own_bits)

-- a block more
bytes_next : (l : List Bool) (b : ℕ) → bytes_of (b + 1) l ≡ bytes_of b l ++ block (take 256 (drop (256 * b) l))
unfolding bytes_of
bytes_next l b = bytes_add b 1 l ∙ ap (λ (t : List ℕ). bytes_of b l ++ t) (append-nil (block (take 256 (drop (256 * b) l))))

pos_next : (l : List Bool) (b : ℕ) → byte_pos l (b + 1) ≡ byte_pos l b + 1 + opens (take 256 (drop (256 * b) l))
unfolding byte_pos block
pos_next l b =
    omega (
      arith,
      ap length (bytes_next l b),
      length-append (bytes_of b l) (block (take 256 (drop (256 * b) l))),
      length_places 0 (take 256 (drop (256 * b) l)),
    )

ones_to_next : (l : List Bool) (b : ℕ) → ones_to l (b + 1) ≡ ones_to l b + opens (take 256 (drop (256 * b) l))
unfolding ones_to
ones_to_next l b = next_ones l b

pairs_snoc : (f g : ℕ → ℕ) (j k : ℕ) → pair_up f g j (suc k) ≡ pair_up f g j k ++ (f (j + k) ∷ g (j + k) ∷ [])
unfolding pair_up
pairs_snoc f g j zero = ap (λ (i : ℕ). f i ∷ g i ∷ []) (sym (add-zero j))
pairs_snoc f g j (suc k) =
    let u : suc j + k ≡ j + suc k = omega arith in
    ap (λ (t : List ℕ). f j ∷ g j ∷ t) (pairs_snoc f g (suc j) k ∙ ap (λ (i : ℕ). pair_up f g (suc j) k ++ (f i ∷ g i ∷ [])) u)

pairs_next : (f g : ℕ → ℕ) (k : ℕ) → pair_up f g 0 (k + 1) ≡ pair_up f g 0 k ++ (f k ∷ g k ∷ [])
pairs_next f g k =
    let u : 0 + k ≡ k = omega arith in
    ap (pair_up f g 0) (add-one k) ∙ pairs_snoc f g 0 k ∙ ap (λ (i : ℕ). pair_up f g 0 k ++ (f i ∷ g i ∷ [])) u

-- one entry more of two numbers, past o entries
entry_more : (E E₀ : List ℕ) (f g : ℕ → ℕ) (o q x y : ℕ) → E ≡ sets E₀ (2 * o) (pair_up f g 0 q) → x ≡ f q → y ≡ g q
    → set (set E (2 * (o + q)) x) (2 * (o + q) + 1) y ≡ sets E₀ (2 * o) (pair_up f g 0 (q + 1))
entry_more E E₀ f g o q x y e u v =
    ap (λ (j : ℕ). set (set E (2 * (o + q)) x) j y) (add-one (2 * (o + q)))
    ∙ ap (λ (t : List ℕ). sets t (2 * (o + q)) (x ∷ y ∷ [])) e
    ∙ sets_more E₀ (2 * o) (2 * (o + q)) (pair_up f g 0 q) (x ∷ y ∷ []) (omega (arith, length_pair_up f g 0 q))
    ∙ ap₂ (λ (x y : ℕ). sets E₀ (2 * o) (pair_up f g 0 q ++ (x ∷ y ∷ []))) u v
    ∙ ap (sets E₀ (2 * o)) (sym (pairs_next f g q))

-- near the large entry: no block has more than 255 ones
module _ (l : List Bool) (short : (b : ℕ) → opens (take 256 (drop (256 * b) l)) < 256) where
  pos_near : (a d : ℕ) → byte_pos l (a + d) ≤ byte_pos l a + 256 * d
  pos_near a zero = let u : a + 0 ≡ a = omega arith in omega (arith, ap (byte_pos l) u)
  pos_near a (suc d) =
      let u : a + suc d ≡ (a + d) + 1 = omega arith in
      omega (arith, ap (byte_pos l) u, pos_next l (a + d), pos_near a d, short (a + d))

  ones_near : (a d : ℕ) → ones_to l (a + d) ≤ ones_to l a + 256 * d
  ones_near a zero = let u : a + 0 ≡ a = omega arith in omega (arith, ap (ones_to l) u)
  ones_near a (suc d) =
      let u : a + suc d ≡ (a + d) + 1 = omega arith in
      omega (arith, ap (ones_to l) u, ones_to_next l (a + d), ones_near a d, short (a + d))

-- the loop of the second pass at block b
pub record Written (l : List Bool) (o : SparseOneNnd) (B₀ M₀ L₀ B M L : List ℕ) (s : Writing) (b : ℕ) : Type 0 where
  pub at : s.at ≡ byte_pos l b
  pub rank : s.rank ≡ ones_to l b
  pub home : s.home ≡ large_pos l ((b - 1) / 256)
  pub base : s.base ≡ large_rank l ((b - 1) / 256)
  pub bytes : B ≡ sets B₀ o.bytes (bytes_of b l)
  pub middles : M ≡ sets M₀ (2 * o.middles) (pair_up (middle_pos l) (middle_rank l) 0 ((b + 7) / 8))
  pub larges : L ≡ sets L₀ (2 * o.larges) (pair_up (large_pos l) (large_rank l) 0 ((b + 255) / 256))

pub write_start : (l : List Bool) (o : SparseOneNnd) (B M L : List ℕ) → Written l o B M L B M L (record { at = 0; rank = 0; home = 0; base = 0 }) 0
unfolding byte_pos ones_to large_pos large_rank bytes_of pair_up opens
write_start l o B M L = record { at = refl; rank = refl; home = refl; base = refl; bytes = refl; middles = refl; larges = refl }

-- after the large entry of block b
record Large (l : List Bool) (s : Writing) (b : ℕ) : Type 0 where
  at : s.at ≡ byte_pos l b
  rank : s.rank ≡ ones_to l b
  home : s.home ≡ large_pos l (b / 256)
  base : s.base ≡ large_rank l (b / 256)

module _ {l : List Bool} {o : SparseOneNnd} {B₀ M₀ L₀ B M L : List ℕ} {s : Writing} {b : ℕ} (w : Written l o B₀ M₀ L₀ B M L s b) where
  pub written_bytes : length B ≡ length B₀
  written_bytes = ap length w.bytes ∙ length-sets B₀ o.bytes (bytes_of b l)

  pub written_middles : length M ≡ length M₀
  written_middles = ap length w.middles ∙ length-sets M₀ (2 * o.middles) (pair_up (middle_pos l) (middle_rank l) 0 ((b + 7) / 8))

  pub written_larges : length L ≡ length L₀
  written_larges = ap length w.larges ∙ length-sets L₀ (2 * o.larges) (pair_up (large_pos l) (large_rank l) 0 ((b + 255) / 256))

  large_state_lem : (t : Writing) → t ≡ large_state b s → Large l t b
  unfolding large_pos large_rank
  large_state_lem t e = go (dec_le (b % 256) 0)
    where
      go : Dec (b % 256 ≤ 0) → Large l t b
      go (yes h) =
          let u : b ≡ 256 * (b / 256) = omega arith in
          let q : t ≡ record { at = s.at; rank = s.rank; home = s.at; base = s.rank } = e ∙ if_true _ _ (eq-eqb (b % 256) 0 (omega arith)) in
          rw q (record { at = w.at; rank = w.rank; home = w.at ∙ ap (byte_pos l) u; base = w.rank ∙ ap (ones_to l) u })
      go (no h) =
          let u : (b - 1) / 256 ≡ b / 256 = omega arith in
          let q : t ≡ s = e ∙ if_false _ _ (ne_eqb (b % 256) 0 (λ z. omega arith)) in
          rw q (
          record {
            at = w.at;
            rank = w.rank;
            home = w.home ∙ ap (λ (k : ℕ). byte_pos l (256 * k)) u;
            base = w.base ∙ ap (λ (k : ℕ). ones_to l (256 * k)) u;
          }
          )

  large_area_lem : (E : List ℕ) → E ≡ large_area o.larges b s L → E ≡ sets L₀ (2 * o.larges) (pair_up (large_pos l) (large_rank l) 0 ((b + 1 + 255) / 256))
  unfolding large_pos large_rank
  large_area_lem E e = go (dec_le (b % 256) 0)
    where
      go : Dec (b % 256 ≤ 0) → E ≡ sets L₀ (2 * o.larges) (pair_up (large_pos l) (large_rank l) 0 ((b + 1 + 255) / 256))
      go (yes h) =
          let q : (b + 255) / 256 ≡ b / 256 = omega arith in
          let k : b / 256 + 1 ≡ (b + 1 + 255) / 256 = omega arith in
          let u : b ≡ 256 * (b / 256) = omega arith in
          e ∙ if_true _ _ (eq-eqb (b % 256) 0 (omega arith))
          ∙ entry_more L L₀ (large_pos l) (large_rank l) o.larges (b / 256) s.at s.rank
          (w.larges ∙ ap (λ (j : ℕ). sets L₀ (2 * o.larges) (pair_up (large_pos l) (large_rank l) 0 j)) q) (w.at ∙ ap (byte_pos l) u)
          (w.rank ∙ ap (ones_to l) u)
          ∙ ap (λ (j : ℕ). sets L₀ (2 * o.larges) (pair_up (large_pos l) (large_rank l) 0 j)) k
      go (no h) =
          let k : (b + 255) / 256 ≡ (b + 1 + 255) / 256 = omega arith in
          e ∙ if_false _ _ (ne_eqb (b % 256) 0 (λ z. omega arith)) ∙ w.larges
          ∙ ap (λ (j : ℕ). sets L₀ (2 * o.larges) (pair_up (large_pos l) (large_rank l) 0 j)) k

  middle_area_lem : (t : Writing) (E : List ℕ) → Large l t b → E ≡ middle_area o.middles b t M
      → E ≡ sets M₀ (2 * o.middles) (pair_up (middle_pos l) (middle_rank l) 0 ((b + 1 + 7) / 8))
  unfolding middle_pos middle_rank
  middle_area_lem t E g e = go (dec_le (b % 8) 0)
    where
      go : Dec (b % 8 ≤ 0) → E ≡ sets M₀ (2 * o.middles) (pair_up (middle_pos l) (middle_rank l) 0 ((b + 1 + 7) / 8))
      go (yes h) =
          let q : (b + 7) / 8 ≡ b / 8 = omega arith in
          let k : b / 8 + 1 ≡ (b + 1 + 7) / 8 = omega arith in
          let u : b ≡ 8 * (b / 8) = omega arith in
          let v : b / 256 ≡ b / 8 / 32 = omega arith in
          e ∙ if_true _ _ (eq-eqb (b % 8) 0 (omega arith))
          ∙ entry_more M M₀ (middle_pos l) (middle_rank l) o.middles (b / 8) (t.at - t.home) (t.rank - t.base)
          (w.middles ∙ ap (λ (j : ℕ). sets M₀ (2 * o.middles) (pair_up (middle_pos l) (middle_rank l) 0 j)) q)
          (ap₂ ◌-◌ (g.at ∙ ap (byte_pos l) u) (g.home ∙ ap (large_pos l) v)) (ap₂ ◌-◌ (g.rank ∙ ap (ones_to l) u) (g.base ∙ ap (large_rank l) v))
          ∙ ap (λ (j : ℕ). sets M₀ (2 * o.middles) (pair_up (middle_pos l) (middle_rank l) 0 j)) k
      go (no h) =
          let k : (b + 7) / 8 ≡ (b + 1 + 7) / 8 = omega arith in
          e ∙ if_false _ _ (ne_eqb (b % 8) 0 (λ z. omega arith)) ∙ w.middles
          ∙ ap (λ (j : ℕ). sets M₀ (2 * o.middles) (pair_up (middle_pos l) (middle_rank l) 0 j)) k

  pub write_on : (t r : Writing) (B' M' L' : List ℕ) → t ≡ large_state b s → L' ≡ large_area o.larges b s L → M' ≡ middle_area o.middles b t M
      → r ≡ passed t (opens (take 256 (drop (256 * b) l))) → B' ≡ sets B (o.bytes + t.at) (block (take 256 (drop (256 * b) l)))
      → Written l o B₀ M₀ L₀ B' M' L' r (b + 1)
  unfolding byte_pos
  write_on t r B' M' L' e el em er eb =
      let g = large_state_lem t e in
      let v : b / 256 ≡ (b + 1 - 1) / 256 = omega arith in
      rw er (
      record {
        at = ap (λ (k : ℕ). k + 1 + opens (take 256 (drop (256 * b) l))) g.at ∙ sym (pos_next l b);
        rank = ap (λ (k : ℕ). k + opens (take 256 (drop (256 * b) l))) g.rank ∙ sym (ones_to_next l b);
        home = g.home ∙ ap (large_pos l) v;
        base = g.base ∙ ap (large_rank l) v;
        bytes =
            eb ∙ ap (λ (x : List ℕ). sets x (o.bytes + t.at) (block (take 256 (drop (256 * b) l)))) w.bytes
            ∙ sets_more B₀ o.bytes (o.bytes + t.at) (bytes_of b l) (block (take 256 (drop (256 * b) l)))
            (ap (λ (k : ℕ). o.bytes + k) g.at)
            ∙ ap (sets B₀ o.bytes) (sym (bytes_next l b));
        middles = middle_area_lem t M' g em;
        larges = large_area_lem L' el;
      }
      )

-- what the second pass asks of its parts
module _ {ws : List ℕ} {n blocks : ℕ} {o : SparseOneNnd} {B₀ M₀ L₀ B M L : List ℕ} {s : Writing} {b : ℕ} (p : Writable ws n blocks o B₀ M₀ L₀)
    (w : Written (bits_of ws n) o B₀ M₀ L₀ B M L s b) (h : b < blocks) where
  pub large_room : 2 * (o.larges + b / 256) + 1 < length L
  large_room = omega (arith, p.larges (omega arith), written_larges w)

  module _ (t : Writing) (e : t ≡ large_state b s) where
    pub near_of : Near o.middles b t M
    unfolding large_pos large_rank
    near_of =
        let g = large_state_lem w t e in
        let u : b ≡ 256 * (b / 256) + b % 256 = omega arith in
        let l : List Bool = bits_of ws n in
        record {
          room = omega (arith, p.middles (omega arith), written_middles w);
          at = omega (arith, g.at, g.home, pos_le (bits_of ws n) (256 * (b / 256)) b (omega arith));
          at_near = omega (arith, g.at, g.home, ap (byte_pos (bits_of ws n)) u, pos_near (bits_of ws n) p.short (256 * (b / 256)) (b % 256));
          rank = omega (arith, g.rank, g.base, ones_le (bits_of ws n) (256 * (b / 256)) b (omega arith));
          rank_near = omega (arith, g.rank, g.base, ap (ones_to (bits_of ws n)) u, ones_near (bits_of ws n) p.short (256 * (b / 256)) (b % 256));
        }

    pub block_of : BlockFits ws n o.bytes b t B
    unfolding byte_pos ones_to
    block_of =
        let g = large_state_lem w t e in
        record {
          inside = p.inside;
          few = p.few;
          here = omega (arith, p.within);
          short = p.short b;
          room =
              omega (arith, p.bytes (omega arith), written_bytes w, g.at, pos_next (bits_of ws n) b, pos_le (bits_of ws n) (b + 1) blocks (omega arith));
          rank = omega (arith, p.few, g.rank, opens_le (take (256 * b) (bits_of ws n)), length-take (256 * b) (bits_of ws n), length_bits ws n);
        }

module _ {l : List Bool} {o : SparseOneNnd} {B₀ M₀ L₀ B M L : List ℕ} {s : Writing} {b : ℕ} (w : Written l o B₀ M₀ L₀ B M L s b) (blocks : ℕ) (e : b ≡ blocks) where
  pub end_bytes : B ≡ sets B₀ o.bytes (dict_with l blocks).bytes
  unfolding dict_with
  end_bytes = w.bytes ∙ ap (λ (k : ℕ). sets B₀ o.bytes (bytes_of k l)) e

  pub end_middles : M ≡ sets M₀ (2 * o.middles) (dict_with l blocks).middle
  unfolding dict_with
  end_middles = w.middles ∙ ap (λ (k : ℕ). sets M₀ (2 * o.middles) (pair_up (middle_pos l) (middle_rank l) 0 ((k + 7) / 8))) e

  pub end_larges : L ≡ sets L₀ (2 * o.larges) (dict_with l blocks).large
  unfolding dict_with
  end_larges = w.larges ∙ ap (λ (k : ℕ). sets L₀ (2 * o.larges) (pair_up (large_pos l) (large_rank l) 0 ((k + 255) / 256))) e

-- an entry of block b, or none
module _ (o b : ℕ) (s : Writing) where
  pub large_yes : b % 256 ≡ 0 → record { at = s.at; rank = s.rank; home = s.at; base = s.rank } ≡ large_state b s
  large_yes h = sym (if_true _ _ (eq-eqb (b % 256) 0 h))

  pub large_no : (b % 256 ≡ 0 → ⊥) → s ≡ large_state b s
  large_no h = sym (if_false _ _ (ne_eqb (b % 256) 0 h))

  module _ (E : List ℕ) where
    pub large_put : (x y : ℕ) → b % 256 ≡ 0 → x ≡ s.at → y ≡ s.rank → set (set E (2 * (o + b / 256)) x) (2 * (o + b / 256) + 1) y ≡ large_area o b s E
    large_put x y h u v =
        ap₂ (λ (x y : ℕ). set (set E (2 * (o + b / 256)) x) (2 * (o + b / 256) + 1) y) u v ∙ sym (if_true _ _ (eq-eqb (b % 256) 0 h))

    pub large_not : (b % 256 ≡ 0 → ⊥) → E ≡ large_area o b s E
    large_not h = sym (if_false _ _ (ne_eqb (b % 256) 0 h))

    pub middle_put : (x y : ℕ) → b % 8 ≡ 0 → x ≡ s.at - s.home → y ≡ s.rank - s.base
        → set (set E (2 * (o + b / 8)) x) (2 * (o + b / 8) + 1) y ≡ middle_area o b s E
    middle_put x y h u v =
        ap₂ (λ (x y : ℕ). set (set E (2 * (o + b / 8)) x) (2 * (o + b / 8) + 1) y) u v ∙ sym (if_true _ _ (eq-eqb (b % 8) 0 h))

    pub middle_not : (b % 8 ≡ 0 → ⊥) → E ≡ middle_area o b s E
    middle_not h = sym (if_false _ _ (ne_eqb (b % 8) 0 h))
