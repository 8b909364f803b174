-- From the first pass to a write, on each way, and from a write over zeros to a build.
use mathlib.Core.Path.{◌≡◌, sym, ap, ap₂, ◌∙◌}
use mathlib.Core.List.{List}
use Prim.Native.Nat.{ℕ, ◌+◌, ◌*◌, ◌-◌, ◌/◌, ◌≤◌, ◌<◌}
use native.Mathlib.Omega.{arith}
use lib.ListN.{length, replicate}
use lib.Seq.{sets}
use Rattle.meaning.specs.Answers.{Answer, is}
use Rattle.meaning.specs.Bits.{bits_of}
use Rattle.meaning.specs.Dictionary.{Dict, bytes_of, dict_of, dict_with}
use Rattle.meaning.specs.Refusals.{full_block}
use Rattle.meaning.specs.Direct.{Entries, DictRooms, DictAfter, DictAccepted, dict_rooms, dict_put, dict_zeroed, dict_write, dict_build}
use Rattle.std.specs.Prelude.{Ok, Err}
use Rattle.refusal.specs.declared.Refusal.{Refusal}
use Rattle.refusal.specs.declared.Refusal.TheVariants.{Room}
use Rattle.meaning.proofs.Narrow.{NoFull, no_full}
use Rattle.meaning.proofs.Stored.{length_bits}
use Rattle.meaning.proofs.Direct.{direct_room_1, direct_room_2, direct_room_3}
use Rattle.meaning.proofs.Planned.{write_refused, write_accepted, write_build}
use Rattle.sparse_one_nnd.specs.declared.SparseOneNnd.{SparseOneNnd}
use Rattle.sparse_one_nnd.specs.Said.{entries_in, dict_at, said_entries, after}
use Rattle.sparse_one_nnd.specs.Blocks.{Counted, Unplanned, counts_of}
use Rattle.sparse_one_nnd.specs.Writing.{Writable}
use Rattle.sparse_one_nnd.proofs.Plans.{counts_whole, counts_bytes, counts_middle, counts_large, counts_is, counts_blocks}

module _ {ws : List ℕ} {n blocks ones : ℕ} (q : Counted ws n blocks ones) (o : SparseOneNnd) (B M L : List ℕ) (c : SparseOneNnd)
    (e : entries_in c ≡ counts_of blocks ones) where
  abbrev rooms : DictRooms
  rooms = dict_rooms (entries_in o) (dict_at B M L)

  c_bytes : c.bytes ≡ length (dict_of (bits_of ws n)).bytes
  c_bytes = ap (λ (x : Entries). x.bytes) e ∙ sym (counts_bytes q)

  c_middles : 2 * c.middles ≡ length (dict_of (bits_of ws n)).middle
  c_middles = ap (λ (x : Entries). 2 * x.middle) e ∙ sym (counts_middle q)

  c_larges : 2 * c.larges ≡ length (dict_of (bits_of ws n)).large
  c_larges = ap (λ (x : Entries). 2 * x.large) e ∙ sym (counts_large q)

  pub room_1 : (r : ℕ) → r ≡ length B - o.bytes → r < c.bytes
      → after (said_entries (Err (Room 1))) (dict_at B M L) ≡ dict_write ws n (entries_in o) (dict_at B M L)
  unfolding dict_rooms
  room_1 r f h =
      sym (write_refused ws n (entries_in o) (dict_at B M L) _
      (direct_room_1 ws n rooms q.held.inside q.held.few q.narrow (omega (arith, c_bytes))))

  module _ (r : ℕ) (f : r ≡ length B - o.bytes) (h : c.bytes ≤ r) where
    pub room_2 : (s : ℕ) → s ≡ length M / 2 - o.middles → s < c.middles
        → after (said_entries (Err (Room 2))) (dict_at B M L) ≡ dict_write ws n (entries_in o) (dict_at B M L)
    unfolding dict_rooms
    room_2 s g k =
        sym (write_refused ws n (entries_in o) (dict_at B M L) _
        (direct_room_2 ws n rooms q.held.inside q.held.few q.narrow (omega (arith, c_bytes)) (omega (arith, c_middles))))

    module _ (s : ℕ) (g : s ≡ length M / 2 - o.middles) (k : c.middles ≤ s) where
      pub room_3 : (t : ℕ) → t ≡ length L / 2 - o.larges → t < c.larges
          → after (said_entries (Err (Room 3))) (dict_at B M L) ≡ dict_write ws n (entries_in o) (dict_at B M L)
      unfolding dict_rooms
      room_3 t u v =
          sym (write_refused ws n (entries_in o) (dict_at B M L) _
          (direct_room_3 ws n rooms q.held.inside q.held.few q.narrow (omega (arith, c_bytes)) (omega (arith, c_middles))
          (omega (arith, c_larges))))

      module _ (t : ℕ) (u : t ≡ length L / 2 - o.larges) (v : c.larges ≤ t) where
        pub writable : Writable ws n blocks o B M L
        unfolding NoFull
        writable =
            record {
              inside = q.held.inside;
              few = q.held.few;
              short = no_full (bits_of ws n) (ap (λ (k : ℕ). full_block (k / 256 + 1) 0 (bits_of ws n)) (length_bits ws n) ∙ q.narrow);
              within = counts_blocks q;
              bytes = λ p. omega (arith, size, ap (λ (x : Entries). x.bytes) e);
              middles = λ p. omega (arith, ap (λ (x : Entries). x.middle) e);
              larges = λ p. omega (arith, ap (λ (x : Entries). x.large) e);
            }
          where
            size : length (bytes_of blocks (bits_of ws n)) ≡ blocks + ones
            size = ap (λ (k : ℕ). length (bytes_of k (bits_of ws n))) q.count ∙ counts_whole q

        accepted : DictAccepted ws n (dict_rooms (entries_in o) (dict_at B M L))
        unfolding dict_rooms
        accepted =
            record {
              inside = q.held.inside;
              few = q.held.few;
              narrow = q.narrow;
              bytes = omega (arith, c_bytes);
              middle = omega (arith, c_middles);
              large = omega (arith, c_larges);
            }

        with_is : dict_with (bits_of ws n) blocks ≡ dict_of (bits_of ws n)
        unfolding dict_of
        with_is = ap (dict_with (bits_of ws n)) q.count

        pub made : (B' M' L' : List ℕ) → B' ≡ sets B o.bytes (dict_with (bits_of ws n) blocks).bytes
            → M' ≡ sets M (2 * o.middles) (dict_with (bits_of ws n) blocks).middle → L' ≡ sets L (2 * o.larges) (dict_with (bits_of ws n) blocks).large
            → after (said_entries (Ok c)) (dict_at B' M' L') ≡ dict_write ws n (entries_in o) (dict_at B M L)
        unfolding dict_put
        made B' M' L' x y z =
            ap₂ (λ (a : Answer Entries) (d : Dict). after a d) (ap is (e ∙ counts_is q)) areas
            ∙ sym (write_accepted ws n (entries_in o) (dict_at B M L) accepted)
          where
            areas : dict_at B' M' L' ≡ dict_put (entries_in o) (dict_of (bits_of ws n)) (dict_at B M L)
            areas = λ i.
                record {
                  bytes = (x ∙ ap (λ (d : Dict). sets B o.bytes d.bytes) with_is) i;
                  middle = (y ∙ ap (λ (d : Dict). sets M (2 * o.middles) d.middle) with_is) i;
                  large = (z ∙ ap (λ (d : Dict). sets L (2 * o.larges) d.large) with_is) i;
                }

-- what the first pass refuses
pub write_unplanned : (ws : List ℕ) (n : ℕ) (r : Refusal) → Unplanned ws n r → (o : SparseOneNnd) (B M L : List ℕ)
    → after (said_entries (Err r)) (dict_at B M L) ≡ dict_write ws n (entries_in o) (dict_at B M L)
write_unplanned ws n r u o B M L = sym (write_refused ws n (entries_in o) (dict_at B M L) _ (u.write (dict_rooms (entries_in o) (dict_at B M L))))

-- over zeros, past nothing
pub write_zeros : (ws : List ℕ) (n : ℕ) (B M L B' M' L' : List ℕ) (o : SparseOneNnd) (r : DictAfter) → B' ≡ replicate (length B) 0 → M' ≡ replicate (length M) 0
    → L' ≡ replicate (length L) 0 → entries_in o ≡ record { bytes = 0; middle = 0; large = 0 } → r ≡ dict_write ws n (entries_in o) (dict_at B' M' L')
    → r ≡ dict_build ws n (record { bytes = length B; middle = length M; large = length L })
unfolding dict_zeroed
write_zeros ws n B M L B' M' L' o r b m l e f =
    f ∙ ap₂ (dict_write ws n) e areas ∙ write_build ws n (record { bytes = length B; middle = length M; large = length L })
  where
    areas : dict_at B' M' L' ≡ dict_zeroed (record { bytes = length B; middle = length M; large = length L })
    areas = λ i. record { bytes = b i; middle = m i; large = l i }
