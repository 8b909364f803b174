-- The record that a call puts is the tree that the next call reads.
use mathlib.Core.Path.{◌≡◌, refl, sym, ap, subst}
use mathlib.Core.Bool.{Bool, true, false}
use mathlib.Core.List.{List, [], ◌∷◌, ◌++◌, map}
use Prim.Native.Nat.{ℕ, zero, suc, ◌-◌, ◌≤◌}
use native.Mathlib.Omega.{arith}
use lib.Dec.{leb}
use lib.ListN.{length, replicate}
use lib.Seq.{sets, sets-eq}
use Rattle.meaning.specs.Pioneers.{flags, keep}
use Rattle.meaning.specs.Dictionary.{dict_of}
use Rattle.meaning.specs.Family.{Level, no_dict, tower}
use Rattle.meaning.specs.String.{string}
use Rattle.meaning.specs.Areas.{Counts, counts_of, no_counts, counted}
use Rattle.meaning.specs.Build.{tree_of}
use Rattle.meaning.proofs.If.{if_true, if_false}
use Rattle.record.specs.Record.{tree_in}
use Rattle.record.specs.declared.Counts as code
use Rattle.flight.specs.Layout.{tree_at, numbers_of}

-- k counts, and then those of a string without a dictionary
Ends : ℕ → List Counts → Type 0
Ends zero cs = (n : ℕ) × (cs ≡ record { bits = n; bytes = 0; middle = 0; large = 0 } ∷ [])
Ends (suc k) cs = (c : Counts) × (ds : List Counts) × (cs ≡ c ∷ ds) × Ends k ds

-- the counts of some levels, zeros behind them
spread : ℕ → List Level → List Counts
spread k t = map counts_of t ++ replicate (suc k - length t) no_counts

none_ends : (k : ℕ) → Ends k (replicate (suc k) no_counts)
unfolding Ends
none_ends zero = (0, refl)
none_ends (suc k) = (no_counts, replicate (suc k) no_counts, refl, none_ends k)

spread_more : (k : ℕ) (v : Level) (t : List Level) → spread (suc k) (v ∷ t) ≡ counts_of v ∷ spread k t
unfolding spread
spread_more k v t =
    let e : suc (suc k) - suc (length t) ≡ suc k - length t = omega arith in
    ap (λ n. counts_of v ∷ (map counts_of t ++ replicate n no_counts)) e

tower_ends : (k : ℕ) (l : List Bool) → Ends k (spread k (tower k l))
unfolding Ends spread tower counts_of
tower_ends zero l = (length l, refl)
tower_ends (suc k) l = go (leb (length l) 64) refl (tower_ends k (keep (flags l) l))
  where
    go : (b : Bool) → leb (length l) 64 ≡ b → Ends k (spread k (tower k (keep (flags l) l))) → Ends (suc k) (spread (suc k) (tower (suc k) l))
    go true e h =
        let z : suc k ≡ suc k - zero = omega arith in
        subst (λ t. Ends (suc k) (spread (suc k) t)) (sym (if_true _ _ e))
        (counts_of (record { bits = l; dict = no_dict }), spread k [], spread_more k (record { bits = l; dict = no_dict }) [], subst (λ n. Ends k (replicate n no_counts)) z (none_ends k))
    go false e h =
        subst (λ t. Ends (suc k) (spread (suc k) t)) (sym (if_false _ _ e))
        (counts_of (record { bits = l; dict = dict_of (flags l) }), spread k (tower k (keep (flags l) l)), spread_more k (record { bits = l; dict = dict_of (flags l) }) (tower k (keep (flags l) l)), h)

module _ (r : List ℕ) (h : 18 ≤ length r) where
  -- five strings
  five : (n a : ℕ) (x y z w : Counts)
      → tree_at (sets r 0 (numbers_of (record { nodes = n; counts = x ∷ y ∷ z ∷ w ∷ record { bits = a; bytes = 0; middle = 0; large = 0 } ∷ [] })))
      ≡ record { nodes = n; counts = x ∷ y ∷ z ∷ w ∷ record { bits = a; bytes = 0; middle = 0; large = 0 } ∷ [] }
  unfolding tree_at numbers_of
  five n a x y z w = ap tree_at (sets-eq (numbers_of (record { nodes = n; counts = x ∷ y ∷ z ∷ w ∷ record { bits = a; bytes = 0; middle = 0; large = 0 } ∷ [] })) r 0 h)

  ends_read : (n : ℕ) (cs : List Counts) → Ends 4 cs → tree_at (sets r 0 (numbers_of (record { nodes = n; counts = cs }))) ≡ record { nodes = n; counts = cs }
  unfolding Ends
  ends_read n cs (x, ds, e, (y, es, f, (z, fs, g, (w, gs, i, (a, j))))) =
      let q : cs ≡ x ∷ y ∷ z ∷ w ∷ record { bits = a; bytes = 0; middle = 0; large = 0 } ∷ [] = cc in
      rw q (five n a x y z w)

  -- of an accepted list
  pub list_read : (vs : List ℕ) → tree_at (sets r 0 (numbers_of (tree_of vs))) ≡ tree_of vs
  unfolding tree_of counted spread
  list_read vs = ends_read (length vs) (counted (tower 4 (string vs))) (tower_ends 4 (string vs))

  -- of the code's own counts
  pub counts_read : (c : code.Counts) → tree_at (sets r 0 (numbers_of (tree_in c))) ≡ tree_in c
  unfolding tree_at numbers_of tree_in
  counts_read c = ap tree_at (sets-eq (numbers_of (tree_in c)) r 0 h)
