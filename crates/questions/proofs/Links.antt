-- An edge: the open right after a place, and the label of the node there.
use mathlib.Core.Path.{◌≡◌, sym, ap, ◌∙◌}
use mathlib.Core.Bool.{Bool, true, false}
use mathlib.Core.Option.{none, some}
use mathlib.Core.List.{List}
use lib.Dec.{ltb}
use Prim.Native.Nat.{ℕ, suc, ◌+◌, ◌<◌, ◌≤◌}
use native.Mathlib.Numerals.{add-one}
use native.Mathlib.Omega.{arith}
use lib.ListN.{length, get_or, get_or-eq_default}
use borrow.Author.Tests.{le-ltb, lt-ltb}
use Rattle.meaning.specs.Answers.{Refusal, Answer, is, refused, broken, provided}
use Rattle.meaning.specs.Bits.{bits_of}
use Rattle.meaning.specs.Close.{test}
use Rattle.meaning.specs.Build.{Lent}
use Rattle.meaning.specs.Questions.{Edge, edge, labelled}
use Rattle.record.specs.declared.Counts.{Counts}
use Rattle.record.specs.Record.{tree_in}
use Rattle.meaning.proofs.Stored.{length_bits}

pub after_out : (ws : List ℕ) (n i : ℕ) → n ≤ i → none ≡ test (get_or (bits_of ws n) (i + 1) false) (some (i + 1))
unfolding test
after_out ws n i h =
    let u : length (bits_of ws n) ≤ i + 1 = omega (arith, length_bits ws n) in rw (get_or-eq_default (bits_of ws n) false u)

pub after_open : (ws : List ℕ) (n i : ℕ) (b : Bool) → b ≡ get_or (bits_of ws n) (i + 1) false → b ≡ true
    → some (i + 1) ≡ test (get_or (bits_of ws n) (i + 1) false) (some (i + 1))
unfolding test
after_open ws n i b e f = rw (sym e ∙ f)

pub after_shut : (ws : List ℕ) (n i : ℕ) (b : Bool) → b ≡ get_or (bits_of ws n) (i + 1) false → b ≡ false
    → none ≡ test (get_or (bits_of ws n) (i + 1) false) (some (i + 1))
unfolding test
after_shut ws n i b e f = rw (sym e ∙ f)

-- label k
module _ (us : List ℕ) (n k : ℕ) where
  pub label_lost : n ≤ k → refused broken ≡ provided (ltb k n) broken (is (get_or us k 0))
  unfolding provided
  label_lost h = rw (le-ltb k n h)

  pub label_kept : k < n → (b : ℕ) → b ≡ get_or us k 0 → is b ≡ provided (ltb k n) broken (is (get_or us k 0))
  unfolding provided
  label_kept h b e = rw (lt-ltb k n h) (ap is e)

-- the edge to the node at q of id k + 1
module _ (c : Counts) (a : Lent) (q k : ℕ) where
  pub edge_lost : (r : Refusal) → refused r ≡ provided (ltb k c.nodes) broken (is (get_or a.labels k 0)) → refused r ≡ labelled (tree_in c) a (some (record { place = q; id = suc k }))
  unfolding labelled provided tree_in
  edge_lost r e = go (ltb k c.nodes) e
    where
      go : (b : Bool) → refused r ≡ provided b broken (is (get_or a.labels k 0))
          → ◌≡◌ {A = Answer Edge} (refused r) (elim b [ true ↦ edge (record { place = q; id = suc k }) (get_or a.labels k 0) | false ↦ refused broken ])
      go true e = absurd cc
      go false e = let z : r ≡ broken = cc in ap refused z

  pub edge_kept : (b : ℕ) → is b ≡ provided (ltb k c.nodes) broken (is (get_or a.labels k 0))
      → edge (record { place = q; id = k + 1 }) b ≡ labelled (tree_in c) a (some (record { place = q; id = suc k }))
  unfolding labelled provided tree_in
  edge_kept b e = ap (λ i. edge (record { place = q; id = i }) b) (add-one k) ∙ go (ltb k c.nodes) e
    where
      go : (b' : Bool) → is b ≡ provided b' broken (is (get_or a.labels k 0))
          → ◌≡◌ {A = Answer Edge} (edge (record { place = q; id = suc k }) b) (elim b' [ true ↦ edge (record { place = q; id = suc k }) (get_or a.labels k 0) | false ↦ refused broken ])
      go true e = let z : b ≡ get_or a.labels k 0 = cc in ap (edge (record { place = q; id = suc k })) z
      go false e = absurd cc
