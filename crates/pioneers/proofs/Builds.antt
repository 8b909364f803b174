-- A turn of the builder: the list has a node and it is put, or it is at its end.
use mathlib.Core.Path.{◌≡◌, refl, sym, ap, ◌∙◌, subst}
use mathlib.Core.Bool.{Bool, true, false, not}
use mathlib.Core.List.{List}
use Prim.Native.Nat.{ℕ, ◌+◌, ◌-◌, ◌≤◌, ◌<◌}
use native.Mathlib.Omega.{arith}
use lib.Dec.{T, ltb, ltb→lt, nltb→le}
use Rattle.std.specs.Prelude.{None, Some, is_some, unwrap_or}
use lib.ListN.{length}
use borrow.Author.Tests.{lt-ltb, le-ltb}
use Rattle.meaning.specs.Bits.{stored, pack}
use Rattle.meaning.specs.String.{string}
use Rattle.pioneers.specs.Node.{node_of, level_of, once_if, once_of, wrote_if, wrote_of, Allows}
use Rattle.pioneers.specs.Placed.{Opened}
use Rattle.pioneers.specs.declared.string.Builder.{Builder}
use Rattle.pioneers.proofs.Nodes.{Put, put_start, node_fits, put_next, put_done}

module _ (vs : List ℕ) (s : Builder) (h : s.nodes < length vs) where
  pub node_allowed : Allows vs s → (v : ℕ) → v ≡ level_of vs s → (v ≤ s.prev) × (s.bits + s.prev < 4294967296) × (s.nodes < 4294967296)
  node_allowed a v e = (subst (λ (m : ℕ). m ≤ s.prev) (sym e) (a.level h), a.bits, a.nodes)

  there : ltb s.nodes (length vs) ≡ true
  there = lt-ltb s.nodes (length vs) h

  pub once_more : (b : Builder) (v : ℕ) → v ≡ level_of vs s → b ≡ node_of s v → Some b ≡ once_of vs s
  once_more b v e f = ap (λ (z : Builder). Some z) (f ∙ ap (node_of s) e) ∙ ap (λ (t : Bool). once_if t vs s) (sym there)

  pub wrote_more : (ws zs : List ℕ) (v : ℕ) → v ≡ level_of vs s → zs ≡ stored ws (s.bits + (s.prev - v)) true → zs ≡ wrote_of vs ws s
  wrote_more ws zs v e f = f ∙ ap (λ (m : ℕ). stored ws (s.bits + (s.prev - m)) true) e ∙ ap (λ (t : Bool). wrote_if t vs ws s) (sym there)

module _ (vs : List ℕ) (s : Builder) (h : length vs ≤ s.nodes) where
  gone : ltb s.nodes (length vs) ≡ false
  gone = le-ltb s.nodes (length vs) h

  pub once_end : None ≡ once_of vs s
  once_end = ap (λ (t : Bool). once_if t vs s) (sym gone)

  pub wrote_end : (ws : List ℕ) → ws ≡ wrote_of vs ws s
  wrote_end ws = ap (λ (t : Bool). wrote_if t vs ws s) (sym gone)

-- the builder and the words as they stand before a turn
abbrev pub Stands : List ℕ → ℕ → Builder → List ℕ → Type 0
Stands vs k s ws = Put vs ws k s.nodes s.bits s.prev

abbrev pub first : Builder
first = record { nodes = 0; bits = 1; prev = 0 }

pub stands_first : (vs ws : List ℕ) → Opened vs ws → Stands vs (length ws) first ws
stands_first vs ws p = put_start vs p.zeros ws p.ready p.root

module _ (vs : List ℕ) (k : ℕ) (s : Builder) (ws : List ℕ) (p : Stands vs k s ws) where
  pub stands_allows : Allows vs s
  stands_allows =
      record {
        level = λ h. (node_fits vs ws k s.nodes s.bits s.prev (level_of vs s) p h refl).0;
        bits = omega (arith, p.count, p.few);
        nodes = omega (arith, p.within, p.few);
      }

  -- after a node
  on : (t : Bool) → (T t → s.nodes < length vs) → T (is_some (once_if t vs s)) → Stands vs k (unwrap_or (once_if t vs s) s) (wrote_if t vs ws s) × (length vs - (unwrap_or (once_if t vs s) s).nodes < length vs - s.nodes)
  on true h y = (
    put_next vs ws k s.nodes s.bits s.prev (level_of vs s) p (h tt) refl (wrote_if true vs ws s) (node_of s (level_of vs s)).bits (node_of s (level_of vs s)).prev (refl, refl) refl,
    omega (arith, h tt),
  )
  on false h y = absurd y

  pub stands_on : T (is_some (once_of vs s)) → Stands vs k (unwrap_or (once_of vs s) s) (wrote_of vs ws s) × (length vs - (unwrap_or (once_of vs s) s).nodes < length vs - s.nodes)
  stands_on = on (ltb s.nodes (length vs)) (ltb→lt s.nodes (length vs))

  -- at the end of the list
  at_end : (t : Bool) → (T (not t) → length vs ≤ s.nodes) → T (not (is_some (once_if t vs s))) → wrote_if t vs ws s ≡ pack k (string vs)
  at_end true h y = absurd y
  at_end false h y = put_done vs k ws s.nodes s.bits s.prev p (h tt) k refl

  pub stands_end : T (not (is_some (once_of vs s))) → wrote_of vs ws s ≡ pack k (string vs)
  stands_end = at_end (ltb s.nodes (length vs)) (nltb→le s.nodes (length vs))
