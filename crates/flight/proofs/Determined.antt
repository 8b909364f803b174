-- Any two outcomes that the contract of a public function allows agree: what is returned, and all that is lent to be written.
use mathlib.Core.Path.{◌≡◌, sym, ap, ◌∙◌}
use mathlib.Core.List.{List}
use Prim.Native.Nat.{ℕ}
use Rattle.meaning.specs.Determined.{Determined}
use Rattle.flight.specs.Calls.{Call, Made}
use Rattle.flight.proofs.asks.oscjardum_root.Reads as root
use Rattle.flight.proofs.asks.oscjardum_root.Kinds as root_kinds
use Rattle.flight.proofs.asks.oscjardum_first_child.Reads as first_child
use Rattle.flight.proofs.asks.oscjardum_first_child.Kinds as first_child_kinds
use Rattle.flight.proofs.asks.oscjardum_next_sibling.Reads as next_sibling
use Rattle.flight.proofs.asks.oscjardum_next_sibling.Kinds as next_sibling_kinds
use Rattle.flight.proofs.asks.oscjardum_label.Reads as label
use Rattle.flight.proofs.asks.oscjardum_label.Kinds as label_kinds
use Rattle.flight.proofs.asks.oscjardum_leaf_count.Reads as leaf_count
use Rattle.flight.proofs.asks.oscjardum_leaf_count.Kinds as leaf_count_kinds
use Rattle.flight.proofs.asks.oscjardum_byte_size.Reads as byte_size
use Rattle.flight.proofs.asks.oscjardum_byte_size.Kinds as byte_size_kinds
use Rattle.flight.proofs.asks.oscjardum_nodes.Reads as nodes
use Rattle.flight.proofs.asks.oscjardum_nodes.Kinds as nodes_kinds
use Rattle.flight.proofs.asks.oscjardum_is_empty.Reads as is_empty
use Rattle.flight.proofs.asks.oscjardum_is_empty.Kinds as is_empty_kinds
use Rattle.flight.proofs.asks.oscjardum_close.Reads as close
use Rattle.flight.proofs.asks.oscjardum_close.Kinds as close_kinds
use Rattle.flight.proofs.asks.oscjardum_bit.Reads as bit
use Rattle.flight.proofs.asks.oscjardum_bit.Kinds as bit_kinds
use Rattle.flight.proofs.makes.oscjardum_build.Reads as build
use Rattle.flight.proofs.makes.oscjardum_build.Kinds as build_kinds
use Rattle.flight.proofs.makes.oscjardum_grow.Reads as grow
use Rattle.flight.proofs.makes.oscjardum_grow.Kinds as grow_kinds
use Rattle.flight.proofs.walks.oscjardum_walk.Reads as walk
use Rattle.flight.proofs.walks.oscjardum_walk.Kinds as walk_kinds

-- a question: what it returns, and `out`
calls_agree : {x y z : Call} → x ≡ z → y ≡ z → (x.returned ≡ y.returned) × (x.out ≡ y.out)
calls_agree p q = let g = p ∙ sym q in (ap (λ c. c.returned) g, ap (λ c. c.out) g)

pub oscjardum_root_determined : Determined _ root_kinds.ps root_kinds.r root.Asked root.Learnt (List ℕ) (λ κs e. e.0.now)
oscjardum_root_determined = record { asks_nothing = λ κs a. tt; agree = λ κs a z z' e e'. calls_agree }

pub oscjardum_first_child_determined : Determined _ first_child_kinds.ps first_child_kinds.r first_child.Asked first_child.Learnt
    (List ℕ) (λ κs e. e.1.1.1.1.1.1.1.1.0.now)
oscjardum_first_child_determined = record { asks_nothing = λ κs a. tt; agree = λ κs a z z' e e'. calls_agree }

pub oscjardum_next_sibling_determined : Determined _ next_sibling_kinds.ps next_sibling_kinds.r next_sibling.Asked next_sibling.Learnt
    (List ℕ) (λ κs e. e.1.1.1.1.1.1.1.1.0.now)
oscjardum_next_sibling_determined = record { asks_nothing = λ κs a. tt; agree = λ κs a z z' e e'. calls_agree }

pub oscjardum_label_determined : Determined _ label_kinds.ps label_kinds.r label.Asked label.Learnt
    (List ℕ) (λ κs e. e.1.1.1.1.1.1.1.1.0.now)
oscjardum_label_determined = record { asks_nothing = λ κs a. tt; agree = λ κs a z z' e e'. calls_agree }

pub oscjardum_leaf_count_determined : Determined _ leaf_count_kinds.ps leaf_count_kinds.r leaf_count.Asked leaf_count.Learnt
    (List ℕ) (λ κs e. e.1.1.1.1.1.1.1.1.0.now)
oscjardum_leaf_count_determined = record { asks_nothing = λ κs a. tt; agree = λ κs a z z' e e'. calls_agree }

pub oscjardum_byte_size_determined : Determined _ byte_size_kinds.ps byte_size_kinds.r byte_size.Asked byte_size.Learnt
    (List ℕ) (λ κs e. e.1.1.1.1.1.1.0.now)
oscjardum_byte_size_determined = record { asks_nothing = λ κs a. tt; agree = λ κs a z z' e e'. calls_agree }

pub oscjardum_nodes_determined : Determined _ nodes_kinds.ps nodes_kinds.r nodes.Asked nodes.Learnt
    (List ℕ) (λ κs e. e.1.1.1.1.1.1.0.now)
oscjardum_nodes_determined = record { asks_nothing = λ κs a. tt; agree = λ κs a z z' e e'. calls_agree }

pub oscjardum_is_empty_determined : Determined _ is_empty_kinds.ps is_empty_kinds.r is_empty.Asked is_empty.Learnt
    (List ℕ) (λ κs e. e.1.1.1.1.1.1.0.now)
oscjardum_is_empty_determined = record { asks_nothing = λ κs a. tt; agree = λ κs a z z' e e'. calls_agree }

pub oscjardum_close_determined : Determined _ close_kinds.ps close_kinds.r close.Asked close.Learnt
    (List ℕ) (λ κs e. e.1.1.1.1.1.1.1.0.now)
oscjardum_close_determined = record { asks_nothing = λ κs a. tt; agree = λ κs a z z' e e'. calls_agree }

pub oscjardum_bit_determined : Determined _ bit_kinds.ps bit_kinds.r bit.Asked bit.Learnt (List ℕ) (λ κs e. e.1.1.1.1.1.1.1.0.now)
oscjardum_bit_determined = record { asks_nothing = λ κs a. tt; agree = λ κs a z z' e e'. calls_agree }

-- a build or a growth: the areas, the record and `out`
abbrev lent : Made → List ℕ × List ℕ × List ℕ × List ℕ × List ℕ × List ℕ × List ℕ × List ℕ
lent x = let a = x.areas in (a.held.words, a.held.bytes, a.held.middle, a.held.large, a.labels, a.scratch, x.counts, x.out)

makes_agree : {x y z : Made} → x ≡ z → y ≡ z → (x.returned ≡ y.returned) × (lent x ≡ lent y)
makes_agree p q = let g = p ∙ sym q in (ap (λ c. c.returned) g, ap lent g)

pub oscjardum_build_determined : Determined _ build_kinds.ps build_kinds.r build.Asked build.Learnt
    (List ℕ × List ℕ × List ℕ × List ℕ × List ℕ × List ℕ × List ℕ × List ℕ) (λ κs e. (
      e.1.1.0.now,
      e.1.1.1.0.now,
      e.1.1.1.1.0.now,
      e.1.1.1.1.1.0.now,
      e.1.1.1.1.1.1.0.now,
      e.1.1.1.1.1.1.1.0.now,
      e.1.1.1.1.1.1.1.1.0.now,
      e.1.1.1.1.1.1.1.1.1.0.now,
    ))
oscjardum_build_determined = record { asks_nothing = λ κs a. tt; agree = λ κs a z z' e e'. makes_agree }

pub oscjardum_grow_determined : Determined _ grow_kinds.ps grow_kinds.r grow.Asked grow.Learnt
    (List ℕ × List ℕ × List ℕ × List ℕ × List ℕ × List ℕ × List ℕ × List ℕ) (λ κs e. (
      e.0.now,
      e.1.0.now,
      e.1.1.0.now,
      e.1.1.1.0.now,
      e.1.1.1.1.0.now,
      e.1.1.1.1.1.0.now,
      e.1.1.1.1.1.1.0.now,
      e.1.1.1.1.1.1.1.1.1.0.now,
    ))
oscjardum_grow_determined = record { asks_nothing = λ κs a. tt; agree = λ κs a z z' e e'. makes_agree }

-- the walk: scratch, the two lists and `out`
pub oscjardum_walk_determined : Determined _ walk_kinds.ps walk_kinds.r walk.Asked walk.Learnt
    (List ℕ × List ℕ × List ℕ × List ℕ) (λ κs e. (
      e.1.1.1.1.1.0.now,
      e.1.1.1.1.1.1.1.0.now,
      e.1.1.1.1.1.1.1.1.0.now,
      e.1.1.1.1.1.1.1.1.1.0.now,
    ))
oscjardum_walk_determined =
    record {
      asks_nothing = λ κs a. tt;
      agree = λ κs a z z' e e' p q. let g = p ∙ sym q in (ap (λ x. x.returned) g, ap (λ x. (x.scratch, x.levels, x.labels, x.out)) g);
    }
