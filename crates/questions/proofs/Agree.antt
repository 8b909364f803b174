-- Any two outcomes that a contract allows agree: what is said tells the answer.
use mathlib.Core.Path.{◌≡◌}
use mathlib.Core.Bool.{Bool}
use Prim.Native.Nat.{ℕ}
use Rattle.std.specs.Prelude.{Option, Result}
use Rattle.refusal.specs.declared.Refusal.{Refusal}
use Rattle.refusal.specs.Said.{said_number, said_truth, found_number}
use Rattle.refusal.proofs.Agree.{same_number, same_truth, same_found, same_found_number}
use Rattle.questions.specs.Said.{edge_of, said_edge}
use Rattle.questions.specs.declared.Edge.{Edge}

-- an edge
edge_tells : (x y : Edge) → edge_of x ≡ edge_of y → x ≡ y
edge_tells x y e = λ i. record { node = record { place = (e i).node.place; id = (e i).node.id }; label = (e i).label }

pub edges_agree : (r s : Result (Option Edge) Refusal) → said_edge r ≡ said_edge s → r ≡ s
edges_agree r s e = same_found edge_of edge_tells r s e

-- a label
pub labels_agree : (r s : Result (Option ℕ) Refusal) → found_number r ≡ found_number s → r ≡ s
labels_agree r s e = same_found_number r s e

-- a number
pub numbers_agree : (r s : Result ℕ Refusal) → said_number r ≡ said_number s → r ≡ s
numbers_agree r s e = same_number r s e

-- yes or no
pub truths_agree : (r s : Result Bool Refusal) → said_truth r ≡ said_truth s → r ≡ s
truths_agree r s e = same_truth r s e
