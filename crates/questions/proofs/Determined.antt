-- Any two outcomes that the contract of a public function allows agree: what is said tells the answer.
use mathlib.Core.Path.{refl, sym, ap, ◌∙◌}
use Rattle.meaning.specs.Determined.{Determined}
use Rattle.questions.proofs.Agree.{edges_agree, labels_agree, numbers_agree, truths_agree}
use Rattle.questions.proofs.root.Reads as root
use Rattle.questions.proofs.root.Kinds as root_kinds
use Rattle.questions.proofs.first_child.Reads as first_child
use Rattle.questions.proofs.first_child.Kinds as first_child_kinds
use Rattle.questions.proofs.next_sibling.Reads as next_sibling
use Rattle.questions.proofs.next_sibling.Kinds as next_sibling_kinds
use Rattle.questions.proofs.label.Reads as label
use Rattle.questions.proofs.label.Kinds as label_kinds
use Rattle.questions.proofs.leaf_count.Reads as leaf_count
use Rattle.questions.proofs.leaf_count.Kinds as leaf_count_kinds
use Rattle.questions.proofs.nodes.Reads as nodes
use Rattle.questions.proofs.nodes.Kinds as nodes_kinds
use Rattle.questions.proofs.is_empty.Reads as is_empty
use Rattle.questions.proofs.is_empty.Kinds as is_empty_kinds
use Rattle.questions.proofs.byte_size.Reads as byte_size
use Rattle.questions.proofs.byte_size.Kinds as byte_size_kinds

pub root_determined : Determined _ root_kinds.ps root_kinds.r root.Asked root.Learnt (Unit {0}) (λ κs e. tt)
root_determined =
    record {
      asks_nothing = λ κs a. tt;
      agree = λ κs a z z' e e' p q. (ap (λ n. record { place = n.place; id = n.id }) (p ∙ sym q), refl);
    }

pub first_child_determined : Determined _ first_child_kinds.ps first_child_kinds.r first_child.Asked first_child.Learnt
    (Unit {0}) (λ κs e. tt)
first_child_determined = record { asks_nothing = λ κs a. tt; agree = λ κs a z z' e e' p q. (edges_agree z z' (p ∙ sym q), refl) }

pub next_sibling_determined : Determined _ next_sibling_kinds.ps next_sibling_kinds.r next_sibling.Asked next_sibling.Learnt
    (Unit {0}) (λ κs e. tt)
next_sibling_determined = record { asks_nothing = λ κs a. tt; agree = λ κs a z z' e e' p q. (edges_agree z z' (p ∙ sym q), refl) }

pub label_determined : Determined _ label_kinds.ps label_kinds.r label.Asked label.Learnt (Unit {0}) (λ κs e. tt)
label_determined = record { asks_nothing = λ κs a. tt; agree = λ κs a z z' e e' p q. (labels_agree z z' (p ∙ sym q), refl) }

pub leaf_count_determined : Determined _ leaf_count_kinds.ps leaf_count_kinds.r leaf_count.Asked leaf_count.Learnt (Unit {0}) (λ κs e. tt)
leaf_count_determined = record { asks_nothing = λ κs a. tt; agree = λ κs a z z' e e' p q. (numbers_agree z z' (p ∙ sym q), refl) }

pub nodes_determined : Determined _ nodes_kinds.ps nodes_kinds.r nodes.Asked nodes.Learnt (Unit {0}) (λ κs e. tt)
nodes_determined = record { asks_nothing = λ κs a. tt; agree = λ κs a z z' e e' p q. (numbers_agree z z' (p ∙ sym q), refl) }

pub is_empty_determined : Determined _ is_empty_kinds.ps is_empty_kinds.r is_empty.Asked is_empty.Learnt (Unit {0}) (λ κs e. tt)
is_empty_determined = record { asks_nothing = λ κs a. tt; agree = λ κs a z z' e e' p q. (truths_agree z z' (p ∙ sym q), refl) }

pub byte_size_determined : Determined _ byte_size_kinds.ps byte_size_kinds.r byte_size.Asked byte_size.Learnt (Unit {0}) (λ κs e. tt)
byte_size_determined = record { asks_nothing = λ κs a. tt; agree = λ κs a z z' e e' p q. (numbers_agree z z' (p ∙ sym q), refl) }
