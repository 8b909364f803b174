-- Any two outcomes that the contract of a public function allows agree: the answer, and the slices that are written.
use mathlib.Core.Path.{◌≡◌, refl, sym, ap, ◌∙◌}
use mathlib.Core.List.{List}
use Prim.Native.Nat.{ℕ}
use Rattle.std.specs.Prelude.{Option}
use Rattle.meaning.specs.Determined.{Determined}
use Rattle.refusal.proofs.Agree.{same_found_number}
use Rattle.listing.specs.Said.{Puts}
use Rattle.listing.proofs.reader.read_list.Reads as read_list
use Rattle.listing.proofs.reader.read_list.Kinds as read_list_kinds
use Rattle.listing.proofs.writer.write_head.Reads as write_head
use Rattle.listing.proofs.writer.write_head.Kinds as write_head_kinds
use Rattle.listing.proofs.writer.write_node_line.Reads as write_node_line
use Rattle.listing.proofs.writer.write_node_line.Kinds as write_node_line_kinds
use Rattle.listing.proofs.writer.write_refusal.Reads as write_refusal
use Rattle.listing.proofs.writer.write_refusal.Kinds as write_refusal_kinds
use Rattle.listing.proofs.writer.write_refused.Reads as write_refused
use Rattle.listing.proofs.writer.write_refused.Kinds as write_refused_kinds
use Rattle.listing.proofs.lines.parent_of.Reads as parent_of
use Rattle.listing.proofs.lines.parent_of.Kinds as parent_of_kinds
use Rattle.listing.proofs.lines.write_nodes.Reads as write_nodes
use Rattle.listing.proofs.lines.write_nodes.Kinds as write_nodes_kinds

-- the reader
pub read_list_determined : Determined _ read_list_kinds.ps read_list_kinds.r read_list.Asked read_list.Learnt
    (List ℕ × List ℕ) (λ κs e. (e.1.0.now, e.1.1.0.now))
read_list_determined =
    record {
      asks_nothing = λ κs a. tt;
      agree = λ κs a z z' e e' p q.
          let g = p ∙ sym q in
          (same_found_number z z' (ap (λ x. x.reply) g), ap (λ x. (x.levels, x.labels)) g);
    }

-- the writers
puts_agree : {s : List ℕ} {a : ℕ} {bs : List ℕ} {r q : Option ℕ} {t u : List ℕ} → Puts s a bs r t → Puts s a bs q u → (r ≡ q) × (t ≡ u)
puts_agree e f = (e.answer ∙ sym f.answer, e.bytes ∙ sym f.bytes)

pub write_head_determined : Determined _ write_head_kinds.ps write_head_kinds.r write_head.Asked write_head.Learnt
    (List ℕ) (λ κs e. e.0.now)
write_head_determined = record { asks_nothing = λ κs a. tt; agree = λ κs a z z' e e'. puts_agree }

pub write_node_line_determined : Determined _ write_node_line_kinds.ps write_node_line_kinds.r write_node_line.Asked write_node_line.Learnt
    (List ℕ) (λ κs e. e.0.now)
write_node_line_determined = record { asks_nothing = λ κs a. tt; agree = λ κs a z z' e e'. puts_agree }

pub write_refusal_determined : Determined _ write_refusal_kinds.ps write_refusal_kinds.r write_refusal.Asked write_refusal.Learnt
    (List ℕ) (λ κs e. e.0.now)
write_refusal_determined = record { asks_nothing = λ κs a. tt; agree = λ κs a z z' e e'. puts_agree }

pub write_refused_determined : Determined _ write_refused_kinds.ps write_refused_kinds.r write_refused.Asked write_refused.Learnt
    (List ℕ) (λ κs e. e.0.now)
write_refused_determined = record { asks_nothing = λ κs a. tt; agree = λ κs a z z' e e'. puts_agree }

pub write_nodes_determined : Determined _ write_nodes_kinds.ps write_nodes_kinds.r write_nodes.Asked write_nodes.Learnt
    (List ℕ) (λ κs e. e.0.now)
write_nodes_determined = record { asks_nothing = λ κs a. tt; agree = λ κs a z z' e e'. puts_agree }

-- a parent's id
pub parent_of_determined : Determined _ parent_of_kinds.ps parent_of_kinds.r parent_of.Asked parent_of.Learnt (Unit {0}) (λ κs e. tt)
parent_of_determined = record { asks_nothing = λ κs a. tt; agree = λ κs a z z' e e' p q. (p ∙ sym q, refl) }
