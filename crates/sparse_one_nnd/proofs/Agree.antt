-- Any two outcomes that a contract allows agree: an answer can be told again from what it says.
use mathlib.Core.Path.{◌≡◌, sym, ap, ◌∙◌}
use mathlib.Core.List.{List}
use Prim.Native.Nat.{ℕ}
use Rattle.std.specs.Prelude.{Option, Result}
use Rattle.meaning.specs.Dictionary.{Dict}
use Rattle.meaning.specs.Direct.{Entries, DictAfter}
use Rattle.refusal.specs.declared.Refusal.{Refusal}
use Rattle.refusal.specs.Said.{said_number, found_number}
use Rattle.refusal.proofs.Agree.{same_said, same_number, same_found_number}
use Rattle.sparse_one_nnd.specs.declared.SparseOneNnd.{SparseOneNnd}
use Rattle.sparse_one_nnd.specs.Said.{entries_in, said_entries, after}

-- rank and the byte size; select, pred and succ
pub count_agree : (a b : Result ℕ Refusal) → said_number a ≡ said_number b → a ≡ b
count_agree = same_number

pub found_agree : (a b : Result (Option ℕ) Refusal) → found_number a ≡ found_number b → a ≡ b
found_agree = same_found_number

-- told again
counts : Entries → SparseOneNnd
counts e = record { bytes = e.bytes; middles = e.middle; larges = e.large }

pub entries_agree : (c d : SparseOneNnd) → entries_in c ≡ entries_in d → c ≡ d
unfolding counts
entries_agree c d e = ap counts e

-- the plan
pub plan_agree : (a b : Result SparseOneNnd Refusal) → said_entries a ≡ said_entries b → a ≡ b
plan_agree a b e = same_said entries_in entries_agree a b e

-- a write or a build: the answer and all three areas
pub outcome_agree : (a b : Result SparseOneNnd Refusal) (d e : Dict) (x : DictAfter) → after (said_entries a) d ≡ x → after (said_entries b) e ≡ x → (a ≡ b) × (d ≡ e)
outcome_agree a b d e x p q =
    let r : after (said_entries a) d ≡ after (said_entries b) e = p ∙ sym q in
    (plan_agree a b (ap (λ (y : DictAfter). y.reply) r), ap (λ (y : DictAfter). y.areas) r)

-- the same where neither outcome is named
abbrev areas : Dict → List ℕ × List ℕ × List ℕ
areas d = (d.bytes, d.middle, d.large)

pub outcomes_agree : (a b : Result SparseOneNnd Refusal) (d e : Dict) → after (said_entries a) d ≡ after (said_entries b) e → (a ≡ b) × (areas d ≡ areas e)
outcomes_agree a b d e r = (plan_agree a b (ap (λ (y : DictAfter). y.reply) r), ap (λ (y : DictAfter). areas y.areas) r)
