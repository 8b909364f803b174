-- Any two outcomes that the contract of a public function allows agree.
use mathlib.Core.Path.{refl, sym, ◌∙◌}
use mathlib.Core.List.{List}
use Prim.Native.Nat.{ℕ}
use Rattle.meaning.specs.Determined.{Determined}
use Rattle.sparse_one_nnd.proofs.Agree.{entries_agree, count_agree, found_agree, plan_agree, outcomes_agree}
use Rattle.sparse_one_nnd.proofs.SparseOneNnd.empty.Reads as empty
use Rattle.sparse_one_nnd.proofs.SparseOneNnd.empty.Kinds as empty_kinds
use Rattle.sparse_one_nnd.proofs.SparseOneNnd.rank_one.Reads as rank_one
use Rattle.sparse_one_nnd.proofs.SparseOneNnd.rank_one.Kinds as rank_one_kinds
use Rattle.sparse_one_nnd.proofs.SparseOneNnd.select_one.Reads as select_one
use Rattle.sparse_one_nnd.proofs.SparseOneNnd.select_one.Kinds as select_one_kinds
use Rattle.sparse_one_nnd.proofs.SparseOneNnd.pred_one.Reads as pred_one
use Rattle.sparse_one_nnd.proofs.SparseOneNnd.pred_one.Kinds as pred_one_kinds
use Rattle.sparse_one_nnd.proofs.SparseOneNnd.succ_one.Reads as succ_one
use Rattle.sparse_one_nnd.proofs.SparseOneNnd.succ_one.Kinds as succ_one_kinds
use Rattle.sparse_one_nnd.proofs.SparseOneNnd.rank_part.Reads as rank_part
use Rattle.sparse_one_nnd.proofs.SparseOneNnd.rank_part.Kinds as rank_part_kinds
use Rattle.sparse_one_nnd.proofs.SparseOneNnd.select_part.Reads as select_part
use Rattle.sparse_one_nnd.proofs.SparseOneNnd.select_part.Kinds as select_part_kinds
use Rattle.sparse_one_nnd.proofs.SparseOneNnd.pred_part.Reads as pred_part
use Rattle.sparse_one_nnd.proofs.SparseOneNnd.pred_part.Kinds as pred_part_kinds
use Rattle.sparse_one_nnd.proofs.SparseOneNnd.succ_part.Reads as succ_part
use Rattle.sparse_one_nnd.proofs.SparseOneNnd.succ_part.Kinds as succ_part_kinds
use Rattle.sparse_one_nnd.proofs.SparseOneNnd.byte_size.Reads as byte_size
use Rattle.sparse_one_nnd.proofs.SparseOneNnd.byte_size.Kinds as byte_size_kinds
use Rattle.sparse_one_nnd.proofs.SparseOneNnd.plan.Reads as plan
use Rattle.sparse_one_nnd.proofs.SparseOneNnd.plan.Kinds as plan_kinds
use Rattle.sparse_one_nnd.proofs.SparseOneNnd.write.Reads as write
use Rattle.sparse_one_nnd.proofs.SparseOneNnd.write.Kinds as write_kinds
use Rattle.sparse_one_nnd.proofs.SparseOneNnd.build.Reads as build
use Rattle.sparse_one_nnd.proofs.SparseOneNnd.build.Kinds as build_kinds
use Rattle.sparse_one_nnd.proofs.DictAreas.rank.Reads as rank
use Rattle.sparse_one_nnd.proofs.DictAreas.rank.Kinds as rank_kinds
use Rattle.sparse_one_nnd.proofs.DictAreas.select.Reads as select
use Rattle.sparse_one_nnd.proofs.DictAreas.select.Kinds as select_kinds
use Rattle.sparse_one_nnd.proofs.DictAreas.pred.Reads as pred
use Rattle.sparse_one_nnd.proofs.DictAreas.pred.Kinds as pred_kinds
use Rattle.sparse_one_nnd.proofs.DictAreas.succ.Reads as succ
use Rattle.sparse_one_nnd.proofs.DictAreas.succ.Kinds as succ_kinds

pub empty_determined : Determined _ empty_kinds.ps empty_kinds.r empty.Asked empty.Learnt (Unit {0}) (λ κs e. tt)
empty_determined = record { asks_nothing = λ κs a. tt; agree = λ κs a z z' e e' p q. (entries_agree z z' (p ∙ sym q), refl) }

pub rank_one_determined : Determined _ rank_one_kinds.ps rank_one_kinds.r rank_one.Asked rank_one.Learnt (Unit {0}) (λ κs e. tt)
rank_one_determined = record { asks_nothing = λ κs a. tt; agree = λ κs a z z' e e' p q. (count_agree z z' (p ∙ sym q), refl) }

pub select_one_determined : Determined _ select_one_kinds.ps select_one_kinds.r select_one.Asked select_one.Learnt (Unit {0}) (λ κs e. tt)
select_one_determined = record { asks_nothing = λ κs a. tt; agree = λ κs a z z' e e' p q. (found_agree z z' (p ∙ sym q), refl) }

pub pred_one_determined : Determined _ pred_one_kinds.ps pred_one_kinds.r pred_one.Asked pred_one.Learnt (Unit {0}) (λ κs e. tt)
pred_one_determined = record { asks_nothing = λ κs a. tt; agree = λ κs a z z' e e' p q. (found_agree z z' (p ∙ sym q), refl) }

pub succ_one_determined : Determined _ succ_one_kinds.ps succ_one_kinds.r succ_one.Asked succ_one.Learnt (Unit {0}) (λ κs e. tt)
succ_one_determined = record { asks_nothing = λ κs a. tt; agree = λ κs a z z' e e' p q. (found_agree z z' (p ∙ sym q), refl) }

pub rank_part_determined : Determined _ rank_part_kinds.ps rank_part_kinds.r rank_part.Asked rank_part.Learnt (Unit {0}) (λ κs e. tt)
rank_part_determined = record { asks_nothing = λ κs a. tt; agree = λ κs a z z' e e' p q. (count_agree z z' (p ∙ sym q), refl) }

pub select_part_determined : Determined _ select_part_kinds.ps select_part_kinds.r select_part.Asked select_part.Learnt (Unit {0}) (λ κs e. tt)
select_part_determined = record { asks_nothing = λ κs a. tt; agree = λ κs a z z' e e' p q. (found_agree z z' (p ∙ sym q), refl) }

pub pred_part_determined : Determined _ pred_part_kinds.ps pred_part_kinds.r pred_part.Asked pred_part.Learnt (Unit {0}) (λ κs e. tt)
pred_part_determined = record { asks_nothing = λ κs a. tt; agree = λ κs a z z' e e' p q. (found_agree z z' (p ∙ sym q), refl) }

pub succ_part_determined : Determined _ succ_part_kinds.ps succ_part_kinds.r succ_part.Asked succ_part.Learnt (Unit {0}) (λ κs e. tt)
succ_part_determined = record { asks_nothing = λ κs a. tt; agree = λ κs a z z' e e' p q. (found_agree z z' (p ∙ sym q), refl) }

pub byte_size_determined : Determined _ byte_size_kinds.ps byte_size_kinds.r byte_size.Asked byte_size.Learnt (Unit {0}) (λ κs e. tt)
byte_size_determined = record { asks_nothing = λ κs a. tt; agree = λ κs a z z' e e' p q. (count_agree z z' (p ∙ sym q), refl) }

pub plan_determined : Determined _ plan_kinds.ps plan_kinds.r plan.Asked plan.Learnt (Unit {0}) (λ κs e. tt)
plan_determined = record { asks_nothing = λ κs a. tt; agree = λ κs a z z' e e' p q. (plan_agree z z' (p ∙ sym q), refl) }

pub write_determined : Determined _ write_kinds.ps write_kinds.r write.Asked write.Learnt (List ℕ × List ℕ × List ℕ) (λ κs e. (e.1.1.1.0.now, e.1.1.1.1.0.now, e.1.1.1.1.1.0.now))
write_determined = record { asks_nothing = λ κs a. tt; agree = λ κs a z z' e e' p q. outcomes_agree z z' _ _ (p ∙ sym q) }

pub build_determined : Determined _ build_kinds.ps build_kinds.r build.Asked build.Learnt (List ℕ × List ℕ × List ℕ) (λ κs e. (e.1.1.0.now, e.1.1.1.0.now, e.1.1.1.1.0.now))
build_determined = record { asks_nothing = λ κs a. tt; agree = λ κs a z z' e e' p q. outcomes_agree z z' _ _ (p ∙ sym q) }

pub rank_determined : Determined _ rank_kinds.ps rank_kinds.r rank.Asked rank.Learnt (Unit {0}) (λ κs e. tt)
rank_determined = record { asks_nothing = λ κs a. tt; agree = λ κs a z z' e e' p q. (count_agree z z' (p ∙ sym q), refl) }

pub select_determined : Determined _ select_kinds.ps select_kinds.r select.Asked select.Learnt (Unit {0}) (λ κs e. tt)
select_determined = record { asks_nothing = λ κs a. tt; agree = λ κs a z z' e e' p q. (found_agree z z' (p ∙ sym q), refl) }

pub pred_determined : Determined _ pred_kinds.ps pred_kinds.r pred.Asked pred.Learnt (Unit {0}) (λ κs e. tt)
pred_determined = record { asks_nothing = λ κs a. tt; agree = λ κs a z z' e e' p q. (found_agree z z' (p ∙ sym q), refl) }

pub succ_determined : Determined _ succ_kinds.ps succ_kinds.r succ.Asked succ.Learnt (Unit {0}) (λ κs e. tt)
succ_determined = record { asks_nothing = λ κs a. tt; agree = λ κs a z z' e e' p q. (found_agree z z' (p ∙ sym q), refl) }
