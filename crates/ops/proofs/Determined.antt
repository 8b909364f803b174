-- Any two outcomes that the contract of a public function allows agree: of `Fid`, at the plain scan.
use mathlib.Core.Path.{refl, sym, ◌∙◌}
use Rattle.meaning.specs.Determined.{Determined}
use Rattle.refusal.proofs.Agree.{same_number, same_found_number, same_only_found_number}
use Rattle.ops.proofs.outside.Reads as outside
use Rattle.ops.proofs.outside.Kinds as outside_kinds
use Rattle.ops.proofs.upto.Reads as upto
use Rattle.ops.proofs.upto.Kinds as upto_kinds
use Rattle.ops.proofs.linear_fid.LinearFidFid.lent_words.Reads as lent_words
use Rattle.ops.proofs.linear_fid.LinearFidFid.lent_words.Kinds as lent_words_kinds
use Rattle.ops.proofs.linear_fid.LinearFidFid.len.Reads as len
use Rattle.ops.proofs.linear_fid.LinearFidFid.len.Kinds as len_kinds
use Rattle.ops.proofs.linear_fid.LinearFidFid.counted.Reads as counted
use Rattle.ops.proofs.linear_fid.LinearFidFid.counted.Kinds as counted_kinds
use Rattle.ops.proofs.linear_fid.LinearFidFid.nth.Reads as nth
use Rattle.ops.proofs.linear_fid.LinearFidFid.nth.Kinds as nth_kinds
use Rattle.ops.proofs.linear_fid.LinearFidFid.last.Reads as last
use Rattle.ops.proofs.linear_fid.LinearFidFid.last.Kinds as last_kinds
use Rattle.ops.proofs.linear_fid.LinearFidFid.first.Reads as first
use Rattle.ops.proofs.linear_fid.LinearFidFid.first.Kinds as first_kinds
use Rattle.ops.proofs.linear_fid.LinearFidFid.checked_len.Reads as checked_len
use Rattle.ops.proofs.linear_fid.LinearFidFid.checked_len.Kinds as checked_len_kinds
use Rattle.ops.proofs.linear_fid.LinearFidFid.admitted.Reads as admitted
use Rattle.ops.proofs.linear_fid.LinearFidFid.admitted.Kinds as admitted_kinds
use Rattle.ops.proofs.linear_fid.LinearFidFid.rank.Reads as rank
use Rattle.ops.proofs.linear_fid.LinearFidFid.rank.Kinds as rank_kinds
use Rattle.ops.proofs.linear_fid.LinearFidFid.select.Reads as select
use Rattle.ops.proofs.linear_fid.LinearFidFid.select.Kinds as select_kinds
use Rattle.ops.proofs.linear_fid.LinearFidFid.pred.Reads as pred
use Rattle.ops.proofs.linear_fid.LinearFidFid.pred.Kinds as pred_kinds
use Rattle.ops.proofs.linear_fid.LinearFidFid.succ.Reads as succ
use Rattle.ops.proofs.linear_fid.LinearFidFid.succ.Kinds as succ_kinds
use Rattle.ops.proofs.linear_fid.LinearFidFid.rank_one.Reads as rank_one
use Rattle.ops.proofs.linear_fid.LinearFidFid.rank_one.Kinds as rank_one_kinds
use Rattle.ops.proofs.linear_fid.LinearFidFid.rank_zero.Reads as rank_zero
use Rattle.ops.proofs.linear_fid.LinearFidFid.rank_zero.Kinds as rank_zero_kinds
use Rattle.ops.proofs.linear_fid.LinearFidFid.select_one.Reads as select_one
use Rattle.ops.proofs.linear_fid.LinearFidFid.select_one.Kinds as select_one_kinds
use Rattle.ops.proofs.linear_fid.LinearFidFid.select_zero.Reads as select_zero
use Rattle.ops.proofs.linear_fid.LinearFidFid.select_zero.Kinds as select_zero_kinds
use Rattle.ops.proofs.linear_fid.LinearFidFid.pred_one.Reads as pred_one
use Rattle.ops.proofs.linear_fid.LinearFidFid.pred_one.Kinds as pred_one_kinds
use Rattle.ops.proofs.linear_fid.LinearFidFid.pred_zero.Reads as pred_zero
use Rattle.ops.proofs.linear_fid.LinearFidFid.pred_zero.Kinds as pred_zero_kinds
use Rattle.ops.proofs.linear_fid.LinearFidFid.succ_one.Reads as succ_one
use Rattle.ops.proofs.linear_fid.LinearFidFid.succ_one.Kinds as succ_one_kinds
use Rattle.ops.proofs.linear_fid.LinearFidFid.succ_zero.Reads as succ_zero
use Rattle.ops.proofs.linear_fid.LinearFidFid.succ_zero.Kinds as succ_zero_kinds

pub outside_determined : Determined _ outside_kinds.ps outside_kinds.r outside.Asked outside.Learnt (Unit {0}) (λ κs e. tt)
outside_determined = record { asks_nothing = λ κs a. tt; agree = λ κs a z z' e e' p q. (p ∙ sym q, refl) }

pub upto_determined : Determined _ upto_kinds.ps upto_kinds.r upto.Asked upto.Learnt (Unit {0}) (λ κs e. tt)
upto_determined = record { asks_nothing = λ κs a. tt; agree = λ κs a z z' e e' p q. (p ∙ sym q, refl) }

pub lent_words_determined : Determined _ lent_words_kinds.ps lent_words_kinds.r lent_words.Asked lent_words.Learnt (Unit {0}) (λ κs e. tt)
lent_words_determined = record { asks_nothing = λ κs a. tt; agree = λ κs a z z' e e' p q. (p ∙ sym q, refl) }

pub len_determined : Determined _ len_kinds.ps len_kinds.r len.Asked len.Learnt (Unit {0}) (λ κs e. tt)
len_determined = record { asks_nothing = λ κs a. tt; agree = λ κs a z z' e e' p q. (p ∙ sym q, refl) }

pub counted_determined : Determined _ counted_kinds.ps counted_kinds.r counted.Asked counted.Learnt (Unit {0}) (λ κs e. tt)
counted_determined = record { asks_nothing = λ κs a. tt; agree = λ κs a z z' e e' p q. (p ∙ sym q, refl) }

pub nth_determined : Determined _ nth_kinds.ps nth_kinds.r nth.Asked nth.Learnt (Unit {0}) (λ κs e. tt)
nth_determined = record { asks_nothing = λ κs a. tt; agree = λ κs a z z' e e' p q. (same_only_found_number z z' (p ∙ sym q), refl) }

pub last_determined : Determined _ last_kinds.ps last_kinds.r last.Asked last.Learnt (Unit {0}) (λ κs e. tt)
last_determined = record { asks_nothing = λ κs a. tt; agree = λ κs a z z' e e' p q. (same_only_found_number z z' (p ∙ sym q), refl) }

pub first_determined : Determined _ first_kinds.ps first_kinds.r first.Asked first.Learnt (Unit {0}) (λ κs e. tt)
first_determined = record { asks_nothing = λ κs a. tt; agree = λ κs a z z' e e' p q. (same_only_found_number z z' (p ∙ sym q), refl) }

pub checked_len_determined : Determined _ checked_len_kinds.ps checked_len_kinds.r checked_len.Asked checked_len.Learnt (Unit {0}) (λ κs e. tt)
checked_len_determined = record { asks_nothing = λ κs a. tt; agree = λ κs a z z' e e' p q. (same_number z z' (p ∙ sym q), refl) }

pub admitted_determined : Determined _ admitted_kinds.ps admitted_kinds.r admitted.Asked admitted.Learnt (Unit {0}) (λ κs e. tt)
admitted_determined = record { asks_nothing = λ κs a. tt; agree = λ κs a z z' e e' p q. (same_number z z' (p ∙ sym q), refl) }

pub rank_determined : Determined _ rank_kinds.ps rank_kinds.r rank.Asked rank.Learnt (Unit {0}) (λ κs e. tt)
rank_determined = record { asks_nothing = λ κs a. tt; agree = λ κs a z z' e e' p q. (same_number z z' (p ∙ sym q), refl) }

pub select_determined : Determined _ select_kinds.ps select_kinds.r select.Asked select.Learnt (Unit {0}) (λ κs e. tt)
select_determined = record { asks_nothing = λ κs a. tt; agree = λ κs a z z' e e' p q. (same_found_number z z' (p ∙ sym q), refl) }

pub pred_determined : Determined _ pred_kinds.ps pred_kinds.r pred.Asked pred.Learnt (Unit {0}) (λ κs e. tt)
pred_determined = record { asks_nothing = λ κs a. tt; agree = λ κs a z z' e e' p q. (same_found_number z z' (p ∙ sym q), refl) }

pub succ_determined : Determined _ succ_kinds.ps succ_kinds.r succ.Asked succ.Learnt (Unit {0}) (λ κs e. tt)
succ_determined = record { asks_nothing = λ κs a. tt; agree = λ κs a z z' e e' p q. (same_found_number z z' (p ∙ sym q), refl) }

pub rank_one_determined : Determined _ rank_one_kinds.ps rank_one_kinds.r rank_one.Asked rank_one.Learnt (Unit {0}) (λ κs e. tt)
rank_one_determined = record { asks_nothing = λ κs a. tt; agree = λ κs a z z' e e' p q. (same_number z z' (p ∙ sym q), refl) }

pub rank_zero_determined : Determined _ rank_zero_kinds.ps rank_zero_kinds.r rank_zero.Asked rank_zero.Learnt (Unit {0}) (λ κs e. tt)
rank_zero_determined = record { asks_nothing = λ κs a. tt; agree = λ κs a z z' e e' p q. (same_number z z' (p ∙ sym q), refl) }

pub select_one_determined : Determined _ select_one_kinds.ps select_one_kinds.r select_one.Asked select_one.Learnt (Unit {0}) (λ κs e. tt)
select_one_determined = record { asks_nothing = λ κs a. tt; agree = λ κs a z z' e e' p q. (same_found_number z z' (p ∙ sym q), refl) }

pub select_zero_determined : Determined _ select_zero_kinds.ps select_zero_kinds.r select_zero.Asked select_zero.Learnt (Unit {0}) (λ κs e. tt)
select_zero_determined = record { asks_nothing = λ κs a. tt; agree = λ κs a z z' e e' p q. (same_found_number z z' (p ∙ sym q), refl) }

pub pred_one_determined : Determined _ pred_one_kinds.ps pred_one_kinds.r pred_one.Asked pred_one.Learnt (Unit {0}) (λ κs e. tt)
pred_one_determined = record { asks_nothing = λ κs a. tt; agree = λ κs a z z' e e' p q. (same_found_number z z' (p ∙ sym q), refl) }

pub pred_zero_determined : Determined _ pred_zero_kinds.ps pred_zero_kinds.r pred_zero.Asked pred_zero.Learnt (Unit {0}) (λ κs e. tt)
pred_zero_determined = record { asks_nothing = λ κs a. tt; agree = λ κs a z z' e e' p q. (same_found_number z z' (p ∙ sym q), refl) }

pub succ_one_determined : Determined _ succ_one_kinds.ps succ_one_kinds.r succ_one.Asked succ_one.Learnt (Unit {0}) (λ κs e. tt)
succ_one_determined = record { asks_nothing = λ κs a. tt; agree = λ κs a z z' e e' p q. (same_found_number z z' (p ∙ sym q), refl) }

pub succ_zero_determined : Determined _ succ_zero_kinds.ps succ_zero_kinds.r succ_zero.Asked succ_zero.Learnt (Unit {0}) (λ κs e. tt)
succ_zero_determined = record { asks_nothing = λ κs a. tt; agree = λ κs a z z' e e' p q. (same_found_number z z' (p ∙ sym q), refl) }
