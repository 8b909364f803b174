-- Any two outcomes that the contract of a public function allows agree.
use mathlib.Core.Path.{refl, sym, ◌∙◌}
use mathlib.Core.List.{not-mem-nil}
use Rattle.meaning.specs.Determined.{Determined}
use Rattle.fixnum.specs.Determined.{Determined8, Determined64}
use Rattle.fixnum.proofs.Agree.{got_agree, set8_agree, set64_agree, rank_agree, found_agree, sought_agree, closed_agree}
use Rattle.fixnum.proofs.Fixnum.get.Reads as get
use Rattle.fixnum.proofs.Fixnum.get.Kinds as get_kinds
use Rattle.fixnum.proofs.Fixnum.set.Reads as set
use Rattle.fixnum.proofs.Fixnum.set.Kinds as set_kinds
use Rattle.fixnum.proofs.Fixnum.get_close.Reads as get_close
use Rattle.fixnum.proofs.Fixnum.get_close.Kinds as get_close_kinds
use Rattle.fixnum.proofs.Fixnum.pop_count.Reads as fixnum_pop_count
use Rattle.fixnum.proofs.Fixnum.pop_count.Kinds as fixnum_pop_count_kinds
use Rattle.fixnum.proofs.Fixnum.rank_one.Reads as rank_one
use Rattle.fixnum.proofs.Fixnum.rank_one.Kinds as rank_one_kinds
use Rattle.fixnum.proofs.Fixnum.rank_zero.Reads as rank_zero
use Rattle.fixnum.proofs.Fixnum.rank_zero.Kinds as rank_zero_kinds
use Rattle.fixnum.proofs.Fixnum.new.Reads as new
use Rattle.fixnum.proofs.Fixnum.new.Kinds as new_kinds
use Rattle.fixnum.proofs.Fixnum.zero.Reads as zero
use Rattle.fixnum.proofs.Fixnum.zero.Kinds as zero_kinds
use Rattle.fixnum.proofs.Fixnum.one.Reads as one
use Rattle.fixnum.proofs.Fixnum.one.Kinds as one_kinds
use Rattle.fixnum.proofs.Fixnum.to_inner.Reads as to_inner
use Rattle.fixnum.proofs.Fixnum.to_inner.Kinds as to_inner_kinds
use Rattle.fixnum.proofs.Fixnum.pred_one.Reads as pred_one
use Rattle.fixnum.proofs.Fixnum.pred_one.Kinds as pred_one_kinds
use Rattle.fixnum.proofs.Fixnum.pred_zero.Reads as pred_zero
use Rattle.fixnum.proofs.Fixnum.pred_zero.Kinds as pred_zero_kinds
use Rattle.fixnum.proofs.Fixnum.succ_one.Reads as succ_one
use Rattle.fixnum.proofs.Fixnum.succ_one.Kinds as succ_one_kinds
use Rattle.fixnum.proofs.Fixnum.succ_zero.Reads as succ_zero
use Rattle.fixnum.proofs.Fixnum.succ_zero.Kinds as succ_zero_kinds
use Rattle.fixnum.proofs.Fixnum.select_one.Reads as fixnum_select_one
use Rattle.fixnum.proofs.Fixnum.select_one.Kinds as fixnum_select_one_kinds
use Rattle.fixnum.proofs.Fixnum.select_zero.Reads as select_zero
use Rattle.fixnum.proofs.Fixnum.select_zero.Kinds as select_zero_kinds
use Rattle.fixnum.proofs.word.U8Word.wide.Reads as u8_word_wide
use Rattle.fixnum.proofs.word.U8Word.wide.Kinds as u8_word_wide_kinds
use Rattle.fixnum.proofs.word.U8Word.narrow.Reads as u8_word_narrow
use Rattle.fixnum.proofs.word.U8Word.narrow.Kinds as u8_word_narrow_kinds
use Rattle.fixnum.proofs.word.U8Word.complement.Reads as u8_word_complement
use Rattle.fixnum.proofs.word.U8Word.complement.Kinds as u8_word_complement_kinds
use Rattle.fixnum.proofs.word.U8Word.pop_count.Reads as u8_word_pop_count
use Rattle.fixnum.proofs.word.U8Word.pop_count.Kinds as u8_word_pop_count_kinds
use Rattle.fixnum.proofs.word.U8Word.select_one.Reads as u8_word_select_one
use Rattle.fixnum.proofs.word.U8Word.select_one.Kinds as u8_word_select_one_kinds
use Rattle.fixnum.proofs.word.U64Word.wide.Reads as u64_word_wide
use Rattle.fixnum.proofs.word.U64Word.wide.Kinds as u64_word_wide_kinds
use Rattle.fixnum.proofs.word.U64Word.narrow.Reads as u64_word_narrow
use Rattle.fixnum.proofs.word.U64Word.narrow.Kinds as u64_word_narrow_kinds
use Rattle.fixnum.proofs.word.U64Word.complement.Reads as u64_word_complement
use Rattle.fixnum.proofs.word.U64Word.complement.Kinds as u64_word_complement_kinds
use Rattle.fixnum.proofs.word.U64Word.pop_count.Reads as u64_word_pop_count
use Rattle.fixnum.proofs.word.U64Word.pop_count.Kinds as u64_word_pop_count_kinds
use Rattle.fixnum.proofs.word.U64Word.select_one.Reads as u64_word_select_one
use Rattle.fixnum.proofs.word.U64Word.select_one.Kinds as u64_word_select_one_kinds

pub fixnum8_get_determined : Determined8 get_kinds.ps get_kinds.r get.Asked get.Learnt
fixnum8_get_determined L C D E = record { asks_nothing = λ κs a i m. absurd (not-mem-nil m); agree = λ κs a z z' e e' p q. (got_agree z z' p q, refl) }

pub fixnum64_get_determined : Determined64 get_kinds.ps get_kinds.r get.Asked get.Learnt
fixnum64_get_determined L C D E = record { asks_nothing = λ κs a i m. absurd (not-mem-nil m); agree = λ κs a z z' e e' p q. (got_agree z z' p q, refl) }

pub fixnum8_set_determined : Determined8 set_kinds.ps set_kinds.r set.Asked set.Learnt
fixnum8_set_determined L C D E = record { asks_nothing = λ κs a i m. absurd (not-mem-nil m); agree = λ κs a z z' e e' p q. (set8_agree z z' p q, refl) }

pub fixnum64_set_determined : Determined64 set_kinds.ps set_kinds.r set.Asked set.Learnt
fixnum64_set_determined L C D E = record { asks_nothing = λ κs a i m. absurd (not-mem-nil m); agree = λ κs a z z' e e' p q. (set64_agree z z' p q, refl) }

pub fixnum8_get_close_determined : Determined8 get_close_kinds.ps get_close_kinds.r get_close.Asked get_close.Learnt
fixnum8_get_close_determined L C D E = record { asks_nothing = λ κs a i m. absurd (not-mem-nil m); agree = λ κs a z z' e e' p q. (closed_agree z z' p q, refl) }

pub fixnum64_get_close_determined : Determined64 get_close_kinds.ps get_close_kinds.r get_close.Asked get_close.Learnt
fixnum64_get_close_determined L C D E = record { asks_nothing = λ κs a i m. absurd (not-mem-nil m); agree = λ κs a z z' e e' p q. (closed_agree z z' p q, refl) }

pub fixnum8_pop_count_determined : Determined8 fixnum_pop_count_kinds.ps fixnum_pop_count_kinds.r fixnum_pop_count.Asked fixnum_pop_count.Learnt
fixnum8_pop_count_determined L C D E = record { asks_nothing = λ κs a i m. absurd (not-mem-nil m); agree = λ κs a z z' e e' p q. (p ∙ sym q, refl) }

pub fixnum64_pop_count_determined : Determined64 fixnum_pop_count_kinds.ps fixnum_pop_count_kinds.r fixnum_pop_count.Asked fixnum_pop_count.Learnt
fixnum64_pop_count_determined L C D E = record { asks_nothing = λ κs a i m. absurd (not-mem-nil m); agree = λ κs a z z' e e' p q. (p ∙ sym q, refl) }

pub fixnum8_rank_one_determined : Determined8 rank_one_kinds.ps rank_one_kinds.r rank_one.Asked rank_one.Learnt
fixnum8_rank_one_determined L C D E = record { asks_nothing = λ κs a i m. absurd (not-mem-nil m); agree = λ κs a z z' e e' p q. (rank_agree z z' p q, refl) }

pub fixnum64_rank_one_determined : Determined64 rank_one_kinds.ps rank_one_kinds.r rank_one.Asked rank_one.Learnt
fixnum64_rank_one_determined L C D E = record { asks_nothing = λ κs a i m. absurd (not-mem-nil m); agree = λ κs a z z' e e' p q. (rank_agree z z' p q, refl) }

pub fixnum8_rank_zero_determined : Determined8 rank_zero_kinds.ps rank_zero_kinds.r rank_zero.Asked rank_zero.Learnt
fixnum8_rank_zero_determined L C D E = record { asks_nothing = λ κs a i m. absurd (not-mem-nil m); agree = λ κs a z z' e e' p q. (rank_agree z z' p q, refl) }

pub fixnum64_rank_zero_determined : Determined64 rank_zero_kinds.ps rank_zero_kinds.r rank_zero.Asked rank_zero.Learnt
fixnum64_rank_zero_determined L C D E = record { asks_nothing = λ κs a i m. absurd (not-mem-nil m); agree = λ κs a z z' e e' p q. (rank_agree z z' p q, refl) }

pub fixnum8_new_determined : Determined8 new_kinds.ps new_kinds.r new.Asked new.Learnt
fixnum8_new_determined L C D E = record { asks_nothing = λ κs a i m. absurd (not-mem-nil m); agree = λ κs a z z' e e' p q. (λ k. record { 0 = (p ∙ sym q) k }, refl) }

pub fixnum64_new_determined : Determined64 new_kinds.ps new_kinds.r new.Asked new.Learnt
fixnum64_new_determined L C D E = record { asks_nothing = λ κs a i m. absurd (not-mem-nil m); agree = λ κs a z z' e e' p q. (λ k. record { 0 = (p ∙ sym q) k }, refl) }

pub fixnum8_zero_determined : Determined8 zero_kinds.ps zero_kinds.r zero.Asked zero.Learnt
fixnum8_zero_determined L C D E = record { asks_nothing = λ κs a i m. absurd (not-mem-nil m); agree = λ κs a z z' e e' p q. (λ k. record { 0 = (p ∙ sym q) k }, refl) }

pub fixnum64_zero_determined : Determined64 zero_kinds.ps zero_kinds.r zero.Asked zero.Learnt
fixnum64_zero_determined L C D E = record { asks_nothing = λ κs a i m. absurd (not-mem-nil m); agree = λ κs a z z' e e' p q. (λ k. record { 0 = (p ∙ sym q) k }, refl) }

pub fixnum8_one_determined : Determined8 one_kinds.ps one_kinds.r one.Asked one.Learnt
fixnum8_one_determined L C D E = record { asks_nothing = λ κs a i m. absurd (not-mem-nil m); agree = λ κs a z z' e e' p q. (λ k. record { 0 = (p ∙ sym q) k }, refl) }

pub fixnum64_one_determined : Determined64 one_kinds.ps one_kinds.r one.Asked one.Learnt
fixnum64_one_determined L C D E = record { asks_nothing = λ κs a i m. absurd (not-mem-nil m); agree = λ κs a z z' e e' p q. (λ k. record { 0 = (p ∙ sym q) k }, refl) }

pub fixnum8_to_inner_determined : Determined8 to_inner_kinds.ps to_inner_kinds.r to_inner.Asked to_inner.Learnt
fixnum8_to_inner_determined L C D E = record { asks_nothing = λ κs a i m. absurd (not-mem-nil m); agree = λ κs a z z' e e' p q. (p ∙ sym q, refl) }

pub fixnum64_to_inner_determined : Determined64 to_inner_kinds.ps to_inner_kinds.r to_inner.Asked to_inner.Learnt
fixnum64_to_inner_determined L C D E = record { asks_nothing = λ κs a i m. absurd (not-mem-nil m); agree = λ κs a z z' e e' p q. (p ∙ sym q, refl) }

pub fixnum8_pred_one_determined : Determined8 pred_one_kinds.ps pred_one_kinds.r pred_one.Asked pred_one.Learnt
fixnum8_pred_one_determined L C D E = record { asks_nothing = λ κs a i m. absurd (not-mem-nil m); agree = λ κs a z z' e e' p q. (found_agree z z' p q, refl) }

pub fixnum64_pred_one_determined : Determined64 pred_one_kinds.ps pred_one_kinds.r pred_one.Asked pred_one.Learnt
fixnum64_pred_one_determined L C D E = record { asks_nothing = λ κs a i m. absurd (not-mem-nil m); agree = λ κs a z z' e e' p q. (found_agree z z' p q, refl) }

pub fixnum8_pred_zero_determined : Determined8 pred_zero_kinds.ps pred_zero_kinds.r pred_zero.Asked pred_zero.Learnt
fixnum8_pred_zero_determined L C D E = record { asks_nothing = λ κs a i m. absurd (not-mem-nil m); agree = λ κs a z z' e e' p q. (found_agree z z' p q, refl) }

pub fixnum64_pred_zero_determined : Determined64 pred_zero_kinds.ps pred_zero_kinds.r pred_zero.Asked pred_zero.Learnt
fixnum64_pred_zero_determined L C D E = record { asks_nothing = λ κs a i m. absurd (not-mem-nil m); agree = λ κs a z z' e e' p q. (found_agree z z' p q, refl) }

pub fixnum8_succ_one_determined : Determined8 succ_one_kinds.ps succ_one_kinds.r succ_one.Asked succ_one.Learnt
fixnum8_succ_one_determined L C D E = record { asks_nothing = λ κs a i m. absurd (not-mem-nil m); agree = λ κs a z z' e e' p q. (found_agree z z' p q, refl) }

pub fixnum64_succ_one_determined : Determined64 succ_one_kinds.ps succ_one_kinds.r succ_one.Asked succ_one.Learnt
fixnum64_succ_one_determined L C D E = record { asks_nothing = λ κs a i m. absurd (not-mem-nil m); agree = λ κs a z z' e e' p q. (found_agree z z' p q, refl) }

pub fixnum8_succ_zero_determined : Determined8 succ_zero_kinds.ps succ_zero_kinds.r succ_zero.Asked succ_zero.Learnt
fixnum8_succ_zero_determined L C D E = record { asks_nothing = λ κs a i m. absurd (not-mem-nil m); agree = λ κs a z z' e e' p q. (found_agree z z' p q, refl) }

pub fixnum64_succ_zero_determined : Determined64 succ_zero_kinds.ps succ_zero_kinds.r succ_zero.Asked succ_zero.Learnt
fixnum64_succ_zero_determined L C D E = record { asks_nothing = λ κs a i m. absurd (not-mem-nil m); agree = λ κs a z z' e e' p q. (found_agree z z' p q, refl) }

pub fixnum8_select_one_determined : Determined8 fixnum_select_one_kinds.ps fixnum_select_one_kinds.r fixnum_select_one.Asked fixnum_select_one.Learnt
fixnum8_select_one_determined L C D E = record { asks_nothing = λ κs a i m. absurd (not-mem-nil m); agree = λ κs a z z' e e' p q. (sought_agree z z' p q, refl) }

pub fixnum64_select_one_determined : Determined64 fixnum_select_one_kinds.ps fixnum_select_one_kinds.r fixnum_select_one.Asked fixnum_select_one.Learnt
fixnum64_select_one_determined L C D E = record { asks_nothing = λ κs a i m. absurd (not-mem-nil m); agree = λ κs a z z' e e' p q. (sought_agree z z' p q, refl) }

pub fixnum8_select_zero_determined : Determined8 select_zero_kinds.ps select_zero_kinds.r select_zero.Asked select_zero.Learnt
fixnum8_select_zero_determined L C D E = record { asks_nothing = λ κs a i m. absurd (not-mem-nil m); agree = λ κs a z z' e e' p q. (sought_agree z z' p q, refl) }

pub fixnum64_select_zero_determined : Determined64 select_zero_kinds.ps select_zero_kinds.r select_zero.Asked select_zero.Learnt
fixnum64_select_zero_determined L C D E = record { asks_nothing = λ κs a i m. absurd (not-mem-nil m); agree = λ κs a z z' e e' p q. (sought_agree z z' p q, refl) }

pub u8_word_wide_determined : Determined _ u8_word_wide_kinds.ps u8_word_wide_kinds.r u8_word_wide.Asked u8_word_wide.Learnt (Unit {0}) (λ κs e. tt)
u8_word_wide_determined = record { asks_nothing = λ κs a. tt; agree = λ κs a z z' e e' p q. (p.0 ∙ sym q.0, refl) }

pub u8_word_narrow_determined : Determined _ u8_word_narrow_kinds.ps u8_word_narrow_kinds.r u8_word_narrow.Asked u8_word_narrow.Learnt (Unit {0}) (λ κs e. tt)
u8_word_narrow_determined = record { asks_nothing = λ κs a. tt; agree = λ κs a z z' e e' p q. (p ∙ sym q, refl) }

pub u8_word_complement_determined : Determined _ u8_word_complement_kinds.ps u8_word_complement_kinds.r u8_word_complement.Asked u8_word_complement.Learnt (Unit {0}) (λ κs e. tt)
u8_word_complement_determined = record { asks_nothing = λ κs a. tt; agree = λ κs a z z' e e' p q. (p.0 ∙ sym q.0, refl) }

pub u8_word_pop_count_determined : Determined _ u8_word_pop_count_kinds.ps u8_word_pop_count_kinds.r u8_word_pop_count.Asked u8_word_pop_count.Learnt (Unit {0}) (λ κs e. tt)
u8_word_pop_count_determined = record { asks_nothing = λ κs a. tt; agree = λ κs a z z' e e' p q. (p ∙ sym q, refl) }

pub u8_word_select_one_determined : Determined _ u8_word_select_one_kinds.ps u8_word_select_one_kinds.r u8_word_select_one.Asked u8_word_select_one.Learnt (Unit {0}) (λ κs e. tt)
u8_word_select_one_determined = record { asks_nothing = λ κs a. tt; agree = λ κs a z z' e e' p q. (sought_agree z z' p q, refl) }

pub u64_word_wide_determined : Determined _ u64_word_wide_kinds.ps u64_word_wide_kinds.r u64_word_wide.Asked u64_word_wide.Learnt (Unit {0}) (λ κs e. tt)
u64_word_wide_determined = record { asks_nothing = λ κs a. tt; agree = λ κs a z z' e e' p q. (p.0 ∙ sym q.0, refl) }

pub u64_word_narrow_determined : Determined _ u64_word_narrow_kinds.ps u64_word_narrow_kinds.r u64_word_narrow.Asked u64_word_narrow.Learnt (Unit {0}) (λ κs e. tt)
u64_word_narrow_determined = record { asks_nothing = λ κs a. tt; agree = λ κs a z z' e e' p q. (p ∙ sym q, refl) }

pub u64_word_complement_determined : Determined _ u64_word_complement_kinds.ps u64_word_complement_kinds.r u64_word_complement.Asked u64_word_complement.Learnt (Unit {0}) (λ κs e. tt)
u64_word_complement_determined = record { asks_nothing = λ κs a. tt; agree = λ κs a z z' e e' p q. (p.0 ∙ sym q.0, refl) }

pub u64_word_pop_count_determined : Determined _ u64_word_pop_count_kinds.ps u64_word_pop_count_kinds.r u64_word_pop_count.Asked u64_word_pop_count.Learnt (Unit {0}) (λ κs e. tt)
u64_word_pop_count_determined = record { asks_nothing = λ κs a. tt; agree = λ κs a z z' e e' p q. (p ∙ sym q, refl) }

pub u64_word_select_one_determined : Determined _ u64_word_select_one_kinds.ps u64_word_select_one_kinds.r u64_word_select_one.Asked u64_word_select_one.Learnt (Unit {0}) (λ κs e. tt)
u64_word_select_one_determined = record { asks_nothing = λ κs a. tt; agree = λ κs a z z' e e' p q. (sought_agree z z' p q, refl) }
