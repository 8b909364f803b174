-- Any two outcomes that the contract of a public function allows agree: of `Fid`, at the bit string.
use mathlib.Core.Path.{refl, sym, ◌∙◌}
use mathlib.Core.List.{List}
use Prim.Native.Nat.{ℕ}
use Rattle.meaning.specs.Determined.{Determined}
use Rattle.refusal.proofs.Agree.{same_number, same_found_number, same_found_bit, same_only_found_number}
use Rattle.bit_string.specs.declared.one_indices.OneIndices.{OneIndices}
use Rattle.bit_string.proofs.Agree.{edits_agree, same_step}
use Rattle.bit_string.proofs.BitString.get.Reads as get
use Rattle.bit_string.proofs.BitString.get.Kinds as get_kinds
use Rattle.bit_string.proofs.BitString.byte_size.Reads as byte_size
use Rattle.bit_string.proofs.BitString.byte_size.Kinds as byte_size_kinds
use Rattle.bit_string.proofs.find.BitStringFid.lent_words.Reads as lent_words
use Rattle.bit_string.proofs.find.BitStringFid.lent_words.Kinds as lent_words_kinds
use Rattle.bit_string.proofs.find.BitStringFid.len.Reads as len
use Rattle.bit_string.proofs.find.BitStringFid.len.Kinds as len_kinds
use Rattle.bit_string.proofs.find.BitStringFid.counted.Reads as counted
use Rattle.bit_string.proofs.find.BitStringFid.counted.Kinds as counted_kinds
use Rattle.bit_string.proofs.find.BitStringFid.nth.Reads as nth
use Rattle.bit_string.proofs.find.BitStringFid.nth.Kinds as nth_kinds
use Rattle.bit_string.proofs.find.BitStringFid.last.Reads as last
use Rattle.bit_string.proofs.find.BitStringFid.last.Kinds as last_kinds
use Rattle.bit_string.proofs.find.BitStringFid.first.Reads as first
use Rattle.bit_string.proofs.find.BitStringFid.first.Kinds as first_kinds
use Rattle.bit_string.proofs.find.BitStringFid.checked_len.Reads as checked_len
use Rattle.bit_string.proofs.find.BitStringFid.checked_len.Kinds as checked_len_kinds
use Rattle.bit_string.proofs.find.BitStringFid.admitted.Reads as admitted
use Rattle.bit_string.proofs.find.BitStringFid.admitted.Kinds as admitted_kinds
use Rattle.bit_string.proofs.find.BitStringFid.rank.Reads as rank
use Rattle.bit_string.proofs.find.BitStringFid.rank.Kinds as rank_kinds
use Rattle.bit_string.proofs.find.BitStringFid.select.Reads as select
use Rattle.bit_string.proofs.find.BitStringFid.select.Kinds as select_kinds
use Rattle.bit_string.proofs.find.BitStringFid.pred.Reads as pred
use Rattle.bit_string.proofs.find.BitStringFid.pred.Kinds as pred_kinds
use Rattle.bit_string.proofs.find.BitStringFid.succ.Reads as succ
use Rattle.bit_string.proofs.find.BitStringFid.succ.Kinds as succ_kinds
use Rattle.bit_string.proofs.find.BitStringFid.rank_one.Reads as rank_one
use Rattle.bit_string.proofs.find.BitStringFid.rank_one.Kinds as rank_one_kinds
use Rattle.bit_string.proofs.find.BitStringFid.rank_zero.Reads as rank_zero
use Rattle.bit_string.proofs.find.BitStringFid.rank_zero.Kinds as rank_zero_kinds
use Rattle.bit_string.proofs.find.BitStringFid.select_one.Reads as select_one
use Rattle.bit_string.proofs.find.BitStringFid.select_one.Kinds as select_one_kinds
use Rattle.bit_string.proofs.find.BitStringFid.select_zero.Reads as select_zero
use Rattle.bit_string.proofs.find.BitStringFid.select_zero.Kinds as select_zero_kinds
use Rattle.bit_string.proofs.find.BitStringFid.pred_one.Reads as pred_one
use Rattle.bit_string.proofs.find.BitStringFid.pred_one.Kinds as pred_one_kinds
use Rattle.bit_string.proofs.find.BitStringFid.pred_zero.Reads as pred_zero
use Rattle.bit_string.proofs.find.BitStringFid.pred_zero.Kinds as pred_zero_kinds
use Rattle.bit_string.proofs.find.BitStringFid.succ_one.Reads as succ_one
use Rattle.bit_string.proofs.find.BitStringFid.succ_one.Kinds as succ_one_kinds
use Rattle.bit_string.proofs.find.BitStringFid.succ_zero.Reads as succ_zero
use Rattle.bit_string.proofs.find.BitStringFid.succ_zero.Kinds as succ_zero_kinds
use Rattle.bit_string.proofs.set.Reads as set
use Rattle.bit_string.proofs.set.Kinds as set_kinds
use Rattle.bit_string.proofs.push.Reads as push
use Rattle.bit_string.proofs.push.Kinds as push_kinds
use Rattle.bit_string.proofs.resize.Reads as resize
use Rattle.bit_string.proofs.resize.Kinds as resize_kinds
use Rattle.bit_string.proofs.Cursor.new.Reads as cursor_new
use Rattle.bit_string.proofs.Cursor.new.Kinds as cursor_new_kinds
use Rattle.bit_string.proofs.Cursor.step.Reads as step
use Rattle.bit_string.proofs.Cursor.step.Kinds as step_kinds
use Rattle.bit_string.proofs.one_indices.OneIndices.new.Reads as one_indices_new
use Rattle.bit_string.proofs.one_indices.OneIndices.new.Kinds as one_indices_new_kinds
use Rattle.bit_string.proofs.one_indices.OneIndices.next.Reads as one_indices_next
use Rattle.bit_string.proofs.one_indices.OneIndices.next.Kinds as one_indices_next_kinds

pub get_determined : Determined _ get_kinds.ps get_kinds.r get.Asked get.Learnt (Unit {0}) (λ κs e. tt)
get_determined = record { asks_nothing = λ κs a. tt; agree = λ κs a z z' e e' p q. (same_found_bit z z' (p ∙ sym q), refl) }

pub byte_size_determined : Determined _ byte_size_kinds.ps byte_size_kinds.r byte_size.Asked byte_size.Learnt (Unit {0}) (λ κs e. tt)
byte_size_determined = record { asks_nothing = λ κs a. tt; agree = λ κs a z z' e e' p q. (same_number z z' (p ∙ sym q), refl) }

pub lent_words_determined : Determined _ lent_words_kinds.ps lent_words_kinds.r lent_words.Asked lent_words.Learnt (Unit {0}) (λ κs e. tt)
lent_words_determined = record { asks_nothing = λ κs a. tt; agree = λ κs a z z' e e' p q. (p ∙ sym q, refl) }

pub len_determined : Determined _ len_kinds.ps len_kinds.r len.Asked len.Learnt (Unit {0}) (λ κs e. tt)
len_determined = record { asks_nothing = λ κs a. tt; agree = λ κs a z z' e e' p q. (p ∙ sym q, refl) }

pub counted_determined : Determined _ counted_kinds.ps counted_kinds.r counted.Asked counted.Learnt (Unit {0}) (λ κs e. tt)
counted_determined = record { asks_nothing = λ κs a. tt; agree = λ κs a z z' e e' p q. (p ∙ sym q, refl) }

pub nth_determined : Determined _ nth_kinds.ps nth_kinds.r nth.Asked nth.Learnt (Unit {0}) (λ κs e. tt)
nth_determined = record { asks_nothing = λ κs a. tt; agree = λ κs a z z' e e' p q. (same_only_found_number z z' (p ∙ sym q), refl) }

pub last_determined : Determined _ last_kinds.ps last_kinds.r last.Asked last.Learnt (Unit {0}) (λ κs e. tt)
last_determined = record { asks_nothing = λ κs a. tt; agree = λ κs a z z' e e' p q. (same_only_found_number z z' (p ∙ sym q), refl) }

pub first_determined : Determined _ first_kinds.ps first_kinds.r first.Asked first.Learnt (Unit {0}) (λ κs e. tt)
first_determined = record { asks_nothing = λ κs a. tt; agree = λ κs a z z' e e' p q. (same_only_found_number z z' (p ∙ sym q), refl) }

pub checked_len_determined : Determined _ checked_len_kinds.ps checked_len_kinds.r checked_len.Asked checked_len.Learnt (Unit {0}) (λ κs e. tt)
checked_len_determined = record { asks_nothing = λ κs a. tt; agree = λ κs a z z' e e' p q. (same_number z z' (p ∙ sym q), refl) }

pub admitted_determined : Determined _ admitted_kinds.ps admitted_kinds.r admitted.Asked admitted.Learnt (Unit {0}) (λ κs e. tt)
admitted_determined = record { asks_nothing = λ κs a. tt; agree = λ κs a z z' e e' p q. (same_number z z' (p ∙ sym q), refl) }

pub rank_determined : Determined _ rank_kinds.ps rank_kinds.r rank.Asked rank.Learnt (Unit {0}) (λ κs e. tt)
rank_determined = record { asks_nothing = λ κs a. tt; agree = λ κs a z z' e e' p q. (same_number z z' (p ∙ sym q), refl) }

pub select_determined : Determined _ select_kinds.ps select_kinds.r select.Asked select.Learnt (Unit {0}) (λ κs e. tt)
select_determined = record { asks_nothing = λ κs a. tt; agree = λ κs a z z' e e' p q. (same_found_number z z' (p ∙ sym q), refl) }

pub pred_determined : Determined _ pred_kinds.ps pred_kinds.r pred.Asked pred.Learnt (Unit {0}) (λ κs e. tt)
pred_determined = record { asks_nothing = λ κs a. tt; agree = λ κs a z z' e e' p q. (same_found_number z z' (p ∙ sym q), refl) }

pub succ_determined : Determined _ succ_kinds.ps succ_kinds.r succ.Asked succ.Learnt (Unit {0}) (λ κs e. tt)
succ_determined = record { asks_nothing = λ κs a. tt; agree = λ κs a z z' e e' p q. (same_found_number z z' (p ∙ sym q), refl) }

pub rank_one_determined : Determined _ rank_one_kinds.ps rank_one_kinds.r rank_one.Asked rank_one.Learnt (Unit {0}) (λ κs e. tt)
rank_one_determined = record { asks_nothing = λ κs a. tt; agree = λ κs a z z' e e' p q. (same_number z z' (p ∙ sym q), refl) }

pub rank_zero_determined : Determined _ rank_zero_kinds.ps rank_zero_kinds.r rank_zero.Asked rank_zero.Learnt (Unit {0}) (λ κs e. tt)
rank_zero_determined = record { asks_nothing = λ κs a. tt; agree = λ κs a z z' e e' p q. (same_number z z' (p ∙ sym q), refl) }

pub select_one_determined : Determined _ select_one_kinds.ps select_one_kinds.r select_one.Asked select_one.Learnt (Unit {0}) (λ κs e. tt)
select_one_determined = record { asks_nothing = λ κs a. tt; agree = λ κs a z z' e e' p q. (same_found_number z z' (p ∙ sym q), refl) }

pub select_zero_determined : Determined _ select_zero_kinds.ps select_zero_kinds.r select_zero.Asked select_zero.Learnt (Unit {0}) (λ κs e. tt)
select_zero_determined = record { asks_nothing = λ κs a. tt; agree = λ κs a z z' e e' p q. (same_found_number z z' (p ∙ sym q), refl) }

pub pred_one_determined : Determined _ pred_one_kinds.ps pred_one_kinds.r pred_one.Asked pred_one.Learnt (Unit {0}) (λ κs e. tt)
pred_one_determined = record { asks_nothing = λ κs a. tt; agree = λ κs a z z' e e' p q. (same_found_number z z' (p ∙ sym q), refl) }

pub pred_zero_determined : Determined _ pred_zero_kinds.ps pred_zero_kinds.r pred_zero.Asked pred_zero.Learnt (Unit {0}) (λ κs e. tt)
pred_zero_determined = record { asks_nothing = λ κs a. tt; agree = λ κs a z z' e e' p q. (same_found_number z z' (p ∙ sym q), refl) }

pub succ_one_determined : Determined _ succ_one_kinds.ps succ_one_kinds.r succ_one.Asked succ_one.Learnt (Unit {0}) (λ κs e. tt)
succ_one_determined = record { asks_nothing = λ κs a. tt; agree = λ κs a z z' e e' p q. (same_found_number z z' (p ∙ sym q), refl) }

pub succ_zero_determined : Determined _ succ_zero_kinds.ps succ_zero_kinds.r succ_zero.Asked succ_zero.Learnt (Unit {0}) (λ κs e. tt)
succ_zero_determined = record { asks_nothing = λ κs a. tt; agree = λ κs a z z' e e' p q. (same_found_number z z' (p ∙ sym q), refl) }

pub set_determined : Determined _ set_kinds.ps set_kinds.r set.Asked set.Learnt (List ℕ) (λ κs e. e.0.now)
set_determined = record { asks_nothing = λ κs a. tt; agree = λ κs a z z' e e' p q. edits_agree z z' e.0.now e'.0.now (p ∙ sym q) }

pub push_determined : Determined _ push_kinds.ps push_kinds.r push.Asked push.Learnt (List ℕ) (λ κs e. e.0.now)
push_determined = record { asks_nothing = λ κs a. tt; agree = λ κs a z z' e e' p q. edits_agree z z' e.0.now e'.0.now (p ∙ sym q) }

pub resize_determined : Determined _ resize_kinds.ps resize_kinds.r resize.Asked resize.Learnt (List ℕ) (λ κs e. e.0.now)
resize_determined = record { asks_nothing = λ κs a. tt; agree = λ κs a z z' e e' p q. edits_agree z z' e.0.now e'.0.now (p ∙ sym q) }

pub cursor_new_determined : Determined _ cursor_new_kinds.ps cursor_new_kinds.r cursor_new.Asked cursor_new.Learnt (Unit {0}) (λ κs e. tt)
cursor_new_determined = record { asks_nothing = λ κs a. tt; agree = λ κs a z z' e e' p q. (λ k. record { next = (p ∙ sym q) k }, refl) }

pub step_determined : Determined _ step_kinds.ps step_kinds.r step.Asked step.Learnt (Unit {0}) (λ κs e. tt)
step_determined = record { asks_nothing = λ κs a. tt; agree = λ κs a z z' e e' p q. (same_step z z' (p ∙ sym q), refl) }

pub one_indices_new_determined : Determined _ one_indices_new_kinds.ps one_indices_new_kinds.r one_indices_new.Asked one_indices_new.Learnt (Unit {0}) (λ κs e. tt)
one_indices_new_determined = record { asks_nothing = λ κs a. tt; agree = λ κs a z z' e e' p q. (λ k. record { string = (p.0 ∙ sym q.0) k; next = (p.1 ∙ sym q.1) k }, refl) }

pub one_indices_next_determined : Determined _ one_indices_next_kinds.ps one_indices_next_kinds.r one_indices_next.Asked one_indices_next.Learnt OneIndices (λ κs e. e.0.now)
one_indices_next_determined = record { asks_nothing = λ κs a. tt; agree = λ κs a z z' e e' p q. (same_found_number z z' (p.0 ∙ sym q.0), p.1 ∙ sym q.1) }
