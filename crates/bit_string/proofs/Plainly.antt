-- "LinearFid, which is the plain meaning of rank, select, pred and succ": of one string the bit string's question and the plain scan's have one answer, by their contracts.
use mathlib.Core.Path.{◌≡◌, sym, ◌∙◌}
use mathlib.Core.Bool.{true, false}
use mathlib.Core.List.{List}
use Prim.Native.Nat.{ℕ}
use contract.Lifetimes.{Lfts}
use borrow.Fn.Kind.{ResultKind}
use borrow.Fn.Kinds.{Out, Dens, res_t, ended_of}
use denote.Triple.Clauses.{AtExit}
use Rattle.meaning.specs.BitString.{string_rank, string_select, string_pred, string_succ}
use Rattle.refusal.proofs.Agree.{same_number, same_found_number}
use Rattle.bit_string.proofs.find.BitStringFid.rank_one.Kinds as rank
use Rattle.bit_string.proofs.find.BitStringFid.select_one.Kinds as spot
use Rattle.ops.proofs.linear_fid.LinearFidFid.rank_one.Kinds as scan
use Rattle.bit_string.proofs.find.BitStringFid.rank_one.Reads as rank_one
use Rattle.ops.proofs.linear_fid.LinearFidFid.rank_one.Reads as scan_rank_one
use Rattle.bit_string.proofs.find.BitStringFid.rank_zero.Reads as rank_zero
use Rattle.ops.proofs.linear_fid.LinearFidFid.rank_zero.Reads as scan_rank_zero
use Rattle.bit_string.proofs.find.BitStringFid.select_one.Reads as select_one
use Rattle.ops.proofs.linear_fid.LinearFidFid.select_one.Reads as scan_select_one
use Rattle.bit_string.proofs.find.BitStringFid.select_zero.Reads as select_zero
use Rattle.ops.proofs.linear_fid.LinearFidFid.select_zero.Reads as scan_select_zero
use Rattle.bit_string.proofs.find.BitStringFid.pred_one.Reads as pred_one
use Rattle.ops.proofs.linear_fid.LinearFidFid.pred_one.Reads as scan_pred_one
use Rattle.bit_string.proofs.find.BitStringFid.pred_zero.Reads as pred_zero
use Rattle.ops.proofs.linear_fid.LinearFidFid.pred_zero.Reads as scan_pred_zero
use Rattle.bit_string.proofs.find.BitStringFid.succ_one.Reads as succ_one
use Rattle.ops.proofs.linear_fid.LinearFidFid.succ_one.Reads as scan_succ_one
use Rattle.bit_string.proofs.find.BitStringFid.succ_zero.Reads as succ_zero
use Rattle.ops.proofs.linear_fid.LinearFidFid.succ_zero.Reads as scan_succ_zero

-- two contracts allow the same answer, of the same words, the same length and the same place or rank
abbrev Alike : (r : ResultKind 2) → Out 2 rank.ps r → Out 2 scan.ps r → Type 0
Alike r Allows Allows' =
    (κs : Lfts 2) (a : Dens κs rank.ps) (b : Dens κs scan.ps) (z z' : (res_t r κs).Denot) (e : AtExit (ended_of 2 rank.ps r) κs) (e' : AtExit (ended_of 2 scan.ps r) κs)
    → (a.0.now.words.now ≡ b.0.now.words.now) × (a.0.now.len ≡ b.0.now.len) × (a.1.0 ≡ b.1.0)
    → Allows κs a z e → Allows' κs b z' e' → z ≡ z'

one : {A : Type 0} (f : List ℕ → ℕ → ℕ → A) {ws vs : List ℕ} {n m i j : ℕ} → (ws ≡ vs) × (n ≡ m) × (i ≡ j) → f ws n i ≡ f vs m j
one f h = λ k. f (h.0 k) (h.1 k) (h.2 k)

pub rank_one_plainly : Alike rank.r rank_one.Learnt scan_rank_one.Learnt
rank_one_plainly κs a b z z' e e' h p q = same_number z z' (p ∙ one (string_rank true) h ∙ sym q)

pub rank_zero_plainly : Alike rank.r rank_zero.Learnt scan_rank_zero.Learnt
rank_zero_plainly κs a b z z' e e' h p q = same_number z z' (p ∙ one (string_rank false) h ∙ sym q)

pub select_one_plainly : Alike spot.r select_one.Learnt scan_select_one.Learnt
select_one_plainly κs a b z z' e e' h p q = same_found_number z z' (p ∙ one (string_select true) h ∙ sym q)

pub select_zero_plainly : Alike spot.r select_zero.Learnt scan_select_zero.Learnt
select_zero_plainly κs a b z z' e e' h p q = same_found_number z z' (p ∙ one (string_select false) h ∙ sym q)

pub pred_one_plainly : Alike spot.r pred_one.Learnt scan_pred_one.Learnt
pred_one_plainly κs a b z z' e e' h p q = same_found_number z z' (p ∙ one (string_pred true) h ∙ sym q)

pub pred_zero_plainly : Alike spot.r pred_zero.Learnt scan_pred_zero.Learnt
pred_zero_plainly κs a b z z' e e' h p q = same_found_number z z' (p ∙ one (string_pred false) h ∙ sym q)

pub succ_one_plainly : Alike spot.r succ_one.Learnt scan_succ_one.Learnt
succ_one_plainly κs a b z z' e e' h p q = same_found_number z z' (p ∙ one (string_succ true) h ∙ sym q)

pub succ_zero_plainly : Alike spot.r succ_zero.Learnt scan_succ_zero.Learnt
succ_zero_plainly κs a b z z' e e' h p q = same_found_number z z' (p ∙ one (string_succ false) h ∙ sym q)
