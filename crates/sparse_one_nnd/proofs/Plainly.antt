-- THE END: on what a build left, rank, select, pred and succ are the plain count and places, for every place and rank.
use mathlib.Core.Path.{◌≡◌, ap₂, ◌∙◌}
use mathlib.Core.List.{List}
use Prim.Native.Nat.{ℕ}
use Rattle.meaning.specs.Bits.{bits_of}
use Rattle.meaning.specs.Plain.{plain_rank, plain_select, plain_pred, plain_succ}
use Rattle.meaning.specs.Direct.{DictRooms, dict_build, dict_rank, dict_select, dict_pred, dict_succ}
use Rattle.meaning.proofs.Plain.{select_only, pred_only, succ_only}
use Rattle.meaning.proofs.Direct.{direct_rank, direct_select, direct_pred, direct_succ}
use Rattle.meaning.proofs.Planned.{built_is}
use Rattle.std.specs.Prelude.{Option, Result, Ok}
use Rattle.refusal.specs.declared.Refusal.{Refusal}
use Rattle.refusal.specs.Said.{said_number, found_number}
use Rattle.sparse_one_nnd.specs.declared.SparseOneNnd.{SparseOneNnd}
use Rattle.sparse_one_nnd.specs.Said.{entries_in, dict_at, said_entries, after}
use Rattle.sparse_one_nnd.proofs.Agree.{count_agree}

-- the areas B, M and L as a build of the first n bits of ws left them, and the counts c that it answered
module _ (ws : List ℕ) (n : ℕ) (rooms : DictRooms) (c : SparseOneNnd) (B M L : List ℕ)
    (made : after (said_entries (Ok c)) (dict_at B M L) ≡ dict_build ws n rooms) (x : ℕ) where
  pub rank_plain : (a : Result ℕ Refusal) → said_number a ≡ dict_rank (entries_in c) (dict_at B M L) x → a ≡ Ok (plain_rank (bits_of ws n) x)
  unfolding plain_rank
  rank_plain a e =
      let p = built_is ws n rooms (entries_in c) (dict_at B M L) made in
      count_agree a (Ok (plain_rank (bits_of ws n) x))
      (e ∙ ap₂ (λ c d. dict_rank c d x) p.1 p.2 ∙ direct_rank ws n rooms p.0 x)

  pub select_plain : (a : Result (Option ℕ) Refusal) → found_number a ≡ dict_select (entries_in c) (dict_at B M L) x → found_number a ≡ plain_select (bits_of ws n) x
  select_plain a e =
      let p = built_is ws n rooms (entries_in c) (dict_at B M L) made in
      e ∙ ap₂ (λ c d. dict_select c d x) p.1 p.2 ∙ select_only (bits_of ws n) x _ (direct_select ws n rooms p.0 x)

  pub pred_plain : (a : Result (Option ℕ) Refusal) → found_number a ≡ dict_pred (entries_in c) (dict_at B M L) x → found_number a ≡ plain_pred (bits_of ws n) x
  pred_plain a e =
      let p = built_is ws n rooms (entries_in c) (dict_at B M L) made in
      e ∙ ap₂ (λ c d. dict_pred c d x) p.1 p.2 ∙ pred_only (bits_of ws n) x _ (direct_pred ws n rooms p.0 x)

  pub succ_plain : (a : Result (Option ℕ) Refusal) → found_number a ≡ dict_succ (entries_in c) (dict_at B M L) x → found_number a ≡ plain_succ (bits_of ws n) x
  succ_plain a e =
      let p = built_is ws n rooms (entries_in c) (dict_at B M L) made in
      e ∙ ap₂ (λ c d. dict_succ c d x) p.1 p.2 ∙ succ_only (bits_of ws n) x _ (direct_succ ws n rooms p.0 x)
