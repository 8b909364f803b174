-- Select, word by word: of the k ones, some are in the words behind and the others still to come.
use mathlib.Core.Path.{◌≡◌, refl, sym, ap, ◌∙◌, subst}
use mathlib.Core.Bool.{Bool, true, false}
use mathlib.Core.List.{List}
use mathlib.Core.Logic.{inl, inr}
use Prim.Native.Nat.{ℕ, ◌+◌, ◌-◌, ◌*◌, ◌≤◌, ◌<◌}
use native.Mathlib.Omega.{arith}
use lib.ListN.{length, get_or, take}
use lib.Seq.{take_all}
use Rattle.meaning.specs.Answers.{is, nothing}
use Rattle.meaning.specs.Bits.{opens}
use Rattle.meaning.specs.Plain.{side, plain_select}
use Rattle.meaning.specs.Nearest.{IsSelect}
use Rattle.meaning.specs.Word.{word_bits, word_ones, word_select}
use Rattle.meaning.proofs.Count.{in_length}
use Rattle.meaning.proofs.Plain.{select_only}
use Rattle.meaning.proofs.Sought.{select_has}
use Rattle.meaning.proofs.Word.{length_word}
use Rattle.std.specs.Prelude.{Option, Some, None, Result, Ok, Err}
use Rattle.std.specs.Option.{ok_or}
use Rattle.refusal.specs.Said.{only_found}
use Rattle.bit_string.specs.Part.{Marked, NthIn}
use Rattle.bit_string.proofs.Part.{marks_more, marks_word}

pub record Behind (l : List Bool) (k left q : ℕ) : Type 0 where
  pub sum : opens (take (64 * q) l) + left ≡ k
  pub least : 0 < left

pub behind_none : (l : List Bool) (k : ℕ) → (k ≡ 0 → ⊥) → Behind l k k 0
unfolding opens
behind_none l k h = record { sum = omega arith; least = omega (arith, h) }

pub select_zero : (l : List Bool) (k : ℕ) → k ≡ 0 → nothing ≡ plain_select l k
unfolding IsSelect
select_zero l k e = select_only l k nothing (inl e)

module _ {l : List Bool} {k left q x : ℕ} (s : Behind l k left q) (m : Marked l q x) (t : Result ℕ ℕ) (u : NthIn (word_bits 64 x) left t) where
  hit_in : (j : ℕ) → t ≡ Ok j → NthIn (word_bits 64 x) left (Ok j)
  hit_in j e = subst (NthIn (word_bits 64 x) left) e u

  hit_one : (j : ℕ) → t ≡ Ok j → get_or l (64 * q + j) false ≡ true
  hit_one j e = let h = hit_in j e in sym (m.bits j h.0) ∙ h.1

  pub hit_lt : (j : ℕ) → t ≡ Ok j → 64 * q + j < length l
  hit_lt j e = in_length l (64 * q + j) (hit_one j e)

  pub hit : (j : ℕ) → t ≡ Ok j → is (64 * q + j) ≡ plain_select l k
  unfolding IsSelect
  hit j e =
      let h = hit_in j e in
      select_only l k (is (64 * q + j)) (hit_one j e, omega (arith, s.sum, h.2, marks_more m j (omega (arith, h.0))))

  pub miss : (r : ℕ) → t ≡ Err r → Behind l k r (q + 1)
  unfolding word_ones
  miss r e = go (subst (NthIn (word_bits 64 x) left) e u)
    where
      go : NthIn (word_bits 64 x) left (Err r) → Behind l k r (q + 1)
      go (inl z) = absurd (omega (arith, s.least))
      go (inr h) = record {
        sum = omega (arith, s.sum, h.0, marks_word m (opens (take (64 * q) l)) (opens (word_bits 64 x)) refl refl);
        least = h.1;
      }

pub none_left : (l : List Bool) {k left q : ℕ} → Behind l k left q → length l ≤ 64 * q → nothing ≡ plain_select l k
unfolding IsSelect
none_left l {k} {left} {q} s h =
    select_only l k nothing (inr (omega (arith, s.sum, s.least, ap opens (take_all (64 * q) l h))))

-- ---- one word

pub nth_rest : (x k o : ℕ) → o ≡ word_ones 64 x → o < k → NthIn (word_bits 64 x) k (Err (k - o))
unfolding word_ones
nth_rest x k o e h = inr (omega arith, omega arith)

pub nth_found : (x k : ℕ) (s : Option ℕ) → only_found s ≡ word_select true 64 x k → (o : ℕ) → o ≡ word_ones 64 x → k ≤ o
    → (r : Result ℕ ℕ) → r ≡ ok_or s 0 → NthIn (word_bits 64 x) k r
unfolding word_select word_ones side IsSelect
nth_found x k s e o q h r p = subst (NthIn (word_bits 64 x) k) (sym p) (go s (subst (IsSelect (word_bits 64 x) k) (sym e) (select_has (word_bits 64 x) k)))
  where
    go : (s : Option ℕ) → IsSelect (word_bits 64 x) k (only_found s) → NthIn (word_bits 64 x) k (ok_or s 0)
    go (Some j) z = (omega (arith, in_length (word_bits 64 x) j z.0, length_word 64 x), z.0, z.1)
    go None (inl z) = inl z
    go None (inr z) = absurd (omega arith)
