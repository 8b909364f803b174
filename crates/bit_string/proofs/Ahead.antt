-- Succ, word by word: there is no one from place i up to place o of word q.
use mathlib.Core.Path.{◌≡◌, refl, sym, ap, ◌∙◌, subst}
use mathlib.Core.Bool.{Bool, true, false}
use mathlib.Core.List.{List}
use Prim.Native.Nat.{ℕ, ◌+◌, ◌-◌, ◌*◌, ◌/◌, ◌%◌, ◌≤◌, ◌<◌}
use native.Mathlib.Decide.{dec_le, dec_lt}
use native.Mathlib.Omega.{arith}
use lib.ListN.{length, get_or, get_or-eq_default}
use Rattle.std.specs.Prelude.{Option, Some, None, Result, Ok, Err}
use Rattle.refusal.specs.declared.Refusal.{Refusal}
use Rattle.refusal.specs.Said.{found_number}
use Rattle.meaning.specs.Answers.{Answer, is, nothing}
use Rattle.meaning.specs.Plain.{side, plain_succ}
use Rattle.meaning.specs.Nearest.{IsSucc}
use Rattle.meaning.specs.Word.{word_bits, word_succ}
use Rattle.meaning.proofs.Count.{in_length}
use Rattle.meaning.proofs.Plain.{succ_only}
use Rattle.meaning.proofs.Sought.{succ_has}
use Rattle.meaning.proofs.Word.{length_word, inside}
use Rattle.bit_string.specs.Part.{Marked}

pub record Ahead (l : List Bool) (i q o : ℕ) : Type 0 where
  pub within : o < 64
  pub from : i ≤ 64 * q + o
  pub none : (m : ℕ) → i ≤ m → m < 64 * q + o → get_or l m false ≡ false

pub ahead_start : (l : List Bool) (i : ℕ) → Ahead l i (i / 64) (i % 64)
ahead_start l i = record { within = omega arith; from = omega arith; none = λ m a b. absurd (omega arith) }

-- what the word's own succ finds
in_word_lem : (x o : ℕ) → o < 64 → (a : Answer ℕ) → a ≡ word_succ true 64 x o → IsSucc (word_bits 64 x) o a
unfolding word_succ side
in_word_lem x o h a e = subst (IsSucc (word_bits 64 x) o) (sym (e ∙ inside 64 o (plain_succ (word_bits 64 x) o) h)) (succ_has (word_bits 64 x) o)

module _ {l : List Bool} {i q o x : ℕ} (s : Ahead l i q o) (w : Marked l q x) where
  none_to : (j : ℕ) → j ≤ 64 → ((m : ℕ) → o ≤ m → m < j → get_or (word_bits 64 x) m false ≡ false)
      → (m : ℕ) → i ≤ m → m < 64 * q + j → get_or l m false ≡ false
  none_to j b h m a c = go (dec_le (64 * q + o) m)
    where
      go : Dec (64 * q + o ≤ m) → get_or l m false ≡ false
      go (no d) = s.none m a (omega arith)
      go (yes d) =
          let z : 64 * q + (m - 64 * q) ≡ m = omega arith in
          ap (λ k. get_or l k false) (sym z) ∙ sym (w.bits (m - 64 * q) (omega arith)) ∙ h (m - 64 * q) (omega arith) (omega arith)

module _ {l : List Bool} {i q o x : ℕ} (s : Ahead l i q o) (w : Marked l q x) (f : Result (Option ℕ) Refusal) (e : found_number f ≡ word_succ true 64 x o) where
  met_in : (j : ℕ) → f ≡ Ok (Some j) → IsSucc (word_bits 64 x) o (is j)
  met_in j p = in_word_lem x o s.within (is j) (ap found_number (sym p) ∙ e)

  met_one : (j : ℕ) → f ≡ Ok (Some j) → (j < 64) × (get_or l (64 * q + j) false ≡ true)
  unfolding IsSucc
  met_one j p =
      let h = met_in j p in
      let b : j < 64 = omega (arith, in_length (word_bits 64 x) j h.0, length_word 64 x) in
      (b, sym (w.bits j b) ∙ h.0)

  pub met_lt : (j : ℕ) → f ≡ Ok (Some j) → 64 * q + j < length l
  met_lt j p = in_length l (64 * q + j) (met_one j p).1

  pub met : (j : ℕ) → f ≡ Ok (Some j) → is (64 * q + j) ≡ plain_succ l i
  unfolding IsSucc
  met j p =
      let h = met_in j p in
      let b = met_one j p in
      succ_only l i (is (64 * q + j)) (b.1, omega (arith, s.from, h.1), none_to s w j (omega (arith, b.0)) h.2)

  pub passed : ((j : ℕ) → f ≡ Ok (Some j) → ⊥) → Ahead l i (q + 1) 0
  unfolding IsSucc
  passed t = go f t (in_word_lem x o s.within (found_number f) e)
    where
      go : (f : Result (Option ℕ) Refusal) → ((j : ℕ) → f ≡ Ok (Some j) → ⊥) → IsSucc (word_bits 64 x) o (found_number f) → Ahead l i (q + 1) 0
      go (Ok (Some j)) z h = absurd (z j refl)
      go (Ok None) z h = record {
        within = omega arith;
        from = omega (arith, s.from, s.within);
        none = λ m a b. none_to s w 64 (omega arith) (λ k p q. h k p) m a (omega arith);
      }
      go (Err p) z h = absurd h

pub none_ahead : (l : List Bool) {i q o : ℕ} → Ahead l i q o → length l ≤ 64 * q → nothing ≡ plain_succ l i
unfolding IsSucc
none_ahead l {i} {q} {o} s h = succ_only l i nothing (λ m a. go m a (dec_lt m (64 * q + o)))
  where
    go : (m : ℕ) → i ≤ m → Dec (m < 64 * q + o) → get_or l m false ≡ false
    go m a (yes b) = s.none m a b
    go m a (no b) = get_or-eq_default l false (omega arith)
