-- The scan for a close, turn by turn, over any width.
use mathlib.Core.Path.{◌≡◌, sym, ap, ap₂, ◌∙◌}
use mathlib.Core.Bool.{true, false}
use mathlib.Core.Logic.{◌⊎◌, inl, inr}
use Prim.Native.Nat.{ℕ, suc, ◌+◌, ◌-◌, ◌≤◌, ◌<◌}
use native.Mathlib.Numerals.{add-one}
use native.Mathlib.Omega.{arith}
use lib.Dec.{eqb}
use lib.ListN.{length}
use Rattle.meaning.specs.Answers.{is, nothing}
use Rattle.meaning.specs.Bits.{bit}
use Rattle.meaning.specs.Match.{close_of}
use Rattle.meaning.specs.Word.{word_bits, word_close}
use Rattle.meaning.proofs.If as test
use Rattle.meaning.proofs.Scan.{waiting, scan_start, scan_open, scan_shut, scan_found, scan_end}
use Rattle.meaning.proofs.Word.{length_word, at_word, close_in, close_nothing, close_out, close_shut}
use Rattle.fixnum.proofs.Within.{bit_told}
use Rattle.fixnum.specs.Scan.{OneOpen, Passed}

-- before place j, n opens wait, and the close of the first of them is that of the open at i
pub record Scanned (w x i n j : ℕ) : Type 0 where
  pub inside : i < w
  pub opening : eqb (bit x i) 1 ≡ true
  pub to : j ≤ w
  pub some : 1 ≤ n
  pub few : n ≤ j
  pub close : close_of (word_bits w x) i ≡ waiting (word_bits w x) (n - 1) j

pub begin : (w x i : ℕ) → i < w → eqb (bit x i) 1 ≡ true → Scanned w x i 1 (i + 1)
begin w x i h e = record {
  inside = h;
  opening = e;
  to = omega arith;
  some = omega arith;
  few = omega arith;
  close = scan_start (word_bits w x) i ∙ ap (waiting (word_bits w x) 0) (sym (add-one i));
}

module _ {w x i n j : ℕ} (s : Scanned w x i n j) where
  pub may_pass : w ≤ 64 → j < w → OneOpen j n
  may_pass h l = record { inside = omega arith; some = s.some; few = s.few }

  module _ (r : ℕ) (h : j < w) (p : Passed x j n r) where
    long : j < length (word_bits w x)
    long = omega (arith, length_word w x)

    pub on : (r ≡ 0 → ⊥) → Scanned w x i r (j + 1)
    on z = record {
      inside = s.inside;
      opening = s.opening;
      to = omega arith;
      some = omega arith;
      few = few (test.bit (eqb (bit x j) 1));
      close = s.close ∙ close (test.bit (eqb (bit x j) 1));
    }
      where
        few : (eqb (bit x j) 1 ≡ true) ⊎ (eqb (bit x j) 1 ≡ false) → r ≤ j + 1
        few (inl t) = omega (arith, p.opened t, s.few)
        few (inr t) = omega (arith, p.shut t, s.few)

        close : (eqb (bit x j) 1 ≡ true) ⊎ (eqb (bit x j) 1 ≡ false) → waiting (word_bits w x) (n - 1) j ≡ waiting (word_bits w x) (r - 1) (j + 1)
        close (inl t) =
            let u : suc (n - 1) ≡ r - 1 = omega (arith, p.opened t, s.some) in
            scan_open (word_bits w x) (n - 1) j long (at_word w x j h ∙ t) ∙ ap₂ (waiting (word_bits w x)) u (sym (add-one j))
        close (inr t) =
            let u : n - 1 ≡ suc (r - 1) = omega (arith, p.shut t) in
            ap (λ (m : ℕ). waiting (word_bits w x) m j) u
            ∙ scan_shut (word_bits w x) (r - 1) j long (at_word w x j h ∙ t) ∙ ap (waiting (word_bits w x) (r - 1)) (sym (add-one j))

    pub here : r ≡ 0 → word_close w x i ≡ is j
    here z = close_in w x i s.inside s.opening j (s.close ∙ go (test.bit (eqb (bit x j) 1))) h
      where
        go : (eqb (bit x j) 1 ≡ true) ⊎ (eqb (bit x j) 1 ≡ false) → waiting (word_bits w x) (n - 1) j ≡ j
        go (inl t) = absurd (omega (arith, p.opened t))
        go (inr t) =
            let u : n - 1 ≡ 0 = omega (arith, p.shut t) in
            ap (λ (m : ℕ). waiting (word_bits w x) m j) u ∙ scan_found (word_bits w x) j long (at_word w x j h ∙ t)

  pub none : w ≤ j → word_close w x i ≡ nothing
  none h =
      close_nothing w x i s.inside s.opening
      (s.close ∙ scan_end (word_bits w x) (n - 1) j (omega (arith, length_word w x)) ∙ length_word w x)

-- what the steps of get_close rest on
pub ruleset closing = (close_out, close_shut, bit_told, begin, may_pass, here, on, none)
