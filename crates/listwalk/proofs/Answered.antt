-- The answer in a buffer; two answers agree; the buffer's first bytes decide for the whole input.
use mathlib.Core.Path.{◌≡◌, refl, sym, ap, ◌∙◌}
use mathlib.Core.List.{List}
use Prim.Native.Nat.{ℕ, ◌+◌}
use native.Mathlib.Omega.{arith}
use borrow.Author.Tests.{le-leb, lt-leb}
use lib.ListN.{length, take, drop}
use lib.Seq.{sets-eq, length-sets, take_at}
use Rattle.meaning.specs.Listing.{listwalk_of}
use Rattle.meaning.proofs.If.{if_true, if_false}
use Rattle.meaning.proofs.TextSize.{listwalk_size, listwalk_cut}
use Rattle.listing.specs.Said.{Puts}
use Rattle.std.specs.Prelude.{Option, None, Some}
use Rattle.std.specs.Option.{unwrap_or}
use Rattle.listing.proofs.Putting.{is_next, is_room}
use Rattle.listwalk.specs.Answered.{all_or_none, Answered}

module _ {s b a : List ℕ} {p : Option ℕ} (f : Puts b 0 (listwalk_of s) p a) where
  all_there : (n : ℕ) → p ≡ Some n → Answered s b n a
  unfolding all_or_none
  all_there n e =
      let x = listwalk_of s in
      let h = is_next (length b) 0 (length x) n (sym e ∙ f.answer) in
      let u : n ≡ length x = omega (arith, h.0) in
      let l : length a ≡ length b = ap length f.bytes ∙ length-sets b 0 x in
      let v : take n a ≡ x = ap (take n) (f.bytes ∙ sets-eq x b 0 h.1) ∙ take_at x (drop (0 + length x) b) n (sym u) in
      record {
        counts = (omega (arith, h.1), u ∙ sym (ap length v));
        number = u ∙ sym (if_true _ _ (le-leb (length x) (length b) (omega (arith, h.1))));
        bytes = f.bytes;
        text = λ k. v;
      }

  none_there : p ≡ None → Answered s b 0 a
  unfolding all_or_none
  none_there e =
      let x = listwalk_of s in
      let h = is_room (length b) 0 (length x) (sym e ∙ f.answer) in
      record {
        counts = (omega arith, refl);
        number = sym (if_false _ _ (lt-leb (length x) (length b) (omega arith)));
        bytes = f.bytes;
        text = λ k. absurd (omega (arith, listwalk_size s));
      }

-- the count that the program goes on with
pub answered : {s b a : List ℕ} (p : Option ℕ) → Puts b 0 (listwalk_of s) p a → Answered s b (unwrap_or p 0) a
answered (Some n) f = all_there f n refl
answered None f = none_there f refl

-- any two outcomes agree
pub answers_agree : {s b : List ℕ} {n n' : ℕ} {a a' : List ℕ} → Answered s b n a → Answered s b n' a' → (n ≡ n') × (a ≡ a')
answers_agree p q = (p.number ∙ sym q.number, p.bytes ∙ sym q.bytes)

-- of an input of any length, read as far as a buffer of 65,536 bytes goes, and answered in such a buffer
pub whole_input : (s : List ℕ) {b : List ℕ} {n : ℕ} {a : List ℕ} → length b ≡ 65536 → Answered (take 65536 s) b n a → take n a ≡ listwalk_of s
whole_input s l p = p.text (omega arith) ∙ listwalk_cut 65536 s (omega arith)
