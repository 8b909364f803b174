-- What `read_list` left, by its answer: the input's output from the levels and labels that it read.
use mathlib.Core.Path.{◌≡◌, refl, sym, ap, ◌∙◌}
use mathlib.Core.List.{List, map}
use Prim.Native.Nat.{ℕ, ◌-◌, ◌≤◌}
use native.Mathlib.Omega.{arith}
use borrow.Author.Tests.{le-leb}
use lib.ListN.{length, take, replicate, length-map}
use lib.Seq.{take_at}
use Rattle.meaning.specs.Answers.{is, refused}
use Rattle.meaning.specs.List.{offending}
use Rattle.meaning.specs.Areas.{filled}
use Rattle.meaning.specs.Refusals.{level_rule}
use Rattle.meaning.specs.Listing.{Entry, level_of, label_of, Text, text_of, bad_text, Reading, reading, outcome, read_of, refusal_line, built, answer_to, listwalk_of}
use Rattle.meaning.proofs.If.{if_true, and_true}
use Rattle.meaning.proofs.ReadList.{list_spelt}
use Rattle.std.specs.Prelude.{Option, None, Some, Result, Ok, Err}
use Rattle.refusal.specs.Said.{found_number, refusal_of}
use Rattle.refusal.specs.declared.Refusal.{Refusal}

-- the first k levels and labels are the list's
pub record ToldList (s : List ℕ) (k : ℕ) (ls bs : List ℕ) : Type 0 where
  pub few : k ≤ 512
  pub levels : length (take k ls) ≡ k
  pub labels : length (take k bs) ≡ k
  pub text : listwalk_of s ≡ built (level_rule (offending (take k ls))) (take k ls) (take k bs)

module _ (s : List ℕ) (m n : ℕ) (r : Result (Option ℕ) Refusal) (ls bs : List ℕ) (e : reading (found_number r) ls bs ≡ read_of s m n) (wide : 512 ≤ m) (broad : 512 ≤ n) where
  read_wide : reading (found_number r) ls bs ≡ outcome (text_of s) m n
  unfolding read_of
  read_wide = e ∙ if_true _ _ (and_true (le-leb 512 m wide) (le-leb 512 n broad))

  taken : (j k : ℕ) (es : List Entry) (f : Entry → ℕ) (t : List ℕ) → length es ≡ k → t ≡ filled j (map f es) → take k t ≡ map f es
  unfolding filled
  taken j k es f t u v = ap (take k) v ∙ take_at (map f es) (replicate (j - length (map f es)) 0) k (length-map es f ∙ u)

  pub told_list : (x : Option ℕ) (k : ℕ) → r ≡ Ok x → x ≡ Some k → ToldList s k ls bs
  unfolding listwalk_of answer_to outcome text_of
  told_list x k f h = go (text_of s) refl read_wide
    where
      g : r ≡ Ok (Some k)
      g = f ∙ ap Ok h

      go : (t : Text) → text_of s ≡ t → reading (found_number r) ls bs ≡ outcome t m n → ToldList s k ls bs
      go (Text.list es) p q =
          let w : found_number r ≡ is (length es) = ap (λ (o : Reading). o.reply) q in
          let u : length es ≡ k = cc (ap found_number g) in
          let x = taken m k es level_of ls u (ap (λ (o : Reading). o.levels) q) in
          let y = taken n k es label_of bs u (ap (λ (o : Reading). o.labels) q) in
          record {
            few = omega (arith, (list_spelt 512 s es p).few);
            levels = ap length x ∙ length-map es level_of ∙ u;
            labels = ap length y ∙ length-map es label_of ∙ u;
            text = ap answer_to p ∙ sym (λ i. built (level_rule (offending (x i))) (x i) (y i));
          }
      go (Text.bad j) h q =
          let w : found_number r ≡ refused (bad_text j) = ap (λ (o : Reading). o.reply) q in
          let x = ap found_number g in
          let z : ◌≡◌ {A = ℕ} 0 1 = cc in absurd (omega arith)

  pub told_bad : (f : Refusal) → r ≡ Err f → listwalk_of s ≡ refusal_line (refusal_of f)
  unfolding listwalk_of answer_to outcome
  told_bad f g = go (text_of s) refl read_wide
    where
      go : (t : Text) → text_of s ≡ t → reading (found_number r) ls bs ≡ outcome t m n → listwalk_of s ≡ refusal_line (refusal_of f)
      go (Text.list es) h q =
          let w : found_number r ≡ is (length es) = ap (λ (o : Reading). o.reply) q in
          let x = ap found_number g in
          let z : ◌≡◌ {A = ℕ} 0 1 = cc in absurd (omega arith)
      go (Text.bad j) h q =
          let w : found_number r ≡ refused (bad_text j) = ap (λ (o : Reading). o.reply) q in
          let x = ap found_number g in
          let u : bad_text j ≡ refusal_of f = cc in
          ap answer_to h ∙ ap refusal_line u

  pub never_room : (x : Option ℕ) → r ≡ Ok x → x ≡ None → ⊥
  unfolding outcome
  never_room x f h = go (text_of s) read_wide
    where
      g : r ≡ Ok None
      g = f ∙ ap Ok h

      go : (t : Text) → reading (found_number r) ls bs ≡ outcome t m n → ⊥
      go (Text.list es) q =
          let w : found_number r ≡ is (length es) = ap (λ (o : Reading). o.reply) q in
          let x = ap found_number g in
          let z : ◌≡◌ {A = ℕ} 0 1 = cc in omega arith
      go (Text.bad j) q =
          let w : found_number r ≡ refused (bad_text j) = ap (λ (o : Reading). o.reply) q in
          let x = ap found_number g in
          let z : ◌≡◌ {A = ℕ} 0 1 = cc in omega arith
