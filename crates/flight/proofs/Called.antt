-- What a call returns and leaves in `out`.
use mathlib.Core.Path.{◌≡◌, sym, ap, ◌∙◌}
use mathlib.Core.Bool.{Bool, true, false}
use mathlib.Core.List.{List}
use Prim.Native.Nat.{ℕ}
use lib.ListN.{length, get_or}
use lib.Seq.{sets}
use Rattle.meaning.specs.Answers.{Answer}
use Rattle.meaning.specs.Build.{Tree}
use Rattle.meaning.proofs.If.{if_true, if_false}
use Rattle.flight.specs.declared.reply.Reply.{Reply}
use Rattle.flight.specs.Layout.{status, four_at, four, put, reply, numbers, short}
use Rattle.flight.specs.Calls.{Call, call, replied, answering, asked}

-- a reply told
pub reply_told : (r : Reply) (out out' : List ℕ) → out' ≡ sets out 0 (four r.out) → call r.returned out' ≡ replied r out
unfolding replied
reply_told r out out' = ap (call r.returned)

module _ (r : Reply) (n : ℕ) (out : List ℕ) where
  pub answer_short : (b : Bool) → b ≡ short n (length out) → b ≡ true → call 15 out ≡ answering r n out
  unfolding answering
  answer_short b e f = sym (if_true _ _ (sym e ∙ f))

  pub answer_told : (b : Bool) → b ≡ short n (length out) → b ≡ false → (y : Call) → y ≡ replied r out → y ≡ answering r n out
  unfolding answering
  answer_told b e f y g = g ∙ sym (if_false _ _ (sym e ∙ f))

-- a call that tells five numbers
tell : List ℕ → List ℕ → Call
tell x out = call (get_or x 0 0) (sets out 0 (four_at x 1))

module _ {A : Type 0} (f : A → List ℕ) where
  -- a reply that has an answer's numbers
  pub replies : (s : Answer A) (r : Reply) (out : List ℕ) → numbers r ≡ reply f s → replied r out ≡ call (status s) (put f s out)
  unfolding replied put tell
  replies s r out h = ap (λ x. tell x out) h

  pub says : (s : Answer A) (r : Reply) (n : ℕ) (out : List ℕ) {y : Call} → numbers r ≡ reply f s → y ≡ answering r n out → y ≡ asked f s n out
  unfolding asked answering
  says s r n out h k = k ∙ ap (λ x. elim (short n (length out)) [ true ↦ call 15 out | false ↦ x ]) (replies s r out h)

  -- a question: the tree t of the record, the tree's answer s, the reply r
  pub asks : (ask : Tree → Answer A) {t t' : Tree} {s : Answer A} (r : Reply) (n : ℕ) (out : List ℕ) {y : Call}
      → t ≡ t' → s ≡ ask t → numbers r ≡ reply f s → y ≡ answering r n out → y ≡ asked f (ask t') n out
  asks ask r n out e g h k = says _ r n out (h ∙ ap (reply f) (g ∙ ap ask e)) k
