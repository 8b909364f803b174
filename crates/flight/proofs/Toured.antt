-- What a walk returns, and leaves in `out`, the two lists and scratch.
use mathlib.Core.Path.{◌≡◌, sym, ap, ◌∙◌}
use mathlib.Core.Bool.{Bool, true, false}
use mathlib.Core.List.{List}
use Prim.Native.Nat.{ℕ}
use lib.ListN.{length, replicate}
use Rattle.meaning.specs.Build.{Lent, Tree}
use Rattle.meaning.specs.Walking.{walking}
use Rattle.meaning.proofs.If.{if_true, if_false}
use Rattle.std.specs.Prelude.{Result}
use Rattle.refusal.specs.Said.{said_number}
use Rattle.refusal.specs.declared.Refusal.{Refusal}
use Rattle.walk.specs.Said.{walked, rooms_at}
use Rattle.flight.specs.declared.reply.Reply.{Reply}
use Rattle.flight.specs.Layout.{tree_at, of_number, reply, numbers, short}
use Rattle.flight.specs.Calls.{call, replied, tour, toured, touring}
use Rattle.flight.proofs.Called.{replies}

module _ (a : Lent) (r vs bs s out vs' bs' s' : List ℕ) (t : Bool) (e : t ≡ short (length r) (length out)) where
  pub tour_short : t ≡ true → vs' ≡ replicate (length vs) 0 → bs' ≡ replicate (length bs) 0 → s' ≡ replicate (length s) 0
      → tour 15 out vs' bs' s' ≡ touring a r (rooms_at vs bs s) out
  unfolding touring
  tour_short f g h i = rw (g, h, i) (sym (if_true _ _ (sym e ∙ f)))

  pub tour_told : t ≡ false → (v : Tree) → v ≡ tree_at r → (w : Result ℕ Refusal) → walked (said_number w) vs' bs' s' ≡ walking v a (rooms_at vs bs s)
      → (x : Reply) → numbers x ≡ reply of_number (said_number w) → (n : ℕ) (out' : List ℕ) → call n out' ≡ replied x out
      → tour n out' vs' bs' s' ≡ touring a r (rooms_at vs bs s) out
  unfolding touring toured
  tour_told f v d w g x h n out' k =
      ap (λ y. tour y.returned y.out vs' bs' s') (k ∙ replies of_number (said_number w) x out h)
      ∙ ap (toured out) (g ∙ ap (λ v. walking v a (rooms_at vs bs s)) d)
      ∙ sym (if_false _ _ (sym e ∙ f))
