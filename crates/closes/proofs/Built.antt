-- On the areas and the record that a build of an accepted list left, `get_close` answers the matching close.
use mathlib.Core.Path.{◌≡◌, refl, ap, ◌∙◌}
use mathlib.Core.Bool.{true, false}
use mathlib.Core.List.{List}
use Prim.Native.Nat.{ℕ}
use lib.ListN.{get_or}
use Rattle.meaning.specs.String.{string}
use Rattle.meaning.specs.Match.{IsClose}
use Rattle.meaning.specs.Areas.{Rooms}
use Rattle.meaning.specs.Refusals.{Accepted}
use Rattle.meaning.specs.Build.{Lent, Tree, tree_of, lent_of}
use Rattle.meaning.specs.Questions.{counts_fit, lent_at, at_bit, close_in}
use Rattle.meaning.proofs.Questions.{close_in_matches}
use Rattle.record.specs.declared.Counts.{Counts}
use Rattle.record.specs.Record.{tree_in}
use Rattle.std.specs.Prelude.{Result, Ok}
use Rattle.refusal.specs.declared.Refusal.{Refusal}
use Rattle.refusal.specs.Said.{said_number}
use Rattle.closes.proofs.Agree.{closes_agree}

-- a question does not look at scratch
close_lent : (t : Tree) (a : Lent) (p : ℕ) → close_in t (lent_at a.held.words a.held.bytes a.held.middle a.held.large a.labels) p ≡ close_in t a p
unfolding close_in at_bit counts_fit
close_lent t a p = refl

pub get_close_matches : (vs bs : List ℕ) (rooms : Rooms) → Accepted vs bs rooms → (c : Counts) → tree_in c ≡ tree_of vs
    → (p : ℕ) → get_or (string vs) p false ≡ true → (r : Result ℕ Refusal)
    → said_number r
    ≡ close_in (tree_in c)
    (lent_at (lent_of vs bs rooms).held.words (lent_of vs bs rooms).held.bytes (lent_of vs bs rooms).held.middle (lent_of vs bs rooms).held.large (lent_of vs bs rooms).labels)
    p
    → (d : ℕ) × (r ≡ Ok d) × IsClose (string vs) p d
get_close_matches vs bs rooms a c e p o r f =
    let m = close_in_matches vs bs rooms a p o in
    (m.0, closes_agree r (Ok m.0) (f ∙ close_lent (tree_in c) (lent_of vs bs rooms) p ∙ ap (λ t. close_in t (lent_of vs bs rooms) p) e ∙ m.1), m.2)
