-- What a build and a growth return, and leave in `out`, the record and the areas.
use mathlib.Core.Path.{◌≡◌, refl, sym, ap, ◌∙◌}
use mathlib.Core.Bool.{Bool, true, false}
use mathlib.Core.List.{List, ◌++◌}
use Prim.Native.Nat.{ℕ, ◌≤◌}
use lib.ListN.{length, replicate, take, drop, length-take}
use lib.Seq.{sets}
use Rattle.meaning.specs.Answers.{Answer}
use Rattle.meaning.specs.Build.{Lent, rooms_of, Tree, zeroed}
use Rattle.meaning.specs.Growth.{grow}
use Rattle.meaning.proofs.If.{if_true, if_false}
use Rattle.record.specs.Record.{tree_in}
use Rattle.record.specs.declared.Counts.{Counts}
use Rattle.balanced_parens.specs.Said.{said}
use Rattle.balanced_parens.specs.Demands.{Made}
use Rattle.balanced_parens.specs.Areas.{after, lent_at, Cleared}
use Rattle.balanced_parens.specs.Contract.{Builds, GrowsTo}
use Rattle.refusal.specs.declared.Refusal.{Refusal}
use Rattle.std.specs.Prelude.{Ok, Err}
use Rattle.std.proofs.lemmas.List.Edits.{sets-eq}
use native.Mathlib.Omega.{arith}
use Rattle.flight.specs.declared.reply.Reply.{Reply}
use Rattle.flight.specs.Layout.{tree_at, numbers_of, of_tree, reply, numbers, short}
use Rattle.flight.specs.Calls.{call, replied, make, kept, made, building, untouched, growing}
use Rattle.flight.proofs.Called.{replies}

-- the record with a tree at its front, where one was made; else z
pub record_told : (r z x : List ℕ) (b : Made) (c : Counts) → b ≡ Ok c → x ≡ sets r 0 (numbers_of (tree_in c)) → x ≡ kept r z (said b)
unfolding kept
record_told r z x b c e f = f ∙ sym (ap (λ d. kept r z (said d)) e)

pub record_kept : (r z : List ℕ) (b : Made) (y : Refusal) → b ≡ Err y → z ≡ kept r z (said b)
unfolding kept
record_kept r z b y e = sym (ap (λ d. kept r z (said d)) e)

pub record_stays : (r z : List ℕ) (b : Made) → ((c : Counts) → b ≡ Ok c → ⊥) → z ≡ kept r z (said b)
unfolding kept
record_stays r z (Ok c) h = absurd (h c refl)
record_stays r z (Err y) h = refl

-- the first 18 of the record made zero
pub zeros_front : (r ys : List ℕ) → 18 ≤ length r → ys ≡ replicate (length (take 18 r)) 0 → ys ++ drop 18 r ≡ sets r 0 (replicate 18 0)
zeros_front r ys h e =
    let n : length (take 18 r) ≡ 18 = omega (arith, length-take {A = ℕ} 18 r) in
    ap (λ t. t ++ drop 18 r) (e ∙ ap (λ k. replicate k 0) n) ∙ sym (sets-eq (replicate 18 0) r 0 h)

-- an answer s told, with the areas a
made_told : (r z out out' r' : List ℕ) (n : ℕ) (s : Answer Tree) (a : Lent) (x : Reply) → numbers x ≡ reply of_tree s → call n out' ≡ replied x out
    → r' ≡ kept r z s → make n out' r' a ≡ made r z out (after s a)
unfolding made
made_told r z out out' r' n s a x h k e =
    ap (λ q. make n out' q a) e ∙ ap (λ y. make y.returned y.out (kept r z s) a) (k ∙ replies of_tree s x out h)

-- a build
pub build_short : (levels labels w b m g u s r out w' b' m' g' u' s' : List ℕ) (t : Bool) → t ≡ short (length r) (length out) → t ≡ true
    → Cleared w b m g u w' b' m' g' u' → s' ≡ replicate (length s) 0
    → make 15 out r (lent_at w' b' m' g' u' s') ≡ building levels labels (lent_at w b m g u s) r out
unfolding building zeroed rooms_of
build_short levels labels w b m g u s r out w' b' m' g' u' s' t e f z q =
    rw (z.words, z.bytes, z.middle, z.large, z.labels, q) (sym (if_true _ _ (sym e ∙ f)))

pub build_told : (levels labels : List ℕ) (a z : Lent) (r out r' out' : List ℕ) (n : ℕ) (t : Bool) (y : Made) (x : Reply)
    → t ≡ short (length r) (length out) → t ≡ false → Builds levels labels a z y
    → r' ≡ kept r (sets r 0 (replicate 18 0)) (said y) → numbers x ≡ reply of_tree (said y) → call n out' ≡ replied x out
    → make n out' r' z ≡ building levels labels a r out
unfolding building
build_told levels labels a z r out r' out' n t y x e f i j h k =
    made_told r (sets r 0 (replicate 18 0)) out out' r' n (said y) z x h k j
    ∙ ap (made r (sets r 0 (replicate 18 0)) out) i.outcome
    ∙ sym (if_false _ _ (sym e ∙ f))

-- a growth
pub grow_short : (w b m g u s r out s' : List ℕ) (level label : ℕ) (t : Bool) → t ≡ short (length r) (length out) → t ≡ true → s' ≡ replicate (length s) 0
    → make 15 out r (lent_at w b m g u s') ≡ growing (lent_at w b m g u s) r level label out
unfolding growing untouched
grow_short w b m g u s r out s' level label t e f q = rw q (sym (if_true _ _ (sym e ∙ f)))

pub grow_told : (a z : Lent) (r out r' out' : List ℕ) (level label n : ℕ) (t : Bool) (c : Counts) (y : Made) (x : Reply)
    → t ≡ short (length r) (length out) → t ≡ false → tree_in c ≡ tree_at r → GrowsTo c level label a z y
    → r' ≡ kept r r (said y) → numbers x ≡ reply of_tree (said y) → call n out' ≡ replied x out
    → make n out' r' z ≡ growing a r level label out
unfolding growing
grow_told a z r out r' out' level label n t c y x e f d i j h k =
    made_told r r out out' r' n (said y) z x h k j
    ∙ ap (made r r out) (i.outcome ∙ ap (λ v. grow v a level label) d)
    ∙ sym (if_false _ _ (sym e ∙ f))
