-- The questions to a level's own part, on each way.
use mathlib.Core.Path.{◌≡◌, refl, sym, ap, ap₂, ◌∙◌}
use mathlib.Core.Bool.{true, false}
use mathlib.Core.Option.{Option, none, some}
use mathlib.Core.List.{List}
use Prim.Native.Nat.{ℕ, zero, suc, pred, min, ◌+◌, ◌*◌, ◌-◌, ◌/◌, ◌^◌, ◌≤◌, ◌<◌}
use native.Mathlib.Numerals.{add-one}
use native.Mathlib.Omega.{arith}
use lib.ListN.{length, get_or, take, drop}
use borrow.Author.Tests.{eq-eqb, ne_eqb, lt-ltb, le-ltb}
use Rattle.std.specs.Prelude as rust
use Rattle.std.specs.Prelude.{None, Some, Result, Ok, Err, ok_or, map}
use Rattle.std.proofs.lemmas.List.{map-id}
use Rattle.meaning.specs.Answers.{Answer, is, nothing, refused, broken, or_broken}
use Rattle.meaning.specs.Dictionary.{Dict, is_empty, before, rank_from, rank_of, limit, placed, start_large, start_middle, select_from, select_of, pred_of, select_next, succ_by, succ_of}
use Rattle.meaning.specs.Direct.{Entries, entries_fit, if_fit, dict_in}
use Rattle.meaning.proofs.If.{if_true, if_false}
use Rattle.refusal.specs.declared.Refusal.{Refusal}
use Rattle.refusal.specs.declared.Refusal.TheVariants.{Broken}
use Rattle.refusal.specs.Said.{refusal_of, said_number, found_number, option_of}
use Rattle.sparse_one_nnd.specs.Said.{dict_at}
use Rattle.sparse_one_nnd.specs.Start.{entry_of}
use Rattle.sparse_one_nnd.proofs.Seeks.{before_less}
use Rattle.sparse_one_nnd.proofs.Starts.{entry_out, entry_is, no_large, no_middle, from_out, from_above}
use Rattle.sparse_one_nnd.proofs.Replies.{said_or}

-- rank
module _ (d : Dict) (x : ℕ) where
  pub rank_empty : true ≡ is_empty d → said_number (Ok 0) ≡ or_broken (rank_of d x)
  unfolding rank_of or_broken
  rank_empty e = sym (ap or_broken (if_true _ _ (sym e)))

  pub rank_is : (r : rust.Option ℕ) (g m : ℕ) → false ≡ is_empty d → g ≡ min (x / 65536) (length d.large / 2 - 1) → m ≡ min (x / 2048) (length d.middle / 2 - 1)
      → option_of r ≡ limit (rank_from d x g m) → said_number (ok_or r Broken) ≡ or_broken (rank_of d x)
  unfolding rank_of
  rank_is r g m e u v f =
      said_or r (rank_of d x) (f ∙ ap₂ (λ (g m : ℕ). limit (rank_from d x g m)) u v ∙ sym (if_false _ _ (sym e)))

-- a dictionary in whole areas: its own part, if the counts fit
module _ (e : Entries) (d : Dict) where
  pub unfit : (y : Refusal) (f : Answer ℕ) → (entries_fit e d ≡ false) × (y ≡ Broken) → refused (refusal_of y) ≡ if_fit e d f
  unfolding if_fit
  unfit y f h = ap (λ (y : Refusal). refused (refusal_of y)) h.1 ∙ sym (if_false _ _ h.0)

  pub fit : (Q : Dict → Answer ℕ) (a : Dict) → (entries_fit e d ≡ true) × (a ≡ dict_in e d) → Q a ≡ if_fit e d (Q (dict_in e d))
  unfolding if_fit
  fit Q a h = ap Q h.1 ∙ sym (if_true _ _ h.0)

-- select from large entry g
module _ (B M L : List ℕ) (q g : ℕ) where
  pub large_out : None ≡ entry_of (map (λ x. x) L) g → refused broken ≡ placed (select_from (dict_at B M L) q g (start_middle (dict_at B M L) q g))
  large_out e = from_out (dict_at B M L) q g (start_middle (dict_at B M L) q g) (no_large B M L g (start_middle (dict_at B M L) q g) (entry_out L g e))

  pub large_none : length M / 2 ≤ 32 * g → refused broken ≡ placed (select_from (dict_at B M L) q g (start_middle (dict_at B M L) q g))
  unfolding start_middle
  large_none h = from_out (dict_at B M L) q g (start_middle (dict_at B M L) q g) (no_middle B M L g (start_middle (dict_at B M L) q g) past)
    where
      past : length M / 2 ≤ start_middle (dict_at B M L) q g
      past = omega arith

  module _ (p ones : ℕ) (e : Some (p, ones) ≡ entry_of (map (λ x. x) L) g) where
    pub large_there : (g < length L / 2) × (ones ≡ get_or L (2 * g + 1) 0)
    large_there = let h = entry_is L g p ones e in (h.0, h.1.1)

    pub large_above : q ≤ ones → refused broken ≡ placed (select_from (dict_at B M L) q g (start_middle (dict_at B M L) q g))
    large_above h = from_above (dict_at B M L) q g (start_middle (dict_at B M L) q g) (omega (arith, large_there))

    pub large_on : (m : ℕ) → ones < q → m ≡ 32 * g + pred (before 0 (q - ones) (take 64 (drop (64 * g) M)))
        → placed (select_from (dict_at B M L) q g m) ≡ placed (select_from (dict_at B M L) q g (start_middle (dict_at B M L) q g))
    unfolding start_middle
    large_on m h f = ap (λ (k : ℕ). placed (select_from (dict_at B M L) q g k)) (f ∙ same)
      where
        same : 32 * g + pred (before 0 (q - ones) (take 64 (drop (64 * g) M))) ≡ start_middle (dict_at B M L) q g
        same =
            ap (λ (b : ℕ). 32 * g + pred (before 0 (q - b) (take 64 (drop (64 * g) M)))) large_there.1
            ∙ ap (λ (k : ℕ). 32 * g + pred k) (sym (before_less (get_or L (2 * g + 1) 0) q (take 64 (drop (64 * g) M)) (omega (arith, large_there))))

-- select
module _ (d : Dict) (r : ℕ) where
  pub select_zero : r ≡ 0 → nothing ≡ select_of d r
  unfolding select_of
  select_zero e = rw e

  pub select_empty : true ≡ is_empty d → nothing ≡ select_of d r
  unfolding select_of
  select_empty e = go r
    where
      go : (r : ℕ) → nothing ≡ select_of d r
      go zero = refl
      go (suc r) = sym (if_true _ _ (sym e))

  pub select_is : (n g : ℕ) → (r ≡ 0 → ⊥) → false ≡ is_empty d → n ≡ before 0 r (map (λ x. x) d.large) → g ≡ n - 1
      → placed (select_from d r g (start_middle d r g)) ≡ select_of d r
  unfolding select_of start_large
  select_is n g h f u v =
      ap (λ (g : ℕ). placed (select_from d r g (start_middle d r g))) (v ∙ less ∙ ap pred (u ∙ ap (before 0 r) (map-id d.large))) ∙ go r h
    where
      less : n - 1 ≡ pred n
      less = omega arith

      go : (r : ℕ) → (r ≡ 0 → ⊥) → placed (select_from d r (pred (before 0 r d.large)) (start_middle d r (pred (before 0 r d.large)))) ≡ select_of d r
      go zero h = absurd (h refl)
      go (suc r) h = sym (if_false _ _ (sym f))

-- rank's answer, taken back
module _ (d : Dict) (x : ℕ) where
  rank_none : (y : Refusal) → said_number (Err y) ≡ or_broken (rank_of d x) → (rank_of d x ≡ none) × ◌≡◌ {A = Answer ℕ} (refused (refusal_of y)) (refused broken)
  unfolding or_broken
  rank_none y e = go (rank_of d x) e
    where
      go : (o : Option ℕ) → said_number (Err y) ≡ or_broken o → (o ≡ none) × ◌≡◌ {A = Answer ℕ} (refused (refusal_of y)) (refused broken)
      go none e = (refl, e)
      go (some k) e = absurd cc

  rank_some : (r : ℕ) → said_number (Ok r) ≡ or_broken (rank_of d x) → rank_of d x ≡ some r
  unfolding or_broken
  rank_some r e = go (rank_of d x) e
    where
      go : (o : Option ℕ) → said_number (Ok r) ≡ or_broken o → o ≡ some r
      go none e = absurd cc
      go (some k) e = let z : r ≡ k = cc in ap some (sym z)

  pub pred_broken : (y : Refusal) → said_number (Err y) ≡ or_broken (rank_of d x) → refused (refusal_of y) ≡ pred_of d x
  unfolding pred_of
  pred_broken y e = let p = rank_none y e in p.1 ∙ (let q : rank_of d x ≡ none = p.0 in rw (q, pred_of))

  pub pred_is : (r : ℕ) → said_number (Ok r) ≡ or_broken (rank_of d x) → select_of d r ≡ pred_of d x
  unfolding pred_of
  pred_is r e = let q : rank_of d x ≡ some r = rank_some r e in rw (q, pred_of)

  pub succ_broken : (y : Refusal) → said_number (Err y) ≡ or_broken (rank_of d x) → refused (refusal_of y) ≡ succ_of d x
  unfolding succ_of
  succ_broken y e = let p = rank_none y e in p.1 ∙ (let q : rank_of d x ≡ none = p.0 in rw (q, succ_of))

  module _ (r : ℕ) (e : said_number (Ok r) ≡ or_broken (rank_of d x)) where
    at : succ_by d x r (select_of d r) ≡ succ_of d x
    unfolding succ_of
    at = let q : rank_of d x ≡ some r = rank_some r e in rw (q, succ_of)

    pub succ_refused : (y : Refusal) → found_number (Err y) ≡ select_of d r → refused (refusal_of y) ≡ succ_of d x
    unfolding succ_by
    succ_refused y f = ap (succ_by d x r) f ∙ at

    pub succ_here : found_number (Ok (Some x)) ≡ select_of d r → is x ≡ succ_of d x
    unfolding succ_by
    succ_here f = sym (if_true _ _ (eq-eqb x x refl)) ∙ ap (succ_by d x r) f ∙ at

    pub succ_on : (o : rust.Option ℕ) → (o ≡ Some x → ⊥) → found_number (Ok o) ≡ select_of d r → select_next d r ≡ succ_of d x
    unfolding succ_by
    succ_on o h f = go o h f ∙ at
      where
        go : (o : rust.Option ℕ) → (o ≡ Some x → ⊥) → found_number (Ok o) ≡ select_of d r → select_next d r ≡ succ_by d x r (select_of d r)
        go None h f = ap (succ_by d x r) f
        go (Some i) h f = sym (if_false _ _ (ne_eqb i x (λ e. h (ap Some e)))) ∙ ap (succ_by d x r) f

-- select of one more
pub next_over : (d : Dict) (r : ℕ) → (r + 1 < 2 ^ 64 → ⊥) → refused broken ≡ select_next d r
unfolding select_next
next_over d r h = sym (if_false _ _ (le-ltb (suc r) (2 ^ 64) (omega arith)))

pub next_is : (d : Dict) (r m : ℕ) → (r + 1 < 2 ^ 64) × (m ≡ r + 1) → select_of d m ≡ select_next d r
unfolding select_next
next_is d r m h = ap (select_of d) (h.1 ∙ add-one r) ∙ sym (if_true _ _ (lt-ltb (suc r) (2 ^ 64) (omega arith)))
