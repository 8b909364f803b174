-- The offsets of a block, one after another.
use mathlib.Core.Path.{◌≡◌, refl, sym, ap, ap₂, ◌∙◌, subst}
use mathlib.Core.Bool.{Bool, true, false}
use mathlib.Core.List.{List, [], ◌∷◌, ◌++◌, append_assoc, append-nil}
use Prim.Native.Nat.{ℕ, suc, ◌+◌, ◌*◌, ◌-◌, ◌≤◌, ◌<◌}
use native.Mathlib.Omega.{arith}
use lib.ListN.{length, get_or, set, drop, length-append, length-drop}
use lib.Seq.{sets, length-sets, drop-drop}
use borrow.Author.Tests.{le-leb}
use Rattle.meaning.specs.Answers.{Answer, is, provided}
use Rattle.meaning.specs.Bits.{opens, places, bits_of}
use Rattle.meaning.specs.Plain.{side, item, plain_succ}
use Rattle.meaning.specs.BitString.{held, if_held, before_end, string_succ, Met, met_at, one_from}
use Rattle.meaning.proofs.Rank.{length_places}
use Rattle.meaning.proofs.Stored.{length_bits}
use Rattle.std.specs.Prelude as rust
use Rattle.std.specs.Prelude.{None, Some, Result, Ok, Err}
use Rattle.std.specs.Result.{result_unwrap_or}
use Rattle.refusal.specs.declared.Refusal.{Refusal}
use Rattle.refusal.specs.Said.{found_number}
use Rattle.bit_string.specs.Indices.{place_of, goes_on, answer, met, moved}
use Rattle.bit_string.specs.declared.one_indices.OneIndices.{OneIndices}
use Rattle.sparse_one_nnd.specs.Offsets.{OffsetsFit}
use Rattle.meaning.proofs.Runs.{sets_more}

-- behind the first one
next_place : (p : ℕ) (l : List Bool) (j : ℕ) (r : List ℕ) → places p l ≡ j ∷ r → (r ≡ places (suc j) (drop (suc j - p) l)) × ((p ≤ j) × (j < p + length l))
unfolding places
next_place p [] j r e = absurd (omega (arith, ap length e))
next_place p (true ∷ l) j r e =
    let u : p ≡ j = ap (λ (x : List ℕ). get_or x 0 0) e in
    let w : 1 ≡ suc j - p = omega (arith, u) in
    (sym (ap (drop 1) e) ∙ ap₂ (λ (a b : ℕ). places (suc a) (drop b (true ∷ l))) u w, (omega (arith, u), omega (arith, u)))
next_place p (false ∷ l) j r e =
    let h = next_place (suc p) l j r e in
    let w : suc (suc j - suc p) ≡ suc j - p = omega (arith, h.1.0) in
    (h.0 ∙ ap (λ (b : ℕ). places (suc j) (drop b (false ∷ l))) w, (omega (arith, h.1.0), omega (arith, h.1.1)))

-- `done` are written, and those from place p on are left
pub record Offsets (ws : List ℕ) (k at : ℕ) (B₀ B : List ℕ) (next p : ℕ) : Type 0 where
  pub done : List ℕ
  pub split : places 0 (bits_of ws k) ≡ done ++ places p (drop p (bits_of ws k))
  pub where_to : next ≡ at + length done
  pub content : B ≡ sets B₀ at done
  pub within : p ≤ k

pub off_start : (ws : List ℕ) (k at : ℕ) (B : List ℕ) → Offsets ws k at B B at 0
off_start ws k at B = record { done = []; split = refl; where_to = omega arith; content = refl; within = omega arith }

module _ (ws : List ℕ) (k at : ℕ) (B₀ B : List ℕ) (next p : ℕ) (f : OffsetsFit ws B₀ k at) (o : Offsets ws k at B₀ B next p) where
  -- a step from p meets the first of those that are left
  step_is : one_from ws k p ≡ met_at (item 0 (places p (drop p (bits_of ws k))))
  unfolding one_from string_succ if_held held provided before_end side plain_succ
  step_is = rw (le-leb k (64 * length ws) f.inside, provided)

  all : length o.done + length (places p (drop p (bits_of ws k))) ≡ opens (bits_of ws k)
  all =
      sym (length-append o.done (places p (drop p (bits_of ws k)))) ∙ ap length (sym o.split) ∙ length_places 0 (bits_of ws k)

  pub off_length : length B ≡ length B₀
  off_length = ap length o.content ∙ length-sets B₀ at o.done

  pub off_within : next ≤ length B₀
  off_within = omega (arith, o.where_to, all, f.room)

  module _ (j : ℕ) (r : List ℕ) (e : places p (drop p (bits_of ws k)) ≡ j ∷ r) where
    behind : (r ≡ places (suc j) (drop (suc j - p) (drop p (bits_of ws k)))) × ((p ≤ j) × (j < p + length (drop p (bits_of ws k))))
    behind = next_place p (drop p (bits_of ws k)) j r e

    before_end_lem : j < k
    before_end_lem = omega (arith, behind.1.1, length-drop p (bits_of ws k), length_bits ws k, o.within)

    room_for : next < length B₀
    room_for = omega (arith, o.where_to, all, ap length e, f.room)

    on_one : Offsets ws k at B₀ (set B next j) (next + 1) (suc j)
    on_one =
        let u : p + (suc j - p) ≡ suc j = omega (arith, behind.1.0) in
        let q : r ≡ places (suc j) (drop (suc j) (bits_of ws k)) =
        behind.0 ∙ ap (places (suc j)) (drop-drop (suc j - p) p (bits_of ws k) ∙ ap (λ (m : ℕ). drop m (bits_of ws k)) u) in
        record {
          done = o.done ++ (j ∷ []);
          split =
              o.split ∙ ap (λ (l : List ℕ). o.done ++ l) (e ∙ ap (λ (l : List ℕ). j ∷ l) q)
              ∙ sym (append_assoc o.done (j ∷ []) (places (suc j) (drop (suc j) (bits_of ws k))));
          where_to = omega (arith, o.where_to, length-append o.done (j ∷ []));
          content = ap (λ (l : List ℕ). sets l next (j ∷ [])) o.content ∙ sets_more B₀ at next o.done (j ∷ []) o.where_to;
          within = omega (arith, before_end_lem);
        }

  -- a one at j is met: there is room for it, and it is written
  abbrev pub OneMet : ℕ → Answer Met → Type 0
  OneMet j a = ((j < 256) × (next < length B)) × (Offsets ws k at B₀ (set B next j) (next + 1) (goes_on a p) × (k - goes_on a p < k - p))

  on_at : (j : ℕ) (r : List ℕ) → places p (drop p (bits_of ws k)) ≡ r → is j ≡ place_of (met_at (item 0 r)) → OneMet j (met_at (item 0 r))
  unfolding met_at item
  on_at j [] e y = absurd cc
  on_at j (i ∷ r) e y =
      let q : j ≡ i = cc in (
        (omega (arith, before_end_lem i r e, f.small), omega (arith, room_for i r e, off_length)),
        (subst (λ (j : ℕ). Offsets ws k at B₀ (set B next j) (next + 1) (suc i)) (sym q) (on_one i r e), omega (arith, before_end_lem i r e, (behind i r e).1.0)),
      )

  pub off_on : (j : ℕ) → is j ≡ place_of (one_from ws k p) → OneMet j (one_from ws k p)
  off_on j = subst (λ (a : Answer Met). is j ≡ place_of a → OneMet j a) (sym step_is) (on_at j (places p (drop p (bits_of ws k))) refl)

  -- no one is left
  end_at : (r : List ℕ) → places p (drop p (bits_of ws k)) ≡ r → ((j : ℕ) → is j ≡ place_of (met_at (item 0 r)) → ⊥) → B ≡ sets B₀ at (places 0 (bits_of ws k))
  unfolding met_at item
  end_at [] e y = o.content ∙ ap (sets B₀ at) (sym (o.split ∙ ap (λ (l : List ℕ). o.done ++ l) e ∙ append-nil o.done))
  end_at (j ∷ r) e y = absurd (y j refl)

  pub off_end : ((j : ℕ) → is j ≡ place_of (one_from ws k p) → ⊥) → B ≡ sets B₀ at (places 0 (bits_of ws k))
  off_end =
      subst (λ (a : Answer Met). ((j : ℕ) → is j ≡ place_of a → ⊥) → B ≡ sets B₀ at (places 0 (bits_of ws k))) (sym step_is)
      (end_at (places p (drop p (bits_of ws k))) refl)

-- the same, with the struct that steps
pub record Going (ws : List ℕ) (k at : ℕ) (B₀ B : List ℕ) (it : OneIndices) (next : ℕ) : Type 0 where
  pub words : it.string.words.now ≡ ws
  pub len : it.string.len ≡ k
  pub offsets : Offsets ws k at B₀ B next it.next

module _ (ws : List ℕ) (k at : ℕ) (B₀ B : List ℕ) (it : OneIndices) (next : ℕ) (f : OffsetsFit ws B₀ k at) (g : Going ws k at B₀ B it next) where
  answers : answer it ≡ one_from ws k it.next
  answers = ap₂ (λ (w : List ℕ) (n : ℕ). one_from w n it.next) g.words g.len

  -- after a step to the one at j
  module _ (j : ℕ) (r : Result (rust.Option ℕ) Refusal) (h : found_number r ≡ met it) (e : Some j ≡ result_unwrap_or r None) where
    one : is j ≡ met it
    one = go r h e
      where
        go : (r : Result (rust.Option ℕ) Refusal) → found_number r ≡ met it → Some j ≡ result_unwrap_or r None → is j ≡ met it
        go (Ok (Some i)) h e = let q : j ≡ i = cc in ap is q ∙ h
        go (Ok None) h e = absurd cc
        go (Err y) h e = absurd cc

    pub going_on : ((j < 256) × (next < length B)) × (Going ws k at B₀ (set B next j) (moved it) (next + 1) × (k - (moved it).next < k - it.next))
    going_on =
        let w = subst (λ (a : Answer Met). is j ≡ place_of a → OneMet ws k at B₀ B next it.next f g.offsets j a) (sym answers) (off_on ws k at B₀ B next it.next f g.offsets j) one in
        (w.0, (record { words = g.words; len = g.len; offsets = w.1.0 }, w.1.1))

    pub going_to : (it' : OneIndices) → it' ≡ moved it → Going ws k at B₀ (set B next j) it' (next + 1) × (k - it'.next < k - it.next)
    going_to it' q = subst (λ (it' : OneIndices). Going ws k at B₀ (set B next j) it' (next + 1) × (k - it'.next < k - it.next)) (sym q) going_on.1

  -- none is left
  pub going_end : (r : Result (rust.Option ℕ) Refusal) → found_number r ≡ met it → None ≡ result_unwrap_or r None → B ≡ sets B₀ at (places 0 (bits_of ws k))
  going_end r e h = off_end ws k at B₀ B next it.next f g.offsets (λ j q. go j r (e ∙ ap place_of answers ∙ sym q) h)
    where
      go : (j : ℕ) (r : Result (rust.Option ℕ) Refusal) → found_number r ≡ is j → None ≡ result_unwrap_or r None → ⊥
      go j (Ok (Some i)) e h = absurd cc
      go j (Ok None) e h = absurd cc
      go j (Err y) e h = absurd cc
