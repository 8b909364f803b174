-- The plan of a dictionary and its write past other entries, on each way.
use mathlib.Core.Path.{◌≡◌, refl, sym, ap, ◌∙◌}
use mathlib.Core.Bool.{Bool, true, false}
use mathlib.Core.Option.{Option, none, some}
use mathlib.Core.List.{List, [], ◌∷◌}
use Prim.Native.Nat.{ℕ, ◌+◌, ◌*◌, ◌-◌, ◌/◌, ◌≤◌, ◌<◌}
use native.Mathlib.Omega.{arith}
use lib.Dec.{leb}
use lib.ListN.{length, get_or, replicate, length-replicate}
use borrow.Author.Tests.{le-leb, lt-leb, leb-true}
use Rattle.meaning.specs.Answers.{Refusal, Answer, is, refused, broken}
use Rattle.meaning.specs.Bits.{bits_of}
use Rattle.meaning.specs.Dictionary.{Dict, dict_of}
use Rattle.meaning.specs.Refusals.{refuse, check, full_block, full_at, first_of}
use Rattle.meaning.specs.Direct.{DictRooms, Entries, DictAfter, DictAccepted, most_bits, dict_refusal, entries_of, dict_plan, dict_written, dict_zeroed, dict_build, dict_rooms, dict_put, dict_write}
use Rattle.meaning.proofs.If.{if_none, if_some}
use Rattle.meaning.proofs.Accepted.{check_none, check_true, check_false, first_none}
use Rattle.meaning.proofs.Runs.{sets_zeros}
use Rattle.meaning.proofs.Direct.{full_none, dict_exactly}

-- what a plan that fits says
pub record PlanFits (ws : List ℕ) (n : ℕ) (e : Entries) : Type 0 where
  pub inside : n ≤ 64 * length ws
  pub few : n ≤ most_bits
  pub narrow : full_block (n / 256 + 1) 0 (bits_of ws n) ≡ none
  pub counts : e ≡ entries_of (dict_of (bits_of ws n))

-- and one that finds a full block
pub record PlanFull (ws : List ℕ) (n b : ℕ) : Type 0 where
  pub inside : n ≤ 64 * length ws
  pub few : n ≤ most_bits
  pub full : full_block (n / 256 + 1) 0 (bits_of ws n) ≡ some b

abbrev by : Option Refusal → Entries → Answer Entries
by none e = is e
by (some r) e = refused r

by_is : (o : Option Refusal) (d e : Entries) → by o d ≡ is e → (o ≡ none) × (e ≡ d)
by_is none d e h = (refl, cc)
by_is (some r) d e h = absurd (let z : ◌≡◌ {A = ℕ} 0 1 = cc in omega arith)

by_refused : (o : Option Refusal) (d : Entries) (r : Refusal) → by o d ≡ refused r → o ≡ some r
by_refused none d r h = absurd (let z : ◌≡◌ {A = ℕ} 0 1 = cc in omega arith)
by_refused (some q) d r h = cc

inside_some : {q r : Refusal} → some q ≡ some r → q ≡ r
inside_some e = cc

number : Refusal → ℕ
number r = r.number

module _ (ws : List ℕ) (n : ℕ) where
  abbrev first : Option Refusal
  first =
      first_of
      (check (leb n (64 * length ws)) 9 (0 ∷ []) ∷ check (leb n most_bits) 2 (n ∷ []) ∷ full_at 0 (full_block (n / 256 + 1) 0 (bits_of ws n)) none ∷ [])

  plan_by : dict_plan ws n ≡ by first (entries_of (dict_of (bits_of ws n)))
  unfolding dict_plan
  plan_by = go first
    where
      go : (o : Option Refusal)
          → ◌≡◌ {A = Answer Entries} (elim o [ none ↦ is (entries_of (dict_of (bits_of ws n))) | some r ↦ refused r ]) (by o (entries_of (dict_of (bits_of ws n))))
      go none = refl
      go (some r) = refl

  pub plan_broken : 64 * length ws < n → dict_plan ws n ≡ refused broken
  unfolding first_of
  plan_broken h =
      let e : first ≡ some broken = rw (check_false 9 (0 ∷ []) (lt-leb n (64 * length ws) h)) in
      plan_by ∙ ap (λ o. by o (entries_of (dict_of (bits_of ws n)))) e

  module _ (h : n ≤ 64 * length ws) where
    inside : check (leb n (64 * length ws)) 9 (0 ∷ []) ≡ none
    inside = check_true 9 (0 ∷ []) (le-leb n (64 * length ws) h)

    pub plan_many : most_bits < n → dict_plan ws n ≡ refused (record { number = 2; carries = n ∷ [] })
    unfolding first_of
    plan_many k =
        let e : first ≡ refuse 2 (n ∷ []) = rw (inside, check_false 2 (n ∷ []) (lt-leb n most_bits k)) in
        plan_by ∙ ap (λ o. by o (entries_of (dict_of (bits_of ws n)))) e

    module _ (k : n ≤ most_bits) where
      few : check (leb n most_bits) 2 (n ∷ []) ≡ none
      few = check_true 2 (n ∷ []) (le-leb n most_bits k)

      pub plan_at_full : (b : ℕ) → full_block (n / 256 + 1) 0 (bits_of ws n) ≡ some b → dict_plan ws n ≡ refused (record { number = 5; carries = 0 ∷ b ∷ [] })
      unfolding first_of full_at
      plan_at_full b e =
          let q : first ≡ refuse 5 (0 ∷ b ∷ []) = rw (inside, few, e) in
          plan_by ∙ ap (λ o. by o (entries_of (dict_of (bits_of ws n)))) q

      pub plan_is : full_block (n / 256 + 1) 0 (bits_of ws n) ≡ none → dict_plan ws n ≡ is (entries_of (dict_of (bits_of ws n)))
      unfolding first_of full_at
      plan_is e =
          let q : first ≡ none = rw (inside, few, e) in
          plan_by ∙ ap (λ o. by o (entries_of (dict_of (bits_of ws n)))) q

  pub plan_fits : (e : Entries) → dict_plan ws n ≡ is e → PlanFits ws n e
  plan_fits e q =
      let r = by_is first (entries_of (dict_of (bits_of ws n))) e (sym plan_by ∙ q) in
      let a = first_none _ _ r.0 in
      let b = first_none _ _ a.1 in
      let c = first_none _ _ b.1 in
      record {
        inside = leb-true _ _ (check_none _ _ _ a.0);
        few = leb-true _ _ (check_none _ _ _ b.0);
        narrow = full_none 0 _ c.0;
        counts = r.1;
      }

  pub plan_full : (b : ℕ) → dict_plan ws n ≡ refused (record { number = 5; carries = 0 ∷ b ∷ [] }) → PlanFull ws n b
  unfolding first_of check full_at number
  plan_full b q =
      go (leb n (64 * length ws)) refl (leb n most_bits) refl (full_block (n / 256 + 1) 0 (bits_of ws n)) refl
      (by_refused first (entries_of (dict_of (bits_of ws n))) (record { number = 5; carries = 0 ∷ b ∷ [] }) (sym plan_by ∙ q))
    where
      go : (s : Bool) → leb n (64 * length ws) ≡ s → (t : Bool) → leb n most_bits ≡ t → (o : Option ℕ) → full_block (n / 256 + 1) 0 (bits_of ws n) ≡ o
          → first_of (check s 9 (0 ∷ []) ∷ check t 2 (n ∷ []) ∷ full_at 0 o none ∷ []) ≡ refuse 5 (0 ∷ b ∷ []) → PlanFull ws n b
      go false d t e o f r = absurd (omega (arith, ap number (inside_some r)))
      go true d false e o f r = absurd (omega (arith, ap number (inside_some r)))
      go true d true e none f r = absurd (let z : ◌≡◌ {A = ℕ} 0 1 = cc in omega arith)
      go true d true e (some c) f r =
          let z : c ≡ b = ap (λ (k : Refusal). get_or k.carries 1 0) (inside_some r) in
          record { inside = leb-true n (64 * length ws) d; few = leb-true n most_bits e; full = f ∙ ap some z }

-- the write
module _ (ws : List ℕ) (n : ℕ) (o : Entries) (a : Dict) where
  pub write_refused : (r : Refusal) → dict_refusal ws n (dict_rooms o a) ≡ some r → dict_write ws n o a ≡ record { reply = refused r; areas = a }
  unfolding dict_write
  write_refused r e = if_some _ _ r e

  pub write_accepted : DictAccepted ws n (dict_rooms o a)
      → dict_write ws n o a ≡ record { reply = is (entries_of (dict_of (bits_of ws n))); areas = dict_put o (dict_of (bits_of ws n)) a }
  unfolding dict_write
  write_accepted h = if_none _ _ ((dict_exactly ws n (dict_rooms o a)).1 h)

-- FULL, by the block that the plan finds
pub refused_full : (ws : List ℕ) (n : ℕ) (rooms : DictRooms) (b : ℕ) → PlanFull ws n b → dict_refusal ws n rooms ≡ refuse 5 (0 ∷ b ∷ [])
unfolding dict_refusal first_of full_at
refused_full ws n rooms b p = rw (inside ws n p.inside, few ws n p.inside p.few, p.full)

-- a write over zeros, past nothing, is a build
abbrev no_entries : Entries
no_entries = record { bytes = 0; middle = 0; large = 0 }

module _ (ws : List ℕ) (n : ℕ) (rooms : DictRooms) where
  same_rooms : dict_rooms no_entries (dict_zeroed rooms) ≡ rooms
  unfolding dict_rooms dict_zeroed
  same_rooms = λ i. record { bytes = all rooms.bytes i; middle = pairs rooms.middle i; large = pairs rooms.large i }
    where
      all : (k : ℕ) → length {A = ℕ} (replicate k 0) - 0 ≡ k
      all k = omega (arith, length-replicate {A = ℕ} k 0)

      pairs : (k : ℕ) → length {A = ℕ} (replicate k 0) - 2 * 0 ≡ k
      pairs k = omega (arith, length-replicate {A = ℕ} k 0)

  put_zeros : DictAccepted ws n rooms → dict_put no_entries (dict_of (bits_of ws n)) (dict_zeroed rooms) ≡ dict_written rooms (dict_of (bits_of ws n))
  unfolding dict_put dict_zeroed dict_written
  put_zeros a = λ i.
      record {
        bytes = sets_zeros rooms.bytes 0 (dict_of (bits_of ws n)).bytes refl a.bytes i;
        middle = sets_zeros rooms.middle (2 * 0) (dict_of (bits_of ws n)).middle (omega arith) a.middle i;
        large = sets_zeros rooms.large (2 * 0) (dict_of (bits_of ws n)).large (omega arith) a.large i;
      }

  pub write_build : dict_write ws n (record { bytes = 0; middle = 0; large = 0 }) (dict_zeroed rooms) ≡ dict_build ws n rooms
  unfolding dict_write dict_build
  write_build = go (dict_refusal ws n rooms) refl
    where
      go : (o : Option Refusal) → dict_refusal ws n rooms ≡ o → dict_write ws n no_entries (dict_zeroed rooms) ≡ dict_build ws n rooms
      go none e =
          if_none _ _ (ap (dict_refusal ws n) same_rooms ∙ e)
          ∙ ap (λ (d : Dict). record { reply = is (entries_of (dict_of (bits_of ws n))); areas = d }) (put_zeros ((dict_exactly ws n rooms).0 e))
          ∙ sym (if_none _ _ e)
      go (some r) e = if_some _ _ r (ap (dict_refusal ws n) same_rooms ∙ e) ∙ sym (if_some _ _ r e)

-- a build that answers counts was accepted, and left the dictionary of the string
pub built_is : (ws : List ℕ) (n : ℕ) (rooms : DictRooms) (e : Entries) (a : Dict) → record { reply = is e; areas = a } ≡ dict_build ws n rooms
    → DictAccepted ws n rooms × (e ≡ entries_of (dict_of (bits_of ws n))) × (a ≡ dict_written rooms (dict_of (bits_of ws n)))
unfolding dict_build
built_is ws n rooms e a q = go (dict_refusal ws n rooms) refl q
  where
    inside_is : {e d : Entries} → is e ≡ is d → e ≡ d
    inside_is p = cc

    go : (o : Option Refusal) → dict_refusal ws n rooms ≡ o
        → ◌≡◌ {A = DictAfter} (record { reply = is e; areas = a }) (elim o [
          | none ↦ record { reply = is (entries_of (dict_of (bits_of ws n))); areas = dict_written rooms (dict_of (bits_of ws n)) }
          | some r ↦ record { reply = refused r; areas = dict_zeroed rooms }
        ])
        → DictAccepted ws n rooms × (e ≡ entries_of (dict_of (bits_of ws n))) × (a ≡ dict_written rooms (dict_of (bits_of ws n)))
    go none f q = ((dict_exactly ws n rooms).0 f, inside_is (ap (λ (x : DictAfter). x.reply) q), ap (λ (x : DictAfter). x.areas) q)
    go (some r) f q = absurd (let p : ◌≡◌ {A = Answer Entries} (is e) (refused r) = ap (λ (x : DictAfter). x.reply) q in let z : ◌≡◌ {A = ℕ} 0 1 = cc in omega arith)
