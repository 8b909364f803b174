-- Where a walk starts: the start that the code finds, and what rank and select do from there.
use mathlib.Core.Path.{◌≡◌, refl, sym, ap, ap₂, ◌∙◌}
use mathlib.Core.Bool.{Bool, true, false, ◌&&◌}
use mathlib.Core.Option.{Option, none, some}
use mathlib.Core.List.{List, [], ◌∷◌}
use Prim.Native.Nat.{ℕ, ◌+◌, ◌*◌, ◌-◌, ◌/◌, ◌%◌, ◌^◌, ◌≤◌, ◌<◌}
use native.Mathlib.Decide.{dec_lt, dec_le}
use native.Mathlib.Omega.{arith}
use lib.Dec.{leb, ltb}
use lib.ListN.{length, get_or, drop}
use borrow.Author.Tests.{le-leb, lt-leb, lt-ltb, le-ltb}
use Rattle.std.specs.Prelude.{Some, None, map, slice_range, ◌⊎◌}
use Rattle.std.proofs.lemmas.List.{map-id}
use Rattle.meaning.specs.Answers.{refused, broken}
use Rattle.meaning.specs.Dictionary as dictionary
use Rattle.meaning.specs.Dictionary.{Dict, limit, start_at, rank_walk, rank_from, placed, select_start, select_from}
use Rattle.meaning.proofs.If.{if_true, if_false, and_true}
use Rattle.sparse_one_nnd.specs.Said.{dict_at}
use Rattle.sparse_one_nnd.specs.Start.{entry_of, start_in, limit_start}
use Rattle.sparse_one_nnd.specs.declared.entries.Start.{Start}
use Rattle.sparse_one_nnd.proofs.Lists.{past_rest, past_length}
use Rattle.sparse_one_nnd.proofs.Ranks.{limit_none, limit_over, walk_le}

-- an entry that is there, or not
module _ (es : List ℕ) (i : ℕ) where
  pub entry_out : None ≡ entry_of (map (λ x. x) es) i → length es / 2 ≤ i
  entry_out e = go (dec_le (length es / 2) i)
    where
      go : Dec (length es / 2 ≤ i) → length es / 2 ≤ i
      go (yes h) = h
      go (no h) = absurd (let f = e ∙ ap (λ (l : List ℕ). entry_of l i) (map-id es) ∙ if_true _ _ (lt-ltb i (length es / 2) (omega arith)) in cc)

  pub entry_is : (p r : ℕ) → Some (p, r) ≡ entry_of (map (λ x. x) es) i → (i < length es / 2) × ((p ≡ get_or es (2 * i) 0) × (r ≡ get_or es (2 * i + 1) 0))
  entry_is p r e = go (dec_lt i (length es / 2))
    where
      at : Some (p, r) ≡ entry_of es i
      at = e ∙ ap (λ (l : List ℕ). entry_of l i) (map-id es)

      go : Dec (i < length es / 2) → (i < length es / 2) × ((p ≡ get_or es (2 * i) 0) × (r ≡ get_or es (2 * i + 1) 0))
      go (yes h) =
          let f = at ∙ if_true _ _ (lt-ltb i (length es / 2) h) in
          let z : (p, r) ≡ (get_or es (2 * i) 0, get_or es (2 * i + 1) 0) = cc in
          (h, (ap (λ (q : ℕ × ℕ). q.0) z, ap (λ (q : ℕ × ℕ). q.1) z))
      go (no h) = absurd (let f = at ∙ if_false _ _ (le-ltb i (length es / 2) (omega arith)) in cc)

pub and_left : {a : Bool} (b c : Bool) → a ≡ false → ((a && b) && c) ≡ false
and_left b c e = rw e

pub and_mid : {b : Bool} (a c : Bool) → b ≡ false → ((a && b) && c) ≡ false
and_mid true c e = rw e
and_mid false c e = refl

pub and_right : {c : Bool} (t : Bool) → c ≡ false → (t && c) ≡ false
and_right true e = e
and_right false e = refl

-- a start is there or not, and its ones fit or not
module _ (B M L : List ℕ) (g m : ℕ) where
  abbrev Says : Option dictionary.Start → Type 0
  Says s = s ≡ limit_start (start_at (dict_at B M L) g m)

  none_out : start_at (dict_at B M L) g m ≡ none → Says none
  unfolding limit_start
  none_out e = sym (ap limit_start e)

  pub no_large : length L / 2 ≤ g → start_at (dict_at B M L) g m ≡ none
  unfolding start_at
  no_large h = if_false _ _ (and_left _ _ (le-ltb (2 * g + 1) (length L) (omega arith)))

  pub no_middle : length M / 2 ≤ m → start_at (dict_at B M L) g m ≡ none
  unfolding start_at
  no_middle h =
      if_false _ none
      (and_mid (ltb (2 * g + 1) (length L)) (leb (get_or L (2 * g) 0 + get_or M (2 * m) 0) (length B)) (le-ltb (2 * m + 1) (length M) (omega arith)))

  past : length B < get_or L (2 * g) 0 + get_or M (2 * m) 0 → start_at (dict_at B M L) g m ≡ none
  unfolding start_at
  past h = if_false _ none (and_right (ltb (2 * g + 1) (length L) && ltb (2 * m + 1) (length M)) (lt-leb (get_or L (2 * g) 0 + get_or M (2 * m) 0) (length B) h))

  there : g < length L / 2 → m < length M / 2 → get_or L (2 * g) 0 + get_or M (2 * m) 0 ≤ length B
      → start_at (dict_at B M L) g m ≡ some (record { passed = get_or L (2 * g + 1) 0 + get_or M (2 * m + 1) 0; rest = drop (get_or L (2 * g) 0 + get_or M (2 * m) 0) B })
  unfolding start_at
  there h k p =
      if_true _ _
      (and_true (and_true (lt-ltb (2 * g + 1) (length L) (omega arith)) (lt-ltb (2 * m + 1) (length M) (omega arith)))
      (le-leb (get_or L (2 * g) 0 + get_or M (2 * m) 0) (length B) p))

  -- one law for each way of `start`
  pub start_large : None ≡ entry_of (map (λ x. x) L) g → Says none
  start_large e = none_out (no_large (entry_out L g e))

  pub start_middle : None ≡ entry_of (map (λ x. x) M) m → Says none
  start_middle e = none_out (no_middle (entry_out M m e))

  module _ (base rank more ones : ℕ) (e : Some (base, rank) ≡ entry_of (map (λ x. x) L) g) (f : Some (more, ones) ≡ entry_of (map (λ x. x) M) m) where
    pub start_past : length B < base + more → Says none
    start_past h = none_out (past (omega (arith, entry_is L g base rank e, entry_is M m more ones f)))

    pub start_over : 2 ^ 64 ≤ rank + ones → Says none
    unfolding limit_start
    start_over t = go (dec_le (base + more) (length B))
      where
        go : Dec (base + more ≤ length B) → Says none
        go (no h) = start_past (omega arith)
        go (yes h) =
            let p = entry_is L g base rank e in
            let q = entry_is M m more ones f in
            sym (ap limit_start (there p.0 q.0 (omega (arith, p.1, q.1)))
            ∙ if_false _ _ (le-ltb (get_or L (2 * g + 1) 0 + get_or M (2 * m + 1) 0) (2 ^ 64) (omega (arith, p.1, q.1))))

    pub start_out : (at : ℕ) → at ≡ base + more → (length B < at) ⊎ (length B < length B) → Says none
    start_out at a h = start_past (omega (arith, past_length at B h))

    pub start_is : (at o : ℕ) (l : List ℕ) → at ≡ base + more → (rank + ones < 2 ^ 64) × (o ≡ rank + ones) → at ≤ length B → l ≡ slice_range B at (length B)
        → Says (some (record { passed = o; rest = l }))
    unfolding limit_start
    start_is at o l a t h u =
        let p = entry_is L g base rank e in
        let q = entry_is M m more ones f in
        let v : at ≡ get_or L (2 * g) 0 + get_or M (2 * m) 0 = omega (arith, p.1, q.1) in
        let w : o ≡ get_or L (2 * g + 1) 0 + get_or M (2 * m + 1) 0 = omega (arith, p.1, q.1) in
        ap₂ (λ (o : ℕ) (l : List ℕ). some (record { passed = o; rest = l })) w (u ∙ past_rest B at ∙ ap (λ (k : ℕ). drop k B) v)
        ∙ sym (ap limit_start (there p.0 q.0 (omega arith)) ∙ if_true _ _ (lt-ltb (get_or L (2 * g + 1) 0 + get_or M (2 * m + 1) 0) (2 ^ 64) (omega arith)))

-- what is known of a start from its limit
data Begun (o : Option dictionary.Start) : Option dictionary.Start → Type 0 where
  absent : o ≡ none → Begun o none
  over : (s : dictionary.Start) → o ≡ some s → 2 ^ 64 ≤ s.passed → Begun o none
  begun : (s : dictionary.Start) → o ≡ some s → s.passed < 2 ^ 64 → Begun o (some s)

known : (o : Option dictionary.Start) → Begun o (limit_start o)
unfolding limit_start
known none = absent refl
known (some s) = go (dec_lt s.passed (2 ^ 64))
  where
    go : Dec (s.passed < 2 ^ 64) → Begun (some s) (elim (ltb s.passed (2 ^ 64)) [ true ↦ some s | false ↦ none ])
    go (yes h) = rw (lt-ltb s.passed (2 ^ 64) h) (begun s refl h)
    go (no h) = rw (le-ltb s.passed (2 ^ 64) (omega arith)) (over s refl (omega arith))

none_some : {s : dictionary.Start} {o : Option dictionary.Start} → o ≡ none → o ≡ some s → ⊥
none_some e f = let z : ◌≡◌ {A = ℕ} 0 1 = cc in omega arith

-- rank from a start
from_none : (d : Dict) (x g m : ℕ) → start_at d g m ≡ none → rank_from d x g m ≡ none
unfolding rank_from
from_none d x g m e = rw (e, rank_from)

from_some : (d : Dict) (x g m : ℕ) (s : dictionary.Start) → start_at d g m ≡ some s
    → rank_from d x g m ≡ rank_walk (x % 256) (x / 256 - 8 * m) s.passed s.rest
unfolding rank_from
from_some d x g m s e = rw (e, rank_from)

module _ (d : Dict) (x g m : ℕ) where
  pub rank_broken : start_in None ≡ limit_start (start_at d g m) → none ≡ limit (rank_from d x g m)
  rank_broken e = go (limit_start (start_at d g m)) (known (start_at d g m)) e
    where
      go : (o : Option dictionary.Start) → Begun (start_at d g m) o → none ≡ o → none ≡ limit (rank_from d x g m)
      go none (absent f) e = sym (limit_none _ (from_none d x g m f))
      go none (over s f h) e =
          sym (limit_over _ (λ k q. omega (arith, walk_le (x % 256) (x / 256 - 8 * m) s.passed s.rest k (sym (from_some d x g m s f) ∙ q))))
      go (some s) b e = absurd (none_some (sym e) refl)

  pub rank_begun : (s : Start) → start_in (Some s) ≡ limit_start (start_at d g m)
      → limit (rank_walk (x % 256) (x / 256 - 8 * m) s.ones s.rest.now) ≡ limit (rank_from d x g m)
  rank_begun s e = go (limit_start (start_at d g m)) (known (start_at d g m)) e
    where
      go : (o : Option dictionary.Start) → Begun (start_at d g m) o → some (record { passed = s.ones; rest = s.rest.now }) ≡ o
          → limit (rank_walk (x % 256) (x / 256 - 8 * m) s.ones s.rest.now) ≡ limit (rank_from d x g m)
      go none b e = absurd (none_some e refl)
      go (some t) (begun u q h) e =
          let z : record { passed = s.ones; rest = s.rest.now } ≡ t = cc in
          ap limit (ap (λ (s : dictionary.Start). rank_walk (x % 256) (x / 256 - 8 * m) s.passed s.rest) z ∙ sym (from_some d x g m t q))

-- select from a start
start_over_is : (x q o : ℕ) (bs : List ℕ) → q < 2 ^ 64 → 2 ^ 64 ≤ o → select_start x q o bs ≡ refused broken
unfolding select_start
start_over_is x q o [] h k = if_false _ _ (le-ltb o (2 ^ 64) k)
start_over_is x q o (n ∷ bs) h k = if_false _ _ (le-ltb o q (omega arith))

select_some : (d : Dict) (q g m : ℕ) (s : dictionary.Start) → start_at d g m ≡ some s → get_or d.large (2 * g + 1) 0 < q
    → select_from d q g m ≡ select_start (2048 * m) q s.passed s.rest
unfolding select_from
select_some d q g m s e h = rw (e, select_from) (if_true _ _ (lt-ltb (get_or d.large (2 * g + 1) 0) q h))

module _ (d : Dict) (q g m : ℕ) where
  pub from_out : start_at d g m ≡ none → refused broken ≡ placed (select_from d q g m)
  unfolding placed select_from
  from_out e = rw (e, select_from)

  pub from_above : q ≤ get_or d.large (2 * g + 1) 0 → refused broken ≡ placed (select_from d q g m)
  unfolding placed select_from
  from_above h = go (start_at d g m)
    where
      go : (o : Option dictionary.Start)
          → refused broken ≡ placed (elim o [ none ↦ refused broken | some s ↦ elim (ltb (get_or d.large (2 * g + 1) 0) q) [ true ↦ select_start (2048 * m) q s.passed s.rest | false ↦ refused broken ] ])
      go none = refl
      go (some s) = sym (ap placed (if_false _ _ (le-ltb (get_or d.large (2 * g + 1) 0) q h)))

  module _ (h : get_or d.large (2 * g + 1) 0 < q) where
    pub select_broken : q < 2 ^ 64 → start_in None ≡ limit_start (start_at d g m) → refused broken ≡ placed (select_from d q g m)
    unfolding placed
    select_broken u e = go (limit_start (start_at d g m)) (known (start_at d g m)) e
      where
        go : (o : Option dictionary.Start) → Begun (start_at d g m) o → none ≡ o → refused broken ≡ placed (select_from d q g m)
        go none (absent f) e = from_out f
        go none (over s f k) e = sym (ap placed (select_some d q g m s f h ∙ start_over_is (2048 * m) q s.passed s.rest u k))
        go (some s) b e = absurd (none_some (sym e) refl)

    pub select_begun : (s : Start) → start_in (Some s) ≡ limit_start (start_at d g m) → placed (select_start (2048 * m) q s.ones s.rest.now) ≡ placed (select_from d q g m)
    select_begun s e = go (limit_start (start_at d g m)) (known (start_at d g m)) e
      where
        go : (o : Option dictionary.Start) → Begun (start_at d g m) o → some (record { passed = s.ones; rest = s.rest.now }) ≡ o
            → placed (select_start (2048 * m) q s.ones s.rest.now) ≡ placed (select_from d q g m)
        go none b e = absurd (none_some e refl)
        go (some t) (begun u v k) e =
            let z : record { passed = s.ones; rest = s.rest.now } ≡ t = cc in
            ap placed (ap (λ (s : dictionary.Start). select_start (2048 * m) q s.passed s.rest) z ∙ sym (select_some d q g m t v h))
