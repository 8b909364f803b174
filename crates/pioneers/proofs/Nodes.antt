-- The string, written node by node into zeros.
use mathlib.Core.Path.{◌≡◌, refl, sym, ap, ◌∙◌, subst}
use mathlib.Core.Bool.{Bool, true, false}
use mathlib.Core.List.{List, [], ◌∷◌, ◌++◌}
use mathlib.Core.Logic.{◌⊎◌, inl, inr}
use Prim.Native.Nat.{ℕ, suc, ◌+◌, ◌-◌, ◌*◌, ◌≤◌, ◌<◌}
use native.Mathlib.Numerals.{add-one}
use native.Mathlib.Omega.{arith}
use lib.ListN.{length, get_or, take, drop, length-take, replicate, length-replicate, get_or-replicate, get_or-eq_default, get_or-append, drop_of_length-le}
use lib.Seq.{get_or-take, get_or-drop, get_or-append_seam, drop-cons, drop-drop, drop-append-add}
use Rattle.meaning.specs.Bits.{stored, pack}
use Rattle.meaning.specs.String.{string, nodes_at}
use Rattle.meaning.specs.List.{Rule, RuleFrom, greatest}
use Rattle.meaning.proofs.Stored.{length_stored}
use Rattle.meaning.proofs.Pack.{pack_nil, pack_same, pack_stored}
use Rattle.meaning.proofs.String.{string_at, string_length}
use Rattle.pioneers.specs.Placed.{Ready}
use Rattle.pioneers.proofs.Parts.{lt_or_ge}

-- the bits before `at` are written; what is left of the string is that of the levels from i on, with d nodes open
pub record Put (vs words : List ℕ) (k i at d : ℕ) : Type 0 where
  pub words_are : words ≡ pack k (take at (string vs))
  pub left : drop at (string vs) ≡ nodes_at d (drop i vs)
  pub rule : RuleFrom d (drop i vs)
  pub count : at + 2 * (length vs - i) + d ≡ 2 * length vs + 1
  pub within : i ≤ length vs
  pub len : length words ≡ k
  pub room : 2 * length vs + 2 ≤ 64 * k
  pub few : length vs ≤ greatest
  pub kept : Rule vs

module _ (L : List Bool) (at z : ℕ) (t : List Bool) (e : drop at L ≡ replicate z false ++ true ∷ t) (m : at ≤ length L) where
  -- at the next one
  one_at : get_or (take (at + z + 1) L) (at + z) false ≡ true
  one_at =
      get_or-take (at + z + 1) L (at + z) false (omega arith) ∙ sym (get_or-drop at L z false) ∙ ap (λ (x : List Bool). get_or x z false) e
      ∙ ap (λ (x : ℕ). get_or (replicate z false ++ true ∷ t) x false) (sym (length-replicate z false)) ∙ get_or-append_seam (replicate z false) true t false

  -- elsewhere
  else_at : (j : ℕ) → (j ≡ at + z → ⊥) → get_or (take (at + z + 1) L) j false ≡ get_or (take at L) j false
  else_at j n = go (lt_or_ge j at) (lt_or_ge j (at + z))
    where
      past : (a : ℕ) → a ≤ j → get_or (take a L) j false ≡ false
      past a h = get_or-eq_default (take a L) false (omega (arith, length-take a L))

      go : (j < at) ⊎ (at ≤ j) → (j < at + z) ⊎ (at + z ≤ j) → get_or (take (at + z + 1) L) j false ≡ get_or (take at L) j false
      go (inl h) x = get_or-take (at + z + 1) L j false (omega arith) ∙ sym (get_or-take at L j false h)
      go (inr h) (inl g) =
          get_or-take (at + z + 1) L j false (omega arith)
          ∙ ap (λ (x : ℕ). get_or L x false) (omega arith)
          ∙ sym (get_or-drop at L (j - at) false)
          ∙ ap (λ (x : List Bool). get_or x (j - at) false) e
          ∙ get_or-append (replicate z false) (true ∷ t) false (j - at) (omega (arith, length-replicate z false))
          ∙ get_or-replicate z (j - at) false false (omega arith)
          ∙ sym (past at h)
      go (inr h) (inr g) = past (at + z + 1) (omega arith) ∙ sym (past at h)

  rest_at : drop (at + z + 1) L ≡ t
  rest_at =
      let q : at + z + 1 ≡ at + (z + 1) = omega arith in
      ap (λ (x : ℕ). drop x L) q ∙ sym (drop-drop (z + 1) at L) ∙ ap (drop (z + 1)) e
      ∙ ap (λ (x : ℕ). drop (x + 1) (replicate z false ++ true ∷ t)) (sym (length-replicate z false))
      ∙ drop-append-add (replicate z false) (true ∷ t) 1

-- one node more
module _ (vs words : List ℕ) (k i at d v : ℕ) (p : Put vs words k i at d) (h : i < length vs) (e : v ≡ get_or vs i 0) where
  cons : drop i vs ≡ v ∷ drop (suc i) vs
  cons = drop-cons vs i 0 h ∙ ap (λ (x : ℕ). x ∷ drop (suc i) vs) (sym e)

  rule_here : (v ≤ d) × RuleFrom (suc v) (drop (suc i) vs)
  unfolding RuleFrom
  rule_here = subst (RuleFrom d) cons p.rule

  node_room : at + (d - v) < 64 * k
  node_room = omega (arith, p.count, p.room)

  pub node_fits : (v ≤ d) × (at + d < 4294967296)
  node_fits = (rule_here.0, omega (arith, p.count, p.few))

  left_here : drop at (string vs) ≡ replicate (d - v) false ++ true ∷ nodes_at (suc v) (drop (suc i) vs)
  unfolding nodes_at
  left_here = p.left ∙ ap (nodes_at d) cons

  pub put_next : (words' : List ℕ) (at' d' : ℕ) → (at' ≡ at + (d - v) + 1) × (d' ≡ v + 1) → words' ≡ stored words (at + (d - v)) true
      → Put vs words' k (i + 1) at' d'
  put_next words' at' d' t w =
      let m : at ≤ length (string vs) = omega (arith, p.count, string_length vs p.kept) in
      rw (t.0, t.1, w)
      (record {
        words_are =
            ap (λ (w : List ℕ). stored w (at + (d - v)) true) p.words_are
            ∙ pack_stored k (at + (d - v)) true (take at (string vs)) (take (at + (d - v) + 1) (string vs)) node_room
            (one_at (string vs) at (d - v) _ left_here m) (else_at (string vs) at (d - v) _ left_here m);
        left = rw (add-one i, add-one v) (rest_at (string vs) at (d - v) _ left_here m);
        rule = rw (add-one i, add-one v) rule_here.1;
        count = omega (arith, p.count, rule_here.0);
        within = omega arith;
        len = length_stored words (at + (d - v)) true ∙ p.len;
        room = p.room;
        few = p.few;
        kept = p.kept;
      })

-- the root opens
pub put_start : (vs before words : List ℕ) → Ready vs before → words ≡ stored before 0 true → Put vs words (length words) 0 1 0
unfolding Rule
put_start vs before words r q =
    let k : length words ≡ length before = ap length q ∙ length_stored before 0 true in
    record {
      words_are =
          q ∙ ap (λ (w : List ℕ). stored w 0 true) (r.zeros ∙ sym (pack_nil (length before)))
          ∙ pack_stored (length before) 0 true [] (take 1 (string vs)) (omega (arith, r.room)) (ap (λ (l : List Bool). get_or (take 1 l) 0 false) (string_at vs r.rule))
          (λ j n. get_or-eq_default (take 1 (string vs)) false (omega (arith, length-take 1 (string vs))))
          ∙ ap (λ (x : ℕ). pack x (take 1 (string vs))) (sym k);
      left = ap (drop 1) (string_at vs r.rule);
      rule = r.rule;
      count = omega arith;
      within = omega arith;
      len = refl;
      room = omega (arith, r.room);
      few = r.few;
      kept = r.rule;
    }

-- at the end the zeros stand there already
module _ (vs : List ℕ) (k : ℕ) where
  pub put_done : (words : List ℕ) (i at d : ℕ) → Put vs words k i at d → length vs ≤ i → (n : ℕ) → k ≡ n → words ≡ pack n (string vs)
  unfolding nodes_at
  put_done words i at d p h n e = subst (λ (x : ℕ). words ≡ pack x (string vs)) e (p.words_are ∙ pack_same k (take at (string vs)) (string vs) (λ j l. go j (lt_or_ge j at)))
    where
      tail_is : drop at (string vs) ≡ replicate (suc d) false
      tail_is = p.left ∙ ap (nodes_at d) (drop_of_length-le vs h)

      zeros : (j : ℕ) → get_or (replicate (suc d) false) j false ≡ false
      zeros j = side (lt_or_ge j (suc d))
        where
          side : (j < suc d) ⊎ (suc d ≤ j) → get_or (replicate (suc d) false) j false ≡ false
          side (inl g) = get_or-replicate (suc d) j false false g
          side (inr g) = get_or-eq_default (replicate (suc d) false) false {n = j} (omega (arith, length-replicate (suc d) false))

      go : (j : ℕ) → (j < at) ⊎ (at ≤ j) → get_or (take at (string vs)) j false ≡ get_or (string vs) j false
      go j (inl g) = get_or-take at (string vs) j false g
      go j (inr g) =
          let q : j ≡ at + (j - at) = omega arith in
          get_or-eq_default (take at (string vs)) false {n = j} (omega (arith, length-take at (string vs)))
          ∙ sym (ap (λ (x : ℕ). get_or (string vs) x false) q ∙ sym (get_or-drop at (string vs) (j - at) false)
          ∙ ap (λ (l : List Bool). get_or l (j - at) false) tail_is ∙ zeros (j - at))
