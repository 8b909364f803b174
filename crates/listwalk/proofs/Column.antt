-- The next sibling of a node, as the question answers it on what a build left, and the column of all of them.
use mathlib.Core.Path.{◌≡◌, refl, sym, ap, subst, ◌∙◌}
use mathlib.Core.List.{List, ◌∷◌, [], ◌++◌}
use Prim.Native.Nat.{ℕ, suc, ◌+◌, ◌*◌, ◌-◌, ◌<◌, ◌≤◌}
use native.Mathlib.Nat.{zero-add}
use native.Mathlib.Numerals.{add-one}
use native.Mathlib.Omega.{arith}
use lib.ListN.{length, get_or, set, drop, length-set, get_or-append}
use lib.Seq.{sets, sets-eq}
use Rattle.meaning.specs.Bits.{tab}
use Rattle.meaning.specs.String.{string}
use Rattle.meaning.specs.Child.{IsNode}
use Rattle.meaning.specs.Sibling.{next}
use Rattle.meaning.specs.Kin.{node_at}
use Rattle.meaning.specs.Areas.{joined}
use Rattle.meaning.specs.Build as meant
use Rattle.meaning.specs.Questions.{next_sibling, edge_of, heard}
use Rattle.meaning.specs.Listing.{sibling_id, id_of, node_line, node_text, nodes_text}
use Rattle.meaning.proofs.Tab.{length_tab, get_d_tab, tab_snoc, tab_same}
use Rattle.meaning.proofs.Ask.{node_is}
use Rattle.meaning.proofs.Kin.{node_of_lem, level_le}
use Rattle.meaning.proofs.Questions.{next_sibling_lem}
use Rattle.meaning.proofs.Listwalk.{sibling_heard}
use Rattle.record.specs.declared.Catalogue.{Catalogue}
use Rattle.record.specs.Record.{tree_of, lent_of}
use Rattle.questions.specs.Said.{node_of, said_edge}
use Rattle.questions.specs.declared.Node.{Node}
use Rattle.questions.specs.declared.Edge.{Edge}
use Rattle.refusal.specs.declared.Refusal.{Refusal}
use Rattle.std.specs.Prelude.{Option, None, Some, Result, Ok, Err}
use Rattle.questions.proofs.Built.{next_sibling_matches}
use Rattle.listing.specs.Said.{ids_in}
use Rattle.meaning.proofs.Runs.{sets_append}
use Rattle.listwalk.specs.Standing.{Standing}

module _ {vs : List ℕ} {d : Catalogue} {k : ℕ} (s : Standing vs d) (h : k < length vs) where
  -- the node of list place k has a place
  pub place_fits : get_or vs k 0 ≤ 2 * k
  place_fits = level_le vs s.accepted.rule k h

  module _ (e : Result (Option Edge) Refusal) (x y : ℕ) (p : x ≡ 2 * k + 1 - get_or vs k 0) (i : y ≡ k + 1) (f : said_edge e ≡ next_sibling (tree_of d) (lent_of d) (record { place = x; id = y })) where
    n : Node
    n = record { place = x; id = y }

    here : node_of n ≡ node_at vs k
    unfolding node_at n
    here = node_is x (2 * k + 1 - get_or vs k 0) y (suc k) p (i ∙ add-one k)

    said_sibling : said_edge e ≡ next_sibling (meant.tree_of vs) (meant.lent_of vs s.labels s.rooms) (node_at vs k)
    unfolding n
    said_sibling =
        let a = s.accepted in
        let o = node_of_lem vs a.rule k h in
        next_sibling_matches vs s.labels s.rooms a d.counts s.tree n (subst (IsNode (string vs)) (sym here) o) e
        (f ∙ ap (λ z. next_sibling (tree_of d) z (node_of n)) s.areas)
        ∙ ap (λ z. edge_of s.labels (next (string vs) z)) here
        ∙ sym (next_sibling_lem vs s.labels s.rooms a (node_at vs k) o)

    said_id : id_of (heard (said_edge e)) ≡ sibling_id vs k
    said_id = ap (λ x. id_of (heard x)) said_sibling ∙ sibling_heard vs s.labels s.rooms s.accepted k h

    pub sibling_edge : (q : Option Edge) (z : Edge) → e ≡ Ok q → q ≡ Some z → z.node.id ≡ sibling_id vs k
    unfolding id_of heard
    sibling_edge q z d o = sym (ap (λ x. id_of (heard (said_edge x))) (d ∙ ap Ok o)) ∙ said_id

    pub sibling_nothing : (q : Option Edge) → e ≡ Ok q → q ≡ None → 0 ≡ sibling_id vs k
    unfolding id_of heard
    sibling_nothing q d o = sym (ap (λ x. id_of (heard (said_edge x))) (d ∙ ap Ok o)) ∙ said_id

    pub sibling_refused : (r : Refusal) → e ≡ Err r → 0 ≡ sibling_id vs k
    unfolding id_of heard
    sibling_refused r d = sym (ap (λ x. id_of (heard (said_edge x))) d) ∙ said_id

-- the siblings of the first k nodes stand at the front of t
pub record Column (vs s t : List ℕ) (k : ℕ) : Type 0 where
  pub within : k ≤ length vs
  pub same : length t ≡ length s
  pub is : t ≡ sets s 0 (tab (sibling_id vs) 0 k)

pub column_none : (vs s : List ℕ) → Column vs s s 0
unfolding tab
column_none vs s = record { within = omega arith; same = refl; is = refl }

module _ {vs s t : List ℕ} {k : ℕ} (o : Column vs s t k) where
  pub column_more : (x : ℕ) → k < length vs → x ≡ sibling_id vs k → Column vs s (set t k x) (k + 1)
  column_more x h e =
      let f = sibling_id vs in
      let u : 0 + length (tab f 0 k) ≡ k = omega (arith, length_tab f 0 k) in
      record {
        within = omega arith;
        same = length-set t k x ∙ o.same;
        is =
            (λ i. set (o.is i) (sym u i) (e i))
            ∙ sym (sets_append s 0 (tab f 0 k) (f k ∷ []))
            ∙ ap (λ y. sets s 0 (tab f 0 k ++ f y ∷ [])) (sym (zero-add k))
            ∙ ap (sets s 0) (sym (tab_snoc f 0 k))
            ∙ ap (λ y. sets s 0 (tab f 0 y)) (sym (add-one k));
      }

  pub column_all : length vs ≤ k → t ≡ sets s 0 (tab (sibling_id vs) 0 (length vs))
  column_all h =
      let w = o.within in
      let e : k ≡ length vs = omega arith in
      o.is ∙ ap (λ y. sets s 0 (tab (sibling_id vs) 0 y)) e

-- the node lines by the column
pub column_text : (vs bs s t : List ℕ) → length vs ≤ length s → t ≡ sets s 0 (tab (sibling_id vs) 0 (length vs))
    → nodes_text vs bs (sibling_id vs) (length vs) ≡ nodes_text vs bs (ids_in t) (length vs)
unfolding nodes_text node_text
column_text vs bs s t l e = ap joined (tab_same (node_text vs bs f) (node_text vs bs (ids_in t)) 0 n same)
  where
    f : ℕ → ℕ
    f = sibling_id vs

    n : ℕ
    n = length vs

    fits : 0 + length (tab f 0 n) ≤ length s
    fits = omega (arith, length_tab f 0 n)

    at : (j : ℕ) → j < n → f j ≡ get_or t j 0
    at j h =
        sym (ap (λ x. get_or x j 0) (e ∙ sets-eq (tab f 0 n) s 0 fits)
        ∙ get_or-append (tab f 0 n) (drop (0 + length (tab f 0 n)) s) 0 j (omega (arith, length_tab f 0 n))
        ∙ get_d_tab f 0 n j 0 h
        ∙ ap f (zero-add j))

    same : (j : ℕ) → 0 ≤ j → j < 0 + n → node_text vs bs f j ≡ node_text vs bs (ids_in t) j
    same j z h = ap (node_line (suc j) (get_or vs j 0) (get_or bs j 0) _) (at j (omega arith))
