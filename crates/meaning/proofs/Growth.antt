-- THE END of growth: over the areas that a build leaves it is a build of the longer list, and of the answers by the steps one changes.
use mathlib.Core.Path.{◌≡◌, sym, ap, ap₂, ◌∙◌}
use mathlib.Core.Bool.{true}
use mathlib.Core.Option.{some, none}
use mathlib.Core.List.{List, [], ◌∷◌, ◌++◌, append_assoc}
use Prim.Native.Nat.{ℕ, suc, ◌-◌, ◌≤◌}
use native.Mathlib.Omega.{arith}
use lib.ListN.{length, replicate, length-append, set, length-replicate}
use lib.Seq.{set_at}
use borrow.Author.Tests.{le-leb, eq-eqb}
use Rattle.meaning.specs.Answers.{Refusal, is, refused}
use Rattle.meaning.specs.Bits.{bits_of}
use Rattle.meaning.specs.String.{string}
use Rattle.meaning.specs.List.{Rule, greatest}
use Rattle.meaning.specs.Family.{tower}
use Rattle.meaning.specs.Areas.{Rooms, filled, written, counted}
use Rattle.meaning.specs.Refusals.{check, checks, first_of, refusal, Accepted}
use Rattle.meaning.specs.Build.{rooms_of, tree_of, lent_of, build, After, answers_in}
use Rattle.meaning.specs.Growth.{grown, grown_tower, one_root, levels_of, bits_in, sound_in, sound, grow_refusal, grow}
use Rattle.meaning.specs.Change.{AnswersGrow}
use Rattle.meaning.proofs.If.{and_true, if_none, if_some}
use Rattle.meaning.proofs.Levels.{levels_of_lem}
use Rattle.meaning.proofs.OneRoot.{string_one_root, one_root_test}
use Rattle.meaning.proofs.Accepted.{accepted_exactly}
use Rattle.meaning.proofs.Front.{rule_front}
use Rattle.meaning.proofs.Change.{answers_grow}
use Rattle.meaning.proofs.Stepped.{grow_by}
use Rattle.meaning.proofs.Held.{held_string, held_answers}
use Rattle.meaning.proofs.Lent.{rooms_of_lem, bits_in_lem, words_fit}

module _ (vs bs : List ℕ) (rooms : Rooms) (a : Accepted vs bs rooms) where
  string_in : bits_of (lent_of vs bs rooms).held.words (bits_in (tree_of vs)) ≡ string vs
  string_in = ap (bits_of (lent_of vs bs rooms).held.words) (bits_in_lem vs bs rooms a) ∙ held_string vs bs rooms a.rule a.few

  is_sound : sound (tree_of vs) (lent_of vs bs rooms) ≡ true
  unfolding sound sound_in tree_of
  is_sound =
      and_true (and_true (le-leb _ _ (words_fit vs bs rooms a)) (eq-eqb _ _ (bits_in_lem vs bs rooms a)))
      (ap one_root string_in ∙ (one_root_test (string vs)).1 (string_one_root vs a.rule))

  module _ (v b : ℕ) where
    same : length (vs ++ v ∷ []) ≡ length (bs ++ b ∷ [])
    same = omega (arith, a.same, length-append vs (v ∷ []), length-append bs (b ∷ []))

    -- growth is refused as a build of the longer list is
    pub grow_refusal_lem : grow_refusal (tree_of vs) (lent_of vs bs rooms) v ≡ refusal (vs ++ v ∷ []) (bs ++ b ∷ []) rooms
    unfolding grow_refusal refusal check first_of
    grow_refusal_lem =
        ap (λ s. first_of (check s 9 (0 ∷ []) ∷ checks (levels_of (bits_of (lent_of vs bs rooms).held.words (bits_in (tree_of vs))) ++ v ∷ []) (rooms_of (lent_of vs bs rooms)))) is_sound
        ∙ ap₂ (λ us r. first_of (checks (us ++ v ∷ []) r)) (ap levels_of string_in ∙ levels_of_lem vs a.rule) (rooms_of_lem vs bs rooms a)
        ∙ sym (ap (λ s. first_of (check s 1 (0 ∷ []) ∷ checks (vs ++ v ∷ []) rooms)) (eq-eqb _ _ same))

    -- the levels are those that a build of the longer list makes
    pub grown_tower_lem : grown_tower (lent_of vs bs rooms).held.words (bits_in (tree_of vs)) v ≡ tower 4 (string (vs ++ v ∷ []))
    unfolding grown_tower grown
    grown_tower_lem = ap (λ l. tower 4 (string (levels_of l ++ v ∷ []))) string_in ∙ ap (λ us. tower 4 (string (us ++ v ∷ []))) (levels_of_lem vs a.rule)

    label_set : length (bs ++ b ∷ []) ≤ rooms.labels → set (filled rooms.labels bs) (length vs) b ≡ filled rooms.labels (bs ++ b ∷ [])
    unfolding filled
    label_set h =
        let k : ℕ = rooms.labels - length (bs ++ b ∷ []) in
        let e : rooms.labels - length bs ≡ suc k = omega (arith, length-append bs (b ∷ [])) in
        ap (λ n. set (bs ++ replicate n 0) (length vs) b) e
        ∙ set_at bs 0 (replicate k 0) b (length vs) (sym a.same)
        ∙ sym (append_assoc bs (b ∷ []) (replicate k 0))

    scratch_same : replicate (length (lent_of vs bs rooms).scratch) 0 ≡ (lent_of vs bs rooms).scratch
    unfolding lent_of
    scratch_same = ap (λ n. replicate n 0) (length-replicate {A = ℕ} rooms.scratch 0)

    -- accepted, it is a build of the longer list: the record of counts and all six areas, to their ends
    pub grow_is : refusal (vs ++ v ∷ []) (bs ++ b ∷ []) rooms ≡ none → grow (tree_of vs) (lent_of vs bs rooms) v b ≡ build (vs ++ v ∷ []) (bs ++ b ∷ []) rooms
    unfolding grow build tree_of lent_of
    grow_is e = if_none _ _ (grow_refusal_lem ∙ e) ∙ step ∙ sym (if_none _ _ e)
      where
        count : suc (length vs) ≡ length (vs ++ v ∷ [])
        count = omega (arith, length-append vs (v ∷ []))

        fits : length (bs ++ b ∷ []) ≤ rooms.labels
        fits = omega (arith, same, ((accepted_exactly (vs ++ v ∷ []) (bs ++ b ∷ []) rooms).0 e).label)

        step : ◌≡◌ {A = After}
            (record {
              reply = is (record { nodes = suc (length vs); counts = counted (grown_tower (lent_of vs bs rooms).held.words (bits_in (tree_of vs)) v) });
              areas =
                  record {
                    held = written (rooms_of (lent_of vs bs rooms)) (grown_tower (lent_of vs bs rooms).held.words (bits_in (tree_of vs)) v);
                    labels = set (filled rooms.labels bs) (length vs) b;
                    scratch = replicate (length (lent_of vs bs rooms).scratch) 0;
                  };
            })
            (record { reply = is (tree_of (vs ++ v ∷ [])); areas = lent_of (vs ++ v ∷ []) (bs ++ b ∷ []) rooms })
        step = λ i.
            record {
              reply = is (record { nodes = count i; counts = counted (grown_tower_lem i) });
              areas = record { held = written (rooms_of_lem vs bs rooms a i) (grown_tower_lem i); labels = label_set fits i; scratch = scratch_same i };
            }

    -- refused, it leaves the areas as they stood
    pub grow_refused : (r : Refusal) → refusal (vs ++ v ∷ []) (bs ++ b ∷ []) rooms ≡ some r
        → grow (tree_of vs) (lent_of vs bs rooms) v b ≡ record { reply = refused r; areas = lent_of vs bs rooms }
    unfolding grow lent_of
    grow_refused r e =
        if_some _ _ r (grow_refusal_lem ∙ e)
        ∙ ap (λ s. record { reply = refused r; areas = record { held = (lent_of vs bs rooms).held; labels = (lent_of vs bs rooms).labels; scratch = s } }) scratch_same

-- of the answers by the steps, before and after, one changes
pub grow_answers : (vs bs : List ℕ) (v b : ℕ) (rooms : Rooms) → Rule (vs ++ v ∷ []) → length (vs ++ v ∷ []) ≤ greatest
    → AnswersGrow vs v (string vs) (string (vs ++ v ∷ [])) (answers_in (tree_of vs) (lent_of vs bs rooms))
    (answers_in (tree_of (vs ++ v ∷ [])) (lent_of (vs ++ v ∷ []) (bs ++ b ∷ []) rooms))
grow_answers vs bs v b rooms r h =
    grow_by vs v (string vs) (string (vs ++ v ∷ [])) (answers_grow vs v r) (answers_in (tree_of vs) (lent_of vs bs rooms))
    (answers_in (tree_of (vs ++ v ∷ [])) (lent_of (vs ++ v ∷ []) (bs ++ b ∷ []) rooms))
    (held_answers vs bs rooms (rule_front vs v [] r).0 (omega (arith, length-append vs (v ∷ []))))
    (held_answers (vs ++ v ∷ []) (bs ++ b ∷ []) rooms r h)
