-- What each call returns, and what it leaves in all that it was lent.
use Rattle.std.specs.Prelude.{true, false, List, ℕ, length, replicate}
use Rattle.std.proofs.lemmas.List.Edits.{sets}
use Rattle.meaning.specs.Answers.{Answer, is, nothing, refused}
use Rattle.meaning.specs.Build.{Lent, rooms_of, Tree, After, zeroed, build}
use Rattle.meaning.specs.Growth.{grow}
use Rattle.meaning.specs.Walking.{WalkRooms, Walked, walking}
use Rattle.flight.specs.declared.reply.Reply.{Reply}
use Rattle.flight.specs.Layout.{tree_at, numbers_of, of_number, of_tree, status, four, put, short}

-- a question: what it returns, and `out`
pub record Call : Type 0 where
  pub returned : ℕ
  pub out : List ℕ

abbrev pub call : ℕ → List ℕ → Call
call n out = record { returned = n; out = out }

-- a reply of the code, told
unfoldable pub replied : Reply → List ℕ → Call
replied r out = call r.returned (sets out 0 (four r.out))

-- unless the record has fewer numbers than 18, n, or `out` has fewer than four
unfoldable pub answering : Reply → ℕ → List ℕ → Call
answering r n out = elim (short n (length out)) [ true ↦ call 15 out | false ↦ replied r out ]

-- by a record of n numbers
unfoldable pub asked {ℓ} : {A : Type ℓ} → (A → List ℕ) → Answer A → ℕ → List ℕ → Call
asked f a n out =
    elim (short n (length out)) [
      | true ↦ record { returned = 15; out = out }
      | false ↦ record { returned = status a; out = put f a out }
    ]

-- a build or a growth: the record and the areas besides
pub record Made : Type 0 where
  pub returned : ℕ
  pub out : List ℕ
  pub counts : List ℕ
  pub areas : Lent

abbrev pub make : ℕ → List ℕ → List ℕ → Lent → Made
make n out r a = record { returned = n; out = out; counts = r; areas = a }

-- the record r with a tree at its front; z where there is none
unfoldable pub kept : List ℕ → List ℕ → Answer Tree → List ℕ
kept r z (is t) = sets r 0 (numbers_of t)
kept r z nothing = z
kept r z (refused q) = z

-- by the operation's own outcome
unfoldable pub made : List ℕ → List ℕ → List ℕ → After → Made
made r z out x =
    record { returned = status x.reply; out = put of_tree x.reply out; counts = kept r z x.reply; areas = x.areas }

-- "A refused build leaves all six areas zero", and the record
unfoldable pub building : List ℕ → List ℕ → Lent → List ℕ → List ℕ → Made
building levels labels a r out =
    elim (short (length r) (length out)) [
      | true ↦ record { returned = 15; out = out; counts = r; areas = zeroed (rooms_of a) }
      | false ↦ made r (sets r 0 (replicate 18 0)) out (build levels labels (rooms_of a))
    ]

-- "Scratch is zero after every call"
unfoldable pub untouched : Lent → Lent
untouched a = record { held = a.held; labels = a.labels; scratch = replicate (length a.scratch) 0 }

-- "Refused growth leaves 0 to 4 as they stood", and the record
unfoldable pub growing : Lent → List ℕ → ℕ → ℕ → List ℕ → Made
growing a r v b out =
    elim (short (length r) (length out)) [
      | true ↦ record { returned = 15; out = out; counts = r; areas = untouched a }
      | false ↦ made r r out (grow (tree_at r) a v b)
    ]

-- a walk: the two lists and scratch besides
pub record Toured : Type 0 where
  pub returned : ℕ
  pub out : List ℕ
  pub levels : List ℕ
  pub labels : List ℕ
  pub scratch : List ℕ

abbrev pub tour : ℕ → List ℕ → List ℕ → List ℕ → List ℕ → Toured
tour n out vs bs s = record { returned = n; out = out; levels = vs; labels = bs; scratch = s }

-- by the walk's own outcome
unfoldable pub toured : List ℕ → Walked → Toured
toured out w =
    record { returned = status w.answer; out = put of_number w.answer out; levels = w.levels; labels = w.labels; scratch = w.scratch }

-- refused, the lists are zeros
unfoldable pub touring : Lent → List ℕ → WalkRooms → List ℕ → Toured
touring a r rooms out =
    elim (short (length r) (length out)) [
      | true ↦
          record {
            returned = 15;
            out = out;
            levels = replicate rooms.levels 0;
            labels = replicate rooms.labels 0;
            scratch = replicate rooms.scratch 0;
          }
      | false ↦ toured out (walking (tree_at r) a rooms)
    ]
