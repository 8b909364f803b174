-- What an outcome says, where it is a tree t and the areas y, or a refusal and the areas n.
use mathlib.Core.Path.{◌≡◌, refl, sym, ap, ◌∙◌, subst}
use mathlib.Core.Bool.{true, false}
use mathlib.Core.Option.{Option, none, some}
use Rattle.std.specs.Prelude.{Ok, Err, is_ok}
use Rattle.meaning.specs.Answers.{Refusal, is, refused}
use Rattle.meaning.specs.Build.{Lent, Tree, After}
use Rattle.meaning.proofs.If.{clash}
use Rattle.refusal.specs.Said.{refused_of}
use Rattle.record.specs.declared.Counts.{Counts}
use Rattle.balanced_parens.specs.Said.{said}
use Rattle.balanced_parens.specs.Areas.{after}
use Rattle.balanced_parens.specs.Demands.{Made}

none_some : {x : Refusal} → none ≡ some x → ⊥
none_some e = absurd cc

-- an answer is a tree or a refusal
pub reply_tree : (r : Made) (t : Tree) → said r ≡ is t → refused_of r ≡ none
reply_tree (Ok c) t e = refl
reply_tree (Err x) t e = absurd cc

pub reply_refused : (r : Made) (x : Refusal) → said r ≡ refused x → refused_of r ≡ some x
reply_refused (Ok c) x e = absurd cc
reply_refused (Err y) x e = cc

-- so the test of it tells which
pub made_none : (r : Made) → is_ok r ≡ true → refused_of r ≡ none
made_none (Ok c) e = refl
made_none (Err x) e = absurd (clash e refl)

pub none_made : (r : Made) → is_ok r ≡ false → (x : Refusal) × (refused_of r ≡ some x)
none_made (Ok c) e = absurd (clash refl e)
none_made (Err x) e = (_, refl)

pub no_refusal : (r : Made) → refused_of r ≡ none → is_ok r ≡ true
no_refusal (Ok c) e = refl
no_refusal (Err x) e = absurd cc

pub made_tree : (r : Made) → is_ok r ≡ true → (x : Refusal) → said r ≡ refused x → ⊥
made_tree (Ok c) e x f = absurd cc
made_tree (Err y) e x f = clash e refl

pub not_tree : (r : Made) → is_ok r ≡ false → (t : Tree) → said r ≡ is t → ⊥
not_tree (Ok c) e t f = clash refl e
not_tree (Err x) e t f = absurd cc

-- the counts of a tree that is made
pub made_counts : (r : Made) → is_ok r ≡ true → (c : Counts) × (r ≡ Ok c)
made_counts (Ok c) e = (c, refl)
made_counts (Err x) e = absurd (clash e refl)

abbrev pub outcome_of : Tree → Lent → Lent → Option Refusal → After
outcome_of t y n o = elim o [ none ↦ after (is t) y | some x ↦ after (refused x) n ]

pub record Says (t : Tree) (y n z : Lent) (r : Made) (o : Option Refusal) : Type 0 where
  pub first : refused_of r ≡ o
  pub tree : o ≡ none → said r ≡ is t
  pub areas : o ≡ none → z ≡ y
  pub kept : (x : Refusal) → o ≡ some x → z ≡ n

pub says : (t : Tree) (y n z : Lent) (r : Made) (o : Option Refusal) → after (said r) z ≡ outcome_of t y n o → Says t y n z r o
says t y n z r none e =
    let f = ap (λ (x : After). x.reply) e in
    record { first = reply_tree r t f; tree = λ m. f; areas = λ m. ap (λ (x : After). x.areas) e; kept = λ x m. absurd (none_some m) }
says t y n z r (some x) e =
    record {
      first = reply_refused r x (ap (λ (x : After). x.reply) e);
      tree = λ m. absurd (none_some (sym m));
      areas = λ m. absurd (none_some (sym m));
      kept = λ q m. ap (λ (x : After). x.areas) e;
    }

-- what holds of both areas holds of those that are left
pub either_way : (t : Tree) (y n z : Lent) (r : Made) (P : Lent → Type 0) → P y → P n → (o : Option Refusal) → after (said r) z ≡ outcome_of t y n o → P z
either_way t y n z r P p q none e = subst P (sym (ap (λ (x : After). x.areas) e)) p
either_way t y n z r P p q (some x) e = subst P (sym (ap (λ (x : After). x.areas) e)) q

-- by the test of the answer
module _ (t : Tree) (y n z : Lent) (r : Made) (o : Option Refusal) (s : Says t y n z r o) where
  pub if_made : is_ok r ≡ true → o ≡ none
  if_made f = sym s.first ∙ made_none r f

  pub if_not : is_ok r ≡ false → (x : Refusal) × (refused_of r ≡ some x) × (o ≡ some x)
  if_not f = let g = none_made r f in (g.0, g.1, sym s.first ∙ g.1)
