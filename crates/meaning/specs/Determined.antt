-- "Every public operation carries a contract from which its answer and the final contents of all lent areas follow, for good and bad input
-- alike; that any two outcomes allowed by it agree is itself proved" (01, "How much a contract has to say").
use Rattle.std.specs.Prelude.{◌≡◌, List, ℕ}
use contract.Lifetimes.{Lfts}
use borrow.Fn.Kind.{ParamKind, ResultKind}
use borrow.Fn.Kinds.{In, Out, Dens, res_t, ended_of}
use denote.Triple.Clauses.{AtExit}

-- A contract of a function with parameters ps and a result r: Asks is what its caller must show of the arguments, Allows what it may
-- answer and leave. `left` gives the contents, at exit, of the areas that it is lent to write
pub record Determined (n : ℕ) (ps : List (ParamKind n)) (r : ResultKind n) (Asks : In n ps) (Allows : Out n ps r) (A : Type 0)
    (left : (κs : Lfts n) → AtExit (ended_of n ps r) κs → A) : Type 0 where
  -- "for good and bad input alike": nothing is asked of the caller
  pub asks_nothing : (κs : Lfts n) (a : Dens κs ps) → Asks κs a
  -- "any two outcomes allowed by it agree"
  pub agree : (κs : Lfts n) (a : Dens κs ps) (z z' : (res_t r κs).Denot) (e e' : AtExit (ended_of n ps r) κs) → Allows κs a z e → Allows κs a z' e'
      → (z ≡ z') × (left κs e ≡ left κs e')
