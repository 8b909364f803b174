-- `Determined` of a function that is generic over the word, at each of the two words.
use Rattle.std.specs.Prelude.{List, ℕ}
use borrow.Fn.Kind.{ParamKind, ResultKind}
use borrow.Fn.Kinds.{In, Out}
use denote.RattleType.{RattleType}
use denote.Param.Laws.{Laws, IsCopy}
use denote.Struct.Field.{u8-field, u64-field}
use mir.Syntax.{Dict}
use Rattle.std.specs.declared.clone.Clone as clone
use Rattle.std.specs.contracts.prelude.U8Clone.TheImpl as clone8
use Rattle.std.specs.contracts.prelude.U64Clone.TheImpl as clone64
use Rattle.fixnum.specs.declared.word.Word as word
use Rattle.fixnum.specs.contracts.word.U8Word.TheImpl as word8
use Rattle.fixnum.specs.contracts.word.U64Word.TheImpl as word64
use Rattle.meaning.specs.Determined.{Determined}

-- what Rattle makes of such a function: its parameters and its result at a type, and what it asks and allows at the type's members
abbrev pub Ps : ℕ → Type 3
Ps n = (T : RattleType) → Laws T → IsCopy T → List (ParamKind n)

abbrev pub R : ℕ → Type 2
R n = (T : RattleType) → Laws T → IsCopy T → ResultKind n

abbrev pub Asks : (n : ℕ) → Ps n → Type 2
Asks n ps = (T : RattleType) (L : Laws T) (C : IsCopy T) → word.Ghosts T.Denot → Dict → clone.Ghosts T.Denot → Dict → In n (ps T L C)

abbrev pub Allows : (n : ℕ) → Ps n → R n → Type 2
Allows n ps r = (T : RattleType) (L : Laws T) (C : IsCopy T) → word.Ghosts T.Denot → Dict → clone.Ghosts T.Denot → Dict → Out n (ps T L C) (r T L C)

abbrev pub DeterminedAt : (T : RattleType) → word.Ghosts T.Denot → clone.Ghosts T.Denot → {n : ℕ} (ps : Ps n) (r : R n) → Asks n ps → Allows n ps r → Type 2
DeterminedAt T W K {n} ps r asks allows =
    (L : Laws T) (C : IsCopy T) (D E : Dict) → Determined n (ps T L C) (r T L C) (asks T L C W D K E) (allows T L C W D K E) (Unit {0}) (λ κs e. tt)

abbrev pub Determined8 : {n : ℕ} (ps : Ps n) (r : R n) → Asks n ps → Allows n ps r → Type 2
Determined8 = DeterminedAt u8-field.row word8.ghosts clone8.ghosts

abbrev pub Determined64 : {n : ℕ} (ps : Ps n) (r : R n) → Asks n ps → Allows n ps r → Type 2
Determined64 = DeterminedAt u64-field.row word64.ghosts clone64.ghosts
