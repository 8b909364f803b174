-- The bytes of a quoted text, one a character: its code.
use Rattle.std.specs.Prelude.{List, [] as none, ◌∷◌ as ◌then◌, ℕ}
use Prim.Native.Char.{code}
use Prim.Native.String.{String, [], ◌∷◌}

unfoldable pub quoted : String → List ℕ
quoted [] = none
quoted (c ∷ s) = code c then quoted s
