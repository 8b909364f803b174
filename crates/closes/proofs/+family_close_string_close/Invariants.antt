-- `family_close` and `string_close`, which call each other, meet their contracts. A string close at a level measures one more than the family close there. Assumes nothing.
use Prim.Native.Nat.{◌*◌, ◌-◌, ◌+◌}
use Rattle.closes.proofs.+family_close_string_close.Given as goal

abbrev pub decreases-family_close : goal.decreases-family_close
decreases-family_close l = 2 * (5 - l.at.level)

abbrev pub decreases-string_close : goal.decreases-string_close
decreases-string_close l = 2 * (5 - l.at.level) + 1
