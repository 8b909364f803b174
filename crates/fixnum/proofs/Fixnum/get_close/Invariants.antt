-- `Fixnum::get_close` meets its contract: the loop keeps which loose close from here on is the one sought.
use Rattle.fixnum.proofs.Closing.{Scanned}
use Rattle.fixnum.proofs.Fixnum.get_close.Given as goal

abbrev pub invariant-loop-j : goal.invariant-loop-j
invariant-loop-j g l = Scanned g.W.Word.BITWIDTH l.x l.index l.level l.j
