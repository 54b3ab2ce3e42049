-- Each turn of the loop sets one more of the slice.
use Rattle.codings.proofs.Laws.Loops.{Putting}
use Rattle.codings.proofs.way.turn_text.Given as goal

abbrev pub invariant-loop-i : goal.invariant-loop-i
invariant-loop-i g l = Putting (g.W.Way.turn l.way) l.text l.initial.out l.i l.out
