-- The loop keeps `Putting` for the width: the elements left, written onto out as it is, give the whole; a turn reads one.
use mathlib.Core.List.{[], ◌∷◌}
use Rattle.fields.proofs.Laws.Put.{Putting}
use Rattle.fields.proofs.elements.read.Given as goal

abbrev pub invariant-loop-i : goal.invariant-loop-i
invariant-loop-i g l = Putting (g.T.Little.SIZE ∷ []) l.xs l.at l.n l.w l.initial.out l.i l.out
