-- The loop keeps `Storing` for the width: the elements left, written onto out as it is, give the whole; a turn stores the low bytes of one.
use mathlib.Core.List.{[], ◌∷◌}
use Rattle.fields.proofs.Laws.Store.{Storing}
use Rattle.fields.proofs.elements.put.Given as goal

abbrev pub invariant-loop-i : goal.invariant-loop-i
invariant-loop-i g l = Storing (g.T.Little.SIZE ∷ []) l.xs l.at l.n l.w l.initial.out l.i l.out
