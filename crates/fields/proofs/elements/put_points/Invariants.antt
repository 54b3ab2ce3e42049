-- The loop keeps `Storing` for the widths 2, 2 and 4: the three stores of a turn write the bytes of one point (`store_three`).
use mathlib.Core.List.{[], ◌∷◌}
use Rattle.fields.proofs.Laws.Store.{Storing}
use Rattle.fields.proofs.elements.put_points.Given as goal

abbrev pub invariant-loop-i : goal.invariant-loop-i
invariant-loop-i l = Storing (2 ∷ 2 ∷ 4 ∷ []) l.xs l.at l.n l.w l.initial.out l.i l.out
