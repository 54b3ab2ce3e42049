-- The loop keeps `Putting` for the widths 2, 2 and 4: the three stores of a turn are the numbers of one point (`point-turn`).
use Rattle.fields.proofs.Laws.Put.{Putting}
use mathlib.Core.List.{[], ◌∷◌}
use Rattle.fields.proofs.elements.read_points.Given as goal

abbrev pub invariant-loop-i : goal.invariant-loop-i
invariant-loop-i l = Putting (2 ∷ 2 ∷ 4 ∷ []) l.xs l.at l.n l.w l.initial.out l.i l.out
