-- The loop keeps that all points fit exactly if those left do, three elements a turn; X, Y or height too wide ends it (`wide_x` to `wide-height`).
use Prim.Native.Nat.{◌+◌, ◌-◌, ◌*◌}
use mathlib.Core.Path.{◌≡◌}
use lib.ListN.{drop}
use Rattle.layout.specs.Bytes.{repeat}
use Rattle.layout.specs.Writing.Parts.{fit_all}
use Rattle.writing_check.proofs.Laws.Elements.{mixed}
use Rattle.writing_check.proofs.elements.fit_points.Given as goal

abbrev pub invariant-loop-i : goal.invariant-loop-i
invariant-loop-i l = fit_all (repeat l.points mixed) (drop l.at l.elements) ≡ fit_all (repeat (l.points - l.i) mixed) (drop (l.at + 3 * l.i) l.elements)
