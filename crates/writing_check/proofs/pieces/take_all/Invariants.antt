-- The loop keeps that what the pieces left are answered with, all are (`Midway`).
use Prim.Native.Nat.{◌-◌}
use Rattle.writing_check.proofs.Laws.Pieces.{Midway}
use Rattle.writing_check.proofs.pieces.take_all.Given as goal

abbrev pub invariant-loop : goal.invariant-loop
invariant-loop g l = Midway (goal.F-pre g l.take) (goal.F-post g l.take) l.n l.initial.at (l.n - l.counter) l.at
