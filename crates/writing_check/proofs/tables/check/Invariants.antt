-- The loop keeps `Going`: the totals so far and the rows left answer what the whole table does; at the end a pool not used up is refused.
use Prim.Native.Nat.{◌-◌, ◌≤◌}
use lib.ListN.{length}
use Rattle.writing_check.specs.Places.{lists, At}
use Rattle.writing_check.proofs.Laws.Tables.{Going}
use Rattle.writing_check.proofs.tables.check.Given as goal

abbrev pub invariant-loop-p : goal.invariant-loop-p
invariant-loop-p l = At (lists l.t) l.p × (l.records ≤ l.p.number) × Going l.year (lists l.t) l.records l.p

abbrev pub decreases-loop-p : goal.decreases-loop-p
decreases-loop-p l = length l.t.numbers.now - l.p.number
