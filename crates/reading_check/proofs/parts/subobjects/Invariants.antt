-- The loop keeps `Same`: the subobjects left, with the counts of those behind added, answer what all n do; one subobject a turn.
use Prim.Native.Nat.{ℕ, ◌-◌}
use lib.ListN.{length}
use Rattle.reading_check.specs.Tally.{WithinT}
use Rattle.fields.specs.References.{reference_by}
use Rattle.layout.specs.Reading.Parts.{subobject_walk}
use Rattle.layout.specs.Writing.Tables.{flatten_part}
use Rattle.reading_check.proofs.Laws.Loop.{Same}
use Rattle.reading_check.proofs.parts.subobjects.Given as goal

abbrev pub invariant-loop : goal.invariant-loop
invariant-loop l = WithinT (length l.xs) 0 l.acc ×
    ((y : ℕ) → Same flatten_part (subobject_walk (reference_by l.reference) l.marked) l.n l.p l.xs y (l.n - l.counter) l.acc)
