-- The loop keeps `Same`: the records left, with the counts of those behind added, answer what all n do; one record a turn.
use Prim.Native.Nat.{◌-◌}
use lib.ListN.{length}
use Rattle.reading_check.specs.Tally.{WithinT}
use Rattle.layout.specs.Reading.Records.{record_walk}
use Rattle.layout.specs.Writing.Tables.{flatten_record}
use Rattle.reading_check.proofs.Laws.Loop.{Same}
use Rattle.reading_check.proofs.records.records.Given as goal

abbrev pub invariant-loop : goal.invariant-loop
invariant-loop l = WithinT (length l.xs) 0 l.acc × Same flatten_record record_walk l.n l.p l.xs l.year (l.n - l.counter) l.acc
