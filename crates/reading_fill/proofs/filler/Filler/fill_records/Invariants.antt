-- The loop keeps `Turns`, as for the later parts, and `Each`: every record that is left keeps the bounds of an accepted one; one record a turn.
use Prim.Native.Nat.{◌-◌}
use lib.ListN.{drop}
use Rattle.reading_fill.specs.Pieces.{Each}
use Rattle.reading_fill.specs.Records.{record_in, record_size, RecordFits}
use Rattle.layout.specs.Writing.Tables.{flatten_record}
use Rattle.reading_fill.proofs.Laws.Loops.{Turns}
use Rattle.reading_fill.proofs.filler.Filler.fill_records.Given as goal

abbrev pub invariant-loop : goal.invariant-loop
invariant-loop l = Turns record_in record_size flatten_record l.xs l.initial.acc l.initial.self l.n l.counter l.acc l.self
    × Each RecordFits record_size (l.n - l.counter) (drop l.acc.place l.xs)
