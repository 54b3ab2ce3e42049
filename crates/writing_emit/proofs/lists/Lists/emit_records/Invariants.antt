-- The loop keeps `Left`: the records still to be written onto the slice as it is give the whole; one record a turn.
use Rattle.writing_emit.specs.Cursors.{table_of}
use Rattle.layout.specs.Layout.Encode.{encode_record}
use Rattle.layout.specs.Layout.Fine.{FineRecord}
use Rattle.layout.specs.Writing.Tables.{flatten_record}
use Rattle.writing_emit.proofs.Laws.Moves.{Left}
use Rattle.writing_emit.proofs.Laws.Unique.{record_unique}
use Rattle.writing_emit.proofs.lists.Lists.emit_records.Given as goal

abbrev pub invariant-loop : goal.invariant-loop
invariant-loop l = Left flatten_record FineRecord encode_record record_unique l.n l.initial.acc (table_of l.self)
    l.initial.out l.counter l.acc l.out
