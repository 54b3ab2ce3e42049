-- The loop keeps `Same` for the records and `SummedIn` for the sum that goes ahead; a turn is a batch (`batch_turn`) or its refusal (`batch_stop`).
use lib.ListN.{length}
use Rattle.reading_check.specs.Tally.{WithinT}
use Rattle.fields.specs.Sums.{SummedIn}
use Rattle.layout.specs.Reading.Records.{record_walk}
use Rattle.layout.specs.Writing.Tables.{flatten_record}
use Rattle.reading_check.proofs.Laws.Loop.{Same}
use Rattle.reading_check.proofs.records.walk.Given as goal

abbrev pub invariant-loop-left : goal.invariant-loop-left
invariant-loop-left l =
    WithinT (length l.xs) 0 l.acc × Same flatten_record record_walk l.n l.p l.xs l.year l.left l.acc × SummedIn l.xs l.summed

abbrev pub decreases-loop-left : goal.decreases-loop-left
decreases-loop-left l = l.left
