-- The loop keeps `Left`: the later parts still to be written onto the slice as it is give the whole; one part a turn.
use Rattle.writing_emit.specs.Cursors.{table_of}
use Rattle.writing_emit.specs.Parts.{PartFits, subobject_bytes}
use Rattle.layout.specs.Writing.Tables.{flatten_part}
use Rattle.writing_emit.proofs.Laws.Moves.{Left}
use Rattle.writing_emit.proofs.Laws.Unique.{part_unique}
use Rattle.writing_emit.proofs.lists.Lists.emit_subobjects.Given as goal

abbrev pub invariant-loop : goal.invariant-loop
invariant-loop l = Left flatten_part (PartFits l.s) (subobject_bytes l.s) (part_unique l.s) l.n l.initial.acc
    (table_of l.self) l.initial.out l.counter l.acc l.out
