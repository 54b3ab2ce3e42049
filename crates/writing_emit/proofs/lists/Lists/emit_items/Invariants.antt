-- The loop keeps `Left`: the items still to be written onto the slice as it is give the whole; one item a turn.
use Rattle.writing_emit.specs.Cursors.{table_of}
use Rattle.layout.specs.Layout.Encode.{encode_item}
use Rattle.layout.specs.Layout.Fine.{FineItem}
use Rattle.layout.specs.Writing.Tables.{flatten_item}
use Rattle.writing_emit.proofs.Laws.Moves.{Left}
use Rattle.writing_emit.proofs.Laws.Unique.{item_unique}
use Rattle.writing_emit.proofs.lists.Lists.emit_items.Given as goal

abbrev pub invariant-loop : goal.invariant-loop
invariant-loop l = Left flatten_item FineItem encode_item item_unique l.n l.initial.acc (table_of l.self) l.initial.out l.counter l.acc l.out
