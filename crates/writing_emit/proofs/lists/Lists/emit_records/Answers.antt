use native.Mathlib.Omega.{arith}
use Rattle.writing_emit.specs.Cursors.{table_of}
use Rattle.layout.specs.Layout.Encode.{encode_record}
use Rattle.layout.specs.Layout.Fine.{FineRecord}
use Rattle.layout.specs.Writing.Tables.{flatten_record}
use Rattle.writing_emit.proofs.Laws.Moves.{left-start, left-next, left-turn, left_done}
use Rattle.writing_emit.proofs.Laws.Unique.{record_unique}
use Rattle.writing_emit.proofs.lists.Lists.emit_records.Goals as goal

pub loop-init : goal.loop-init
loop-init c =
    left-start flatten_record FineRecord encode_record record_unique c.args.n c.args.c
    (table_of c.args.self.now) _ c.requires

pub emit_record-acc-requires : goal.emit_record-acc-requires
emit_record-acc-requires c =
    left-next flatten_record FineRecord encode_record record_unique c.args.n c.args.c
    (table_of c.args.self.now) _ _ _ _ c.loop.invariant (omega arith)

pub loop-preserved : goal.loop-preserved
loop-preserved c =
    left-turn flatten_record FineRecord encode_record record_unique c.args.n c.args.c
    (table_of c.args.self.now) _ _ _ _ c.loop.invariant (omega arith) _ _
    c.emit_record-acc.ensures

pub returns : goal.returns
returns c =
    left_done flatten_record FineRecord encode_record record_unique c.args.n c.args.c
    (table_of c.args.self.now) _ _ _ _ c.loop.invariant (omega arith)
