-- Past the room for the header, metric and items are two pieces one after the other; where they end gives the lengths for the header (`record_did`).
use Rattle.writing_emit.specs.Cursors.{table_of}
use native.Mathlib.Omega.{arith}
use Rattle.layout.specs.Layout.Encode.{encode_record}
use Rattle.layout.specs.Layout.Fine.{FineRecord}
use Rattle.layout.specs.Writing.Tables.{flatten_record}
use Rattle.writing_emit.proofs.Laws.Moves.{piece_some}
use Rattle.writing_emit.proofs.Laws.Records.{row-long, record_parts, row_fits, metric-ask, items-ask, record_lengths, header_asks, record_did}
use Rattle.writing_emit.proofs.lists.Lists.emit_record.Goals as goal

pub rows-row-requires : goal.rows-row-requires
rows-row-requires c = piece_some flatten_record FineRecord encode_record c.args.c (table_of c.args.self.now) _ c.requires

pub bounds-row-3 : goal.bounds-row-3
bounds-row-3 c = omega (arith, row-long (table_of c.args.self.now) c.args.c c.args.out.now c.requires _ c.rows-row.ensures)

pub bounds-row-6 : goal.bounds-row-6
bounds-row-6 c = omega (arith, row-long (table_of c.args.self.now) c.args.c c.args.out.now c.requires _ c.rows-row.ensures)

pub bounds-row-7 : goal.bounds-row-7
bounds-row-7 c = omega (arith, row-long (table_of c.args.self.now) c.args.c c.args.out.now c.requires _ c.rows-row.ensures)

pub overflow_sub-later : goal.overflow_sub-later
overflow_sub-later c = omega (arith, record_parts (table_of c.args.self.now) c.args.c c.args.out.now c.requires _ c.rows-row.ensures)

pub emit_metric-d-requires : goal.emit_metric-d-requires
emit_metric-d-requires c =
    metric-ask (table_of c.args.self.now) c.args.c c.args.out.now c.requires _ c.rows-row.ensures _ c.shape_in-s.ensures

pub emit_items-e-requires : goal.emit_items-e-requires
emit_items-e-requires c =
    items-ask (table_of c.args.self.now) c.args.c c.args.out.now c.requires _ c.rows-row.ensures _ c.shape_in-s.ensures _ _ c.emit_metric-d.ensures

pub overflow_sub-d : goal.overflow_sub-d
overflow_sub-d c =
    let a = record_lengths (table_of c.args.self.now) c.args.c c.args.out.now c.requires _ c.rows-row.ensures _ c.shape_in-s.ensures
    _ _ c.emit_metric-d.ensures _ _ c.emit_items-e.ensures in
    omega (arith, a)

pub overflow_sub-e : goal.overflow_sub-e
overflow_sub-e c =
    let a = record_lengths (table_of c.args.self.now) c.args.c c.args.out.now c.requires _ c.rows-row.ensures _ c.shape_in-s.ensures
    _ _ c.emit_metric-d.ensures _ _ c.emit_items-e.ensures in
    omega (arith, a)

pub put_header-requires : goal.put_header-requires
put_header-requires c =
    let T = table_of c.args.self.now in
    let long = row-long T c.args.c c.args.out.now c.requires _ c.rows-row.ensures in
    let asks = header_asks T c.args.c c.args.out.now c.requires _ c.rows-row.ensures _ c.shape_in-s.ensures
    _ _ c.emit_metric-d.ensures _ _ c.emit_items-e.ensures in
    (omega (arith, long), row_fits T c.args.c c.args.out.now c.requires _ c.rows-row.ensures, asks.0, asks.1)

pub returns : goal.returns
returns c =
    record_did (table_of c.args.self.now) c.args.c c.args.out.now c.requires _ c.rows-row.ensures _ c.shape_in-s.ensures
    _ _ c.emit_metric-d.ensures _ _ c.emit_items-e.ensures _ c.put_header.ensures
