-- An accepted table is a piece at the start (`rows_ask`); only one list of records flattens to it, so its bytes are what was written (`rows_did`).
use Rattle.writing_emit.proofs.Laws.Whole.{rows_ask, rows_did}
use Rattle.writing_emit.proofs.tables.emit.Goals as goal

pub emit_records-requires : goal.emit_records-requires
emit_records-requires c =
    rows_ask c.args.table.now c.args.elements.now c.args.bytes.now c.args.records c.args.w
    c.args.out.now c.requires

pub returns : goal.returns
returns c =
    rows_did c.args.table.now c.args.elements.now c.args.bytes.now c.args.records c.args.w
    c.args.out.now c.requires _ _ c.emit_records.ensures
