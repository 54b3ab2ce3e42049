-- The piece at the cursor says that every number fits and has room (`item_asks`), and what was written is its encoding (`item_did`).
use Rattle.writing_emit.specs.Cursors.{table_of}
use Rattle.writing_emit.proofs.Laws.Items.{item_asks, item_did}
use native.Mathlib.Omega.{arith}
use mathlib.Core.Path.{ap}
use Rattle.layout.specs.Shared.Types.{length_bytes}
use Rattle.writing_emit.proofs.lists.Lists.emit_item.Goals as goal

pub bounds-row-1 : goal.bounds-row-1
bounds-row-1 c =
    let a = item_asks (table_of c.args.self.now) c.args.c _ c.requires _ c.rows-row.ensures in omega (arith, a.0)

pub bounds-row-3 : goal.bounds-row-3
bounds-row-3 c =
    let a = item_asks (table_of c.args.self.now) c.args.c _ c.requires _ c.rows-row.ensures in omega (arith, a.0)

pub bounds-row-0 : goal.bounds-row-0
bounds-row-0 c =
    let a = item_asks (table_of c.args.self.now) c.args.c _ c.requires _ c.rows-row.ensures in omega (arith, a.0)

pub overflow_cast-row : goal.overflow_cast-row
overflow_cast-row c =
    let a = item_asks (table_of c.args.self.now) c.args.c _ c.requires _ c.rows-row.ensures in omega (arith, a.1)

pub overflow_cast-t : goal.overflow_cast-t
overflow_cast-t c =
    let a = item_asks (table_of c.args.self.now) c.args.c _ c.requires _ c.rows-row.ensures in omega (arith, a.2)

pub bounds-row-2 : goal.bounds-row-2
bounds-row-2 c =
    let a = item_asks (table_of c.args.self.now) c.args.c _ c.requires _ c.rows-row.ensures in omega (arith, a.0)

pub overflow_cast-row-2 : goal.overflow_cast-row-2
overflow_cast-row-2 c =
    let a = item_asks (table_of c.args.self.now) c.args.c _ c.requires _ c.rows-row.ensures in omega (arith, a.3)

pub put_head-requires : goal.put_head-requires
put_head-requires c =
    let a = item_asks (table_of c.args.self.now) c.args.c _ c.requires _ c.rows-row.ensures in omega (arith, a.6)

pub put_length-p-requires : goal.put_length-p-requires
put_length-p-requires c =
    let a = item_asks (table_of c.args.self.now) c.args.c _ c.requires _ c.rows-row.ensures in omega
    (arith, a.6, a.4, c.put_head.auto, ap length_bytes c.from.ensures)

pub put_bytes-requires : goal.put_bytes-requires
put_bytes-requires c =
    let a = item_asks (table_of c.args.self.now) c.args.c _ c.requires _ c.rows-row.ensures in omega (
      arith,
      a.6,
      a.5,
      c.put_head.auto,
      c.put_length-p.auto,
      c.put_length-p.ensures.is,
      ap length_bytes
          c.from.ensures,
    )

pub overflow_add-result-5 : goal.overflow_add-result-5
overflow_add-result-5 c =
    let a = item_asks (table_of c.args.self.now) c.args.c _ c.requires _ c.rows-row.ensures in omega (arith, a.5, c.well_formed)

pub overflow_add-result-3 : goal.overflow_add-result-3
overflow_add-result-3 c =
    let a = item_asks (table_of c.args.self.now) c.args.c _ c.requires _ c.rows-row.ensures in omega
    (arith, a.6, c.put_length-p.ensures.is, ap length_bytes c.from.ensures, c.well_formed)

pub returns : goal.returns
returns c =
    item_did (table_of c.args.self.now) c.args.c _ c.requires _ c.rows-row.ensures _ c.from.ensures _
    c.put_length-p.ensures.is.0 _ _ _ _ c.put_head.ensures c.put_length-p.ensures.wrote
    c.put_bytes.ensures
