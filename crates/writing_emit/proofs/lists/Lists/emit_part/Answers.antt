-- The part at the cursor fits its shape, so no sum wraps and there is room (`size_asks`); elements and then text are its bytes (`part_did`).
use Rattle.writing_emit.specs.Cursors.{table_of}
use Rattle.writing_emit.proofs.Laws.Parts.{size_asks, part-some, part_asks, part_did}
use Rattle.writing_emit.specs.Parts.{part_bytes}
use native.Mathlib.Omega.{arith}
use Rattle.writing_emit.proofs.lists.Lists.emit_part.Goals as goal

pub bounds-row-0 : goal.bounds-row-0
bounds-row-0 c =
    let a = part-some part_bytes (table_of c.args.self.now) c.args.s
    c.args.c _ c.requires _ c.rows-row.ensures in
    omega (arith, a)

pub bounds-row-1 : goal.bounds-row-1
bounds-row-1 c =
    let a = part-some part_bytes (table_of c.args.self.now) c.args.s
    c.args.c _ c.requires _ c.rows-row.ensures in
    omega (arith, a)

pub overflow_mul-size : goal.overflow_mul-size
overflow_mul-size c =
    let a = size_asks (table_of c.args.self.now) c.args.s c.args.c _
    c.requires _ c.rows-row.ensures _ c.point_size.ensures.0 in
    omega (arith, a)

pub elements_of-k-requires : goal.elements_of-k-requires
elements_of-k-requires c =
    (part-some part_bytes (table_of c.args.self.now) c.args.s c.args.c _
    c.requires _ c.rows-row.ensures).1

pub put_elements-requires : goal.put_elements-requires
put_elements-requires c =
    let a = part_asks (table_of c.args.self.now) c.args.s c.args.c _
    c.requires _ c.rows-row.ensures in (
      a.0,
      omega (arith, a.3),
      (part-some part_bytes (table_of c.args.self.now) c.args.s c.args.c _
          c.requires _ c.rows-row.ensures).1,
    )

pub overflow_add-w : goal.overflow_add-w
overflow_add-w c =
    let a = size_asks (table_of c.args.self.now) c.args.s c.args.c _
    c.requires _ c.rows-row.ensures _ c.point_size.ensures.0 in
    omega (arith, a, c.well_formed)

pub emit_text-t-requires : goal.emit_text-t-requires
emit_text-t-requires c =
    let a = part_asks (table_of c.args.self.now) c.args.s c.args.c _
    c.requires _ c.rows-row.ensures in
    let b = size_asks (table_of c.args.self.now) c.args.s c.args.c _
    c.requires _ c.rows-row.ensures _ c.point_size.ensures.0 in
    (a.1, a.2, omega (arith, b, c.put_elements.auto))

pub overflow_add-result-5 : goal.overflow_add-result-5
overflow_add-result-5 c =
    let a = part_asks (table_of c.args.self.now) c.args.s c.args.c _
    c.requires _ c.rows-row.ensures in
    omega (arith, a.1, c.well_formed)

pub overflow_add-result : goal.overflow_add-result
overflow_add-result c =
    let a = size_asks (table_of c.args.self.now) c.args.s c.args.c _
    c.requires _ c.rows-row.ensures _ c.point_size.ensures.0 in
    omega (arith, a, c.well_formed)

pub overflow_add-result-2 : goal.overflow_add-result-2
overflow_add-result-2 c =
    let a = size_asks (table_of c.args.self.now) c.args.s c.args.c _
    c.requires _ c.rows-row.ensures _ c.point_size.ensures.0 in
    omega (arith, a, c.emit_text-t.ensures.is, c.well_formed)

pub returns : goal.returns
returns c =
    part_did (table_of c.args.self.now) c.args.s c.args.c _
    c.requires _ c.rows-row.ensures _ _ _ c.point_size.ensures.0 c.elements_of-k.ensures.0
    c.emit_text-t.ensures.is.0 _ _ _ c.put_elements.ensures c.emit_text-t.ensures.wrote
