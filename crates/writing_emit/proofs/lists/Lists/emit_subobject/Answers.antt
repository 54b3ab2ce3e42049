-- N1 and N2, the count in two halves, take four bytes; past them the same piece is a plain part (`subobject_ask`), whose bytes follow.
use Rattle.writing_emit.specs.Cursors.{table_of}
use Rattle.writing_emit.specs.Parts.{subobject_bytes}
use Rattle.writing_emit.proofs.Laws.Parts.{part-some, subobject_ask, subobject_did}
use native.Mathlib.Omega.{arith}
use Rattle.writing_emit.proofs.lists.Lists.emit_subobject.Goals as goal

pub bounds-rows-0 : goal.bounds-rows-0
bounds-rows-0 c =
    let a = part-some subobject_bytes (table_of c.args.self.now) c.args.s
    c.args.c _ c.requires _ c.rows.ensures in
    omega (arith, a)

pub overflow_cast-n1 : goal.overflow_cast-n1
overflow_cast-n1 c =
    let a = part-some subobject_bytes (table_of c.args.self.now) c.args.s
    c.args.c _ c.requires _ c.rows.ensures in
    omega (arith, a)

pub emit_part-requires : goal.emit_part-requires
emit_part-requires c =
    subobject_ask (table_of c.args.self.now) c.args.s c.args.c
    c.args.out.now c.requires _ c.rows.ensures _ _ c.put.ensures c.put-2.ensures

pub returns : goal.returns
returns c =
    subobject_did (table_of c.args.self.now) c.args.s c.args.c
    c.args.out.now c.requires _ c.rows.ensures _ _ c.put.ensures c.put-2.ensures _ _
    c.emit_part.ensures
