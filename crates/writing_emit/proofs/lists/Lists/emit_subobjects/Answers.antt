use native.Mathlib.Omega.{arith}
use Rattle.writing_emit.specs.Cursors.{table_of}
use Rattle.writing_emit.specs.Parts.{PartFits, subobject_bytes}
use Rattle.layout.specs.Writing.Tables.{flatten_part}
use Rattle.writing_emit.proofs.Laws.Moves.{left-start, left-next, left-turn, left_done}
use Rattle.writing_emit.proofs.Laws.Unique.{part_unique}
use Rattle.writing_emit.proofs.lists.Lists.emit_subobjects.Goals as goal

pub loop-init : goal.loop-init
loop-init c =
    left-start flatten_part (PartFits c.args.s) (subobject_bytes c.args.s) (part_unique c.args.s) c.args.n
    c.args.c (table_of c.args.self.now) _ c.requires

pub emit_subobject-acc-requires : goal.emit_subobject-acc-requires
emit_subobject-acc-requires c =
    left-next flatten_part (PartFits c.args.s) (subobject_bytes c.args.s) (part_unique c.args.s) c.args.n
    c.args.c (table_of c.args.self.now) _ _ _ _ c.loop.invariant (omega arith)

pub loop-preserved : goal.loop-preserved
loop-preserved c =
    left-turn flatten_part (PartFits c.args.s) (subobject_bytes c.args.s) (part_unique c.args.s) c.args.n
    c.args.c (table_of c.args.self.now) _ _ _ _ c.loop.invariant (omega arith) _ _ c.emit_subobject-acc.ensures

pub returns : goal.returns
returns c =
    left_done flatten_part (PartFits c.args.s) (subobject_bytes c.args.s) (part_unique c.args.s) c.args.n
    c.args.c (table_of c.args.self.now) _ _ _ _ c.loop.invariant (omega arith)
