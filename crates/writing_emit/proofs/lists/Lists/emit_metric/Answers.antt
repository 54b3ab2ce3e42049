-- A metric is a pair of pieces: the first part and then the list of later ones, which starts where the first part ends (`pair-second`).
use Rattle.writing_emit.specs.Cursors.{table_of}
use Rattle.writing_emit.specs.Parts.{PartFits, part_bytes, subobject_bytes}
use Rattle.writing_emit.specs.Pieces.{Counted}
use Rattle.layout.specs.Bytes.{flat}
use Rattle.layout.specs.Writing.Tables.{joined, flatten_part}
use Rattle.writing_emit.proofs.Laws.Moves.{pair-first, pair-second, pair_done}
use Rattle.writing_emit.proofs.Laws.Unique.{part_unique, list_unique}
use Rattle.writing_emit.proofs.lists.Lists.emit_metric.Goals as goal

pub emit_part-d-requires : goal.emit_part-d-requires
emit_part-d-requires c =
    pair-first flatten_part (PartFits c.args.s) (part_bytes c.args.s) (joined flatten_part)
    (Counted c.args.n (PartFits c.args.s)) (flat (subobject_bytes c.args.s)) (part_unique c.args.s)
    (list_unique flatten_part (PartFits c.args.s) (part_unique c.args.s) c.args.n) c.args.c
    (table_of c.args.self.now) c.args.out.now c.requires

pub emit_subobjects-requires : goal.emit_subobjects-requires
emit_subobjects-requires c =
    pair-second flatten_part (PartFits c.args.s) (part_bytes c.args.s) (joined flatten_part)
    (Counted c.args.n (PartFits c.args.s)) (flat (subobject_bytes c.args.s)) (part_unique c.args.s)
    (list_unique flatten_part (PartFits c.args.s) (part_unique c.args.s) c.args.n) c.args.c
    (table_of c.args.self.now) c.args.out.now c.requires _ _
    c.emit_part-d.ensures

pub returns : goal.returns
returns c =
    pair_done flatten_part (PartFits c.args.s) (part_bytes c.args.s) (joined flatten_part)
    (Counted c.args.n (PartFits c.args.s)) (flat (subobject_bytes c.args.s)) (part_unique c.args.s)
    (list_unique flatten_part (PartFits c.args.s) (part_unique c.args.s) c.args.n) c.args.c
    (table_of c.args.self.now) c.args.out.now c.requires _ _
    c.emit_part-d.ensures _ _ c.emit_subobjects.ensures
