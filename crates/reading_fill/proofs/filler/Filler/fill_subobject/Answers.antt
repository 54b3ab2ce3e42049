-- Behind N1 and N2 a later part is a part of the count that they give, so its room, its cursor and what it writes are that part's.
use native.Mathlib.Omega.{arith}
use Rattle.reading_fill.proofs.Laws.Parts.{subobject_some, subobject_ask, subobject_moved, subobject_wrote}
use Rattle.reading_fill.proofs.filler.Filler.fill_subobject.Goals as goal

pub at-n1-requires : goal.at-n1-requires
at-n1-requires c =
    let a = subobject_some c.args.xs.now c.args.s c.args.c _ _ _ _ c.requires in
    omega (arith, a)

pub overflow_add-at : goal.overflow_add-at
overflow_add-at c =
    let a = subobject_some c.args.xs.now c.args.s c.args.c _ _ _ _ c.requires in
    omega (arith, a)

pub at-n2-requires : goal.at-n2-requires
at-n2-requires c =
    let a = subobject_some c.args.xs.now c.args.s c.args.c _ _ _ _ c.requires in
    omega (arith, a)

pub overflow_add-d : goal.overflow_add-d
overflow_add-d c =
    let a = subobject_some c.args.xs.now c.args.s c.args.c _ _ _ _ c.requires in
    omega (arith, a)

pub fill_part-requires : goal.fill_part-requires
fill_part-requires c = (
  subobject_ask c.args.xs.now c.args.s c.args.c _ _ c.at-n1.ensures c.at-n2.ensures _ _
      _ _ c.requires,
  omega arith,
)

pub returns : goal.returns
returns c =
    record {
      is = subobject_moved c.args.xs.now c.args.s c.args.c _ _ c.at-n1.ensures c.at-n2.ensures _
          c.fill_part.ensures.is;
      wrote = subobject_wrote c.args.xs.now c.args.s c.args.c _ _ c.at-n1.ensures c.at-n2.ensures _ _
          c.fill_part.ensures.wrote;
    }
