-- The part's room is what its three writes ask (`part_asks`); they write its table (`part-wrote`), and the cursor past it fits (`part_moved`).
use native.Mathlib.Omega.{arith}
use Rattle.reading_fill.proofs.Laws.Parts.{part_asks, part_moved, part-wrote}
use mathlib.Core.Path.{refl, ap}
use Rattle.fields.specs.declared.cursors.Cursor.{Cursor}
use Rattle.reading_fill.proofs.filler.Filler.fill_part.Goals as goal

pub overflow_mul-size : goal.overflow_mul-size
overflow_mul-size c =
    let a = part_asks c.args.xs.now c.args.s c.args.count c.args.c _ _ _ _ _ c.point_size.ensures.0
    c.requires.0 in
    omega (arith, a.3)

pub read_elements-requires : goal.read_elements-requires
read_elements-requires c =
    let a = part_asks c.args.xs.now c.args.s c.args.count c.args.c _ _ _ _ _ c.point_size.ensures.0
    c.requires.0 in
    (a.0, a.1, c.requires.1)

pub overflow_add-at : goal.overflow_add-at
overflow_add-at c =
    let a = part_asks c.args.xs.now c.args.s c.args.count c.args.c _ _ _ _ _ c.point_size.ensures.0
    c.requires.0 in
    omega (arith, a.3)

pub fill_text-l-requires : goal.fill_text-l-requires
fill_text-l-requires c =
    let a = part_asks c.args.xs.now c.args.s c.args.count c.args.c _ _ _ _ _ c.point_size.ensures.0
    c.requires.0 in
    (a.3, a.4)

pub put_part-requires : goal.put_part-requires
put_part-requires c =
    let a = part_asks c.args.xs.now c.args.s c.args.count c.args.c _ _ _ _ _ c.point_size.ensures.0
    c.requires.0 in
    a.2

pub overflow_add-result : goal.overflow_add-result
overflow_add-result c =
    let a = part_asks c.args.xs.now c.args.s c.args.count c.args.c _ _ _ _ _ c.point_size.ensures.0
    c.requires.0 in
    omega (arith, a.3)

pub overflow_add-result-2 : goal.overflow_add-result-2
overflow_add-result-2 c =
    let m = part_moved c.args.xs.now c.args.s c.args.count c.args.c _ _ _ _ c.point_size.ensures.0
    c.elements_of-n.ensures.0 c.fill_text-l.ensures.is.0 c.text_size-t.ensures.0
    c.requires.0.place in
    omega (arith, c.ranges, ap (λ (z : Cursor). z.place) m, c.requires.0.place)

pub overflow_add-result-3 : goal.overflow_add-result-3
overflow_add-result-3 c =
    let m = part_moved c.args.xs.now c.args.s c.args.count c.args.c _ _ _ _ c.point_size.ensures.0
    c.elements_of-n.ensures.0 c.fill_text-l.ensures.is.0 c.text_size-t.ensures.0
    c.requires.0.place in
    omega (arith, c.ranges, ap (λ (z : Cursor). z.numbers) m, c.requires.0.numbers)

pub overflow_add-result-4 : goal.overflow_add-result-4
overflow_add-result-4 c =
    let m = part_moved c.args.xs.now c.args.s c.args.count c.args.c _ _ _ _ c.point_size.ensures.0
    c.elements_of-n.ensures.0 c.fill_text-l.ensures.is.0 c.text_size-t.ensures.0
    c.requires.0.place in
    omega (arith, c.ranges, ap (λ (z : Cursor). z.elements) m, c.requires.0.elements)

pub overflow_add-result-5 : goal.overflow_add-result-5
overflow_add-result-5 c =
    let m = part_moved c.args.xs.now c.args.s c.args.count c.args.c _ _ _ _ c.point_size.ensures.0
    c.elements_of-n.ensures.0 c.fill_text-l.ensures.is.0 c.text_size-t.ensures.0
    c.requires.0.place in
    omega (arith, c.ranges, ap (λ (z : Cursor). z.bytes) m, c.requires.0.bytes)

pub returns : goal.returns
returns c =
    record {
      is = part_moved c.args.xs.now c.args.s c.args.count c.args.c _ _ _ _ c.point_size.ensures.0
          c.elements_of-n.ensures.0 c.fill_text-l.ensures.is.0 c.text_size-t.ensures.0 c.requires.0.place;
      wrote = part-wrote c.args.xs.now c.args.s c.args.count c.args.c _ _ _ _ c.point_size.ensures.0
          c.elements_of-n.ensures.0 c.fill_text-l.ensures.is.0 c.text_size-t.ensures.0 c.args.self.now _
          c.put_part.ensures c.read_elements.ensures
          c.fill_text-l.ensures.wrote (record { numbers = refl; elements = refl; bytes = refl });
    }
