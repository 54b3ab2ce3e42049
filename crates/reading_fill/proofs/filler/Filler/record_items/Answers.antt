-- The bytes that the code hands on are those after the metric, by the header it was given.
use native.Mathlib.Omega.{arith}
use Rattle.fields.specs.Headers.{header_of}
use Rattle.reading_fill.proofs.Laws.Records.{after_is}
use Rattle.reading_fill.proofs.filler.Filler.record_items.Goals as goal

pub overflow_sub-total : goal.overflow_sub-total
unfolding header_of
overflow_sub-total c = omega arith

pub overflow_sub-total-2 : goal.overflow_sub-total-2
unfolding header_of
overflow_sub-total-2 c = omega arith

pub part-ys-requires : goal.part-ys-requires
unfolding header_of
part-ys-requires c = omega arith

pub fill_items-requires : goal.fill_items-requires
unfolding header_of
fill_items-requires c =
    rw (c.part-ys.ensures, after_is c.args.xs.now c.args.c.place (header_of c.args.h)) c.requires.0

pub returns : goal.returns
unfolding header_of
returns c =
    let both = rw (c.part-ys.ensures, after_is c.args.xs.now c.args.c.place (header_of c.args.h)) at c.fill_items.ensures in
    record { is = both.is; wrote = both.wrote }
