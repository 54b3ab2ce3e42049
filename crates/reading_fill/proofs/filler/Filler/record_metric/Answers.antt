-- The shape, the first count and the bytes that the code hands on are those of the header it was given.
use native.Mathlib.Omega.{arith}
use Prim.Native.Nat.{◌+◌}
use Rattle.fields.proofs.Laws.Lists.{part_length}
use Rattle.fields.specs.Headers.{header_of}
use Rattle.reading_fill.proofs.Laws.Records.{metric_is}
use Rattle.reading_fill.proofs.filler.Filler.record_metric.Goals as goal

pub part-ys-requires : goal.part-ys-requires
unfolding header_of
part-ys-requires c = omega arith

pub fill_metric-requires : goal.fill_metric-requires
unfolding header_of
fill_metric-requires c = (
  rw (
    c.shape_of-s.ensures,
    c.first_count-count.ensures,
    c.part-ys.ensures,
    part_length c.args.xs.now (c.args.c.place + 32) c.args.h.metric (omega (arith, c.requires.1)),
    metric_is c.args.xs.now c.args.c.place (header_of c.args.h),
  ) c.requires.0,
  omega arith,
)

pub returns : goal.returns
unfolding header_of
returns c =
    let both = rw (
      c.shape_of-s.ensures,
      c.first_count-count.ensures,
      c.part-ys.ensures,
      metric_is c.args.xs.now c.args.c.place (header_of c.args.h),
    ) at c.fill_metric.ensures in
    record { is = both.is; wrote = both.wrote }
