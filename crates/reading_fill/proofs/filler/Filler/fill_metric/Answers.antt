-- The room of the metric is that of its first part and then of the later ones, and two moves and writes in a row are one (`metric-wrote`).
use Rattle.reading_fill.proofs.Laws.Moves.{room_kept}
use Rattle.reading_fill.proofs.Laws.Records.{metric-first, metric-later, metric-moved, metric-wrote}
use Rattle.reading_fill.proofs.filler.Filler.fill_metric.Goals as goal

pub fill_part-d-requires : goal.fill_part-d-requires
fill_part-d-requires c = (
  metric-first c.args.xs.now c.args.s c.args.count c.args.n c.args.c _ _ _ _ c.requires.0,
  c.requires.1,
)

pub fill_subobjects-requires : goal.fill_subobjects-requires
fill_subobjects-requires c =
    room_kept _ _ _ _ c.fill_part-d.ensures.wrote _ _ _ _
    (metric-later c.args.xs.now c.args.s c.args.count c.args.n c.args.c _ _ _ _ c.requires.0 _
    c.fill_part-d.ensures.is)

pub returns : goal.returns
returns c =
    record {
      is = metric-moved c.args.xs.now c.args.s c.args.count c.args.n c.args.c _ c.fill_part-d.ensures.is _
          c.fill_subobjects.ensures.is;
      wrote = metric-wrote c.args.xs.now c.args.s c.args.count c.args.n c.args.c _
          c.fill_part-d.ensures.is _ _ _ c.fill_part-d.ensures.wrote
          c.fill_subobjects.ensures.wrote;
    }
