-- `RowFits` lets the parts less one, and the points or the mark, go into two bytes each; they, put side by side, are the definition's (`counts_wrote`).
use Rattle.writing_emit.proofs.Laws.Headers.{counts_wrote}
use Rattle.writing_emit.proofs.headers.put_counts.Goals as goal

pub returns : goal.returns
returns c =
    counts_wrote c.args.row.now _ _ _ _ _ c.points_of.ensures c.put.ensures
    c.put-2.ensures
