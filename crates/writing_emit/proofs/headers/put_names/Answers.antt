-- `RowFits` lets code, number in group and group be cut to their widths; put side by side they are the definition's (`names_wrote`).
use Rattle.writing_emit.proofs.Laws.Headers.{names_wrote}
use Rattle.writing_emit.proofs.headers.put_names.Goals as goal

pub returns : goal.returns
returns c =
    names_wrote c.args.row.now _ _ _ _ _ c.put.ensures c.put-2.ensures
    c.put-3.ensures
