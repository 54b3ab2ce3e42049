-- `RowFits` lets generalisation and word be cut to their widths; they follow the reference's three bytes as in the definition (`reference-wrote`).
use Rattle.writing_emit.proofs.Laws.Headers.{reference-wrote}
use Rattle.writing_emit.proofs.headers.put_reference_and_word.Goals as goal

pub returns : goal.returns
returns c =
    reference-wrote c.args.row.now _ _ _ _ _ _ _ _ c.of-b.ensures
    c.put.ensures c.put-2.ensures c.put-3.ensures c.put-4.ensures
    c.put-5.ensures
