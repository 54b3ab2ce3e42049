-- Four runs of 12, 8, 8 and 4 bytes, each put where the one before ends, are the 32 bytes of the header (`header-wrote`).
use Rattle.writing_emit.proofs.Laws.Headers.{header-wrote}
use Rattle.writing_emit.proofs.headers.put_header.Goals as goal

pub returns : goal.returns
returns c =
    header-wrote c.args.row.now c.args.out.now _ _ _ _ c.args.w c.args.metric
    c.args.semantics c.put_lengths.ensures c.put_names.ensures
    c.put_reference_and_word.ensures
    c.put_counts.ensures
