-- Three numbers put at w, w + 4 and w + 8 are one run of twelve bytes (`lengths_wrote`); the total fits four bytes by what is required.
use Rattle.writing_emit.proofs.Laws.Headers.{lengths_wrote}
use Rattle.writing_emit.proofs.headers.put_lengths.Goals as goal

pub returns : goal.returns
returns c =
    lengths_wrote c.args.out.now _ _ _ c.args.w c.args.metric c.args.semantics c.put.ensures
    c.put-2.ensures c.put-3.ensures
