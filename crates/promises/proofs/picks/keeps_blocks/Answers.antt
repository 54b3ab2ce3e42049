-- True exactly where the index is accepted, which is where it is blocks (`blocks_kept`), since the slice is bytes.
use Rattle.promises.proofs.Index.{blocks_kept}
use Rattle.promises.proofs.picks.keeps_blocks.Goals as goal

pub returns : goal.returns
returns c = rw c.is_ok.ensures.value (blocks_kept c.args.index.now c.bytes.ensures _ c.check.ensures)
