-- True exactly where the sheet keeps the layout: `check` at 2017 is exact (`kept`), since the slice is bytes.
use Rattle.promises.proofs.Exact.{kept}
use Rattle.promises.proofs.kept.keeps_layout.Goals as goal

pub returns : goal.returns
returns c = rw c.is_ok.ensures.value (kept c.args.s.now c.bytes.ensures _ c.check.ensures)
