-- Two bytes, and the third (`old-place-read`).
use Rattle.index.proofs.Laws.Places.{old-place-read}
use Rattle.index.proofs.entries.old_place.Goals as goal

pub returns : goal.returns
returns c =
    old-place-read c.args.index.now c.args.p _ _ c.at-low.ensures c.at-high.ensures
