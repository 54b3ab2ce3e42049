-- `frame_of` answers of the reading that a setting accepts (`frame-reads`), since the slice is bytes.
use Rattle.promises.proofs.Hop.{frame-reads}
use Rattle.promises.proofs.hops.frame_kept.Goals as goal

pub returns : goal.returns
returns c =
    λ y t e. frame-reads y c.args.s.now c.bytes.ensures t e _ c.frame_of.ensures
