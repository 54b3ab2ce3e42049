-- `first_with` answers of the reading that a setting accepts (`hop-reads`), since the slice is bytes.
use Rattle.promises.proofs.Hop.{hop-reads}
use Rattle.promises.proofs.hops.first_kept.Goals as goal

pub returns : goal.returns
returns c =
    λ y t e. hop-reads c.args.code y c.args.s.now c.bytes.ensures t e _ c.first_with.ensures
