-- `head_of` answers of the cleared sheet (`head-cleared`), since the slice s is bytes.
use Rattle.promises.proofs.Cleared.{head-cleared}
use Rattle.promises.proofs.tails.head_cleared.Goals as goal

pub returns : goal.returns
returns c =
    λ u e is. head-cleared c.args.setting.year c.args.s.now c.bytes.ensures u e _ is _ c.head_of.ensures
