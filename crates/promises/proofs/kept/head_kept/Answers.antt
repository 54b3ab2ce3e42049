-- `head_of` at 2017 answers of the sheet whose writing s is (`head_as`), since the slice is bytes.
use Rattle.promises.proofs.Exact.{head_as}
use Rattle.promises.proofs.kept.head_kept.Goals as goal

pub returns : goal.returns
returns c =
    λ t f e. head_as c.args.s.now c.bytes.ensures t (f, e) _ c.head_of.ensures
