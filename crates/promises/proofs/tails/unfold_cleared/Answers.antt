-- `unfold` answers and fills as the cleared sheet's table says (`unfold_cleared`), since the slice s is bytes.
use Rattle.promises.proofs.Cleared.{unfold_cleared}
use Rattle.promises.proofs.tails.unfold_cleared.Goals as goal

pub returns : goal.returns
returns c =
    λ u e is.
    unfold_cleared c.args.setting.year c.args.s.now c.bytes.ensures u e _ is c.args.table.now
    c.args.elements.now c.args.bytes.now _ _ _ _ (c.unfold.ensures.answers, (c.unfold.ensures.numbers, (c.unfold.ensures.pool, c.unfold.ensures.texts)))
