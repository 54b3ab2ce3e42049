-- `unfold` at 2017 answers and fills as the sheet says whose writing s is (`unfold_as`), since the slice is bytes.
use Rattle.promises.proofs.Exact.{unfold_as}
use Rattle.promises.proofs.kept.unfold_kept.Goals as goal

pub returns : goal.returns
returns c =
    λ t f e.
    unfold_as c.args.s.now c.bytes.ensures t (f, e) c.args.table.now c.args.elements.now
    c.args.bytes.now _ _ _ _ (c.unfold.ensures.answers, (c.unfold.ensures.numbers, (c.unfold.ensures.pool, c.unfold.ensures.texts)))
