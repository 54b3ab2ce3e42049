use mathlib.Core.Path.{ap, ◌∙◌}
use Rattle.layout.specs.Bytes.{bytes}
use Rattle.fields.proofs.Laws.Low.{bytes_low}
use Rattle.fields.proofs.Laws.Store.{store_one}
use Rattle.fields.proofs.elements.put.Goals as goal

pub loop-i-preserved : goal.loop-i-preserved
loop-i-preserved g c =
    let k = g.T.Little.SIZE in
    let low = ap (bytes k) c.low.ensures ∙ bytes_low k _ in
    let wrote = rw c.SIZE.ensures at c.put.ensures in
    store_one k _ _ _ _ _ _ _ _ _ c.loop-i.invariant c.loop-i-test.true c.requires.0 low wrote
