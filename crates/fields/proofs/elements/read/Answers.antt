use mathlib.Core.Path.{◌∙◌}
use Rattle.fields.proofs.Laws.Put.{put_one}
use Rattle.fields.proofs.elements.read.Goals as goal

pub loop-i-preserved : goal.loop-i-preserved
loop-i-preserved g c =
    let k = g.T.Little.SIZE in
    let there = rw c.SIZE.ensures at c.at-x.ensures in
    put_one k _ _ _ _ _ _ _ _ c.loop-i.invariant c.loop-i-test.true (g.met.T.Little.widens _ _ c.into.ensures ∙ there)
