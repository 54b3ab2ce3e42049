use mathlib.Core.Path.{refl}
use Rattle.fields.proofs.Laws.Put.{copy_turn}
use Rattle.fields.proofs.copies.put_bytes.Goals as goal

pub loop-i-preserved : goal.loop-i-preserved
loop-i-preserved c = copy_turn _ _ _ _ _ _ _ c.loop-i.invariant c.loop-i-test.true c.requires.0 _ refl
