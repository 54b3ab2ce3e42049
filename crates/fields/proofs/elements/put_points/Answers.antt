use Prim.Native.Nat.{◌+◌, ◌*◌}
use native.Mathlib.Omega.{arith}
use Rattle.fields.proofs.Laws.Store.{store_turn, store_three}
use Rattle.fields.proofs.elements.put_points.Goals as goal

pub loop-i-preserved : goal.loop-i-preserved
loop-i-preserved c =
    store_turn _ _ _ _ _ _ _ _ _ c.loop-i.invariant (omega arith) (omega arith)
    (store_three 2 2 4 c.args.xs.now (c.args.w + 8 * c.loop-i.i) (c.args.at + 3 * c.loop-i.i) _ _ _ c.loop-i.out _ _ _
    (omega arith) c.low.ensures c.low-in-loop-i.ensures c.low-in-loop-i-2.ensures c.put.ensures c.put-in-loop-i.ensures c.put-in-loop-i-2.ensures)
