use Rattle.fields.proofs.Laws.Put.{point-turn, put_turn}
use Prim.Native.Nat.{◌+◌, ◌*◌}
use mathlib.Core.List.{[], ◌∷◌}
use native.Mathlib.Omega.{arith}
use Rattle.fields.proofs.elements.read_points.Goals as goal

pub loop-i-preserved : goal.loop-i-preserved
loop-i-preserved c =
    put_turn (2 ∷ 2 ∷ 4 ∷ []) c.args.xs.now c.args.at c.args.n c.args.w _ c.loop-i.i c.loop-i.out _
    c.loop-i.invariant (omega arith)
    (point-turn c.loop-i.out c.args.xs.now (c.args.w + 3 * c.loop-i.i) (c.args.at + 8 * c.loop-i.i) _ _ _
    c.at-x.ensures c.at-y.ensures c.at-h.ensures)
