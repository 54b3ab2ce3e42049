use mathlib.Core.Path.{◌≡◌, refl, sym, ap, ◌∙◌}
use Prim.Native.Nat.{◌+◌, ◌-◌, ◌*◌}
use lib.ListN.{drop}
use native.Mathlib.Nat.{add-zero}
use native.Mathlib.Omega.{arith}
use Rattle.layout.specs.Bytes.{repeat}
use Rattle.layout.specs.Writing.Parts.{fit_all}
use Rattle.writing_check.proofs.Laws.Elements.{mixed, wide_x, wide_y, wide-height, point-next, points_done}
use Rattle.writing_check.proofs.elements.fit_points.Goals as goal

pub loop-i-init : goal.loop-i-init
loop-i-init c = let e : c.args.points - 0 ≡ c.args.points = omega arith in rw (e, add-zero c.args.at) refl

pub returns-then-elements-x-ge-TWO_BYTES : goal.returns-then-elements-x-ge-TWO_BYTES
returns-then-elements-x-ge-TWO_BYTES c =
    sym (c.loop-i.invariant ∙ wide_x c.args.elements.now (c.args.at + 3 * c.loop-i.i) (omega (arith, c.requires)) (c.args.points - c.loop-i.i)
    (omega arith) (omega arith))

pub returns-then-elements-x-ge-TWO_BYTES-2 : goal.returns-then-elements-x-ge-TWO_BYTES-2
returns-then-elements-x-ge-TWO_BYTES-2 c =
    sym (c.loop-i.invariant ∙ wide_y c.args.elements.now (c.args.at + 3 * c.loop-i.i) (omega (arith, c.requires)) (c.args.points - c.loop-i.i)
    (omega arith) (omega arith) (omega arith))

pub returns-then-elements-x-ge-FOUR_BYTES : goal.returns-then-elements-x-ge-FOUR_BYTES
returns-then-elements-x-ge-FOUR_BYTES c =
    sym (c.loop-i.invariant ∙ wide-height c.args.elements.now (c.args.at + 3 * c.loop-i.i) (omega (arith, c.requires)) (c.args.points - c.loop-i.i)
    (omega arith) (omega arith) (omega arith) (omega arith))

pub loop-i-preserved : goal.loop-i-preserved
loop-i-preserved c =
    let x = c.args.at + 3 * c.loop-i.i in
    let n : c.args.points - c.loop-i.i - 1 ≡ c.args.points - (c.loop-i.i + 1) = omega arith in
    let j : x + 3 ≡ c.args.at + 3 * (c.loop-i.i + 1) = omega arith in
    c.loop-i.invariant
    ∙ point-next c.args.elements.now x (omega (arith, c.requires)) (c.args.points - c.loop-i.i) (omega arith) (omega arith) (omega arith) (omega arith)
    ∙ ap (λ k. fit_all (repeat k mixed) (drop (x + 3) c.args.elements.now)) n
    ∙ ap (λ k. fit_all (repeat (c.args.points - (c.loop-i.i + 1)) mixed) (drop k c.args.elements.now)) j

pub returns : goal.returns
returns c = sym (c.loop-i.invariant ∙ points_done (c.args.points - c.loop-i.i) _ (omega arith))
