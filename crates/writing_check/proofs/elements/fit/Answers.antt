-- Size, float and dimensions settle a point's widths (`widths-eight` to `widths-mixed`); eight bytes hold any element, else one of two loops looks.
use mathlib.Core.Path.{refl, sym, ap, ◌∙◌}
use native.Mathlib.Omega.{arith}
use lib.ListN.{drop}
use Rattle.layout.specs.Bytes.{repeat}
use Rattle.layout.specs.Writing.Parts.{fit_all}
use Rattle.fields.specs.Shapes.{dimensions}
use Prim.Native.Nat.{◌*◌}
use Rattle.writing_check.proofs.Laws.Elements.{fit_any, widths-eight, widths_four, widths_two, widths-mixed}
use Rattle.writing_check.proofs.elements.fit.Goals as goal

pub returns-then-s : goal.returns-then-s
returns-then-s c =
    sym
    (ap (λ ws. fit_all ws (drop c.args.at c.args.elements.now))
    (widths-eight c.args.s.size c.args.s.float c.args.s.three c.if-s.true c.args.n c.args.points
    c.requires.1)
    ∙ fit_any c.args.n c.args.at c.args.elements.now c.requires.0
    (λ i. omega (arith, c.type_inv.elements i)))

pub returns-then-s-2 : goal.returns-then-s-2
returns-then-s-2 c =
    c.fit_all.ensures 4 refl ∙ sym
    (ap (λ ws. fit_all ws (drop c.args.at c.args.elements.now))
    (widths_four c.args.s.size c.args.s.float c.args.s.three c.if-s.false c.if-s-2.true c.args.n
    c.args.points c.requires.1))

pub fit_points-requires : goal.fit_points-requires
fit_points-requires c =
    let e = c.requires.1 ∙ ap (λ b. c.args.points * dimensions b) c.if-s-3.true in
    omega (arith, e)

pub returns-then-s-3 : goal.returns-then-s-3
returns-then-s-3 c =
    c.fit_points.ensures ∙ sym
    (ap (λ ws. fit_all (repeat c.args.points ws) (drop c.args.at c.args.elements.now))
    (widths-mixed c.args.s.size c.args.s.float c.args.s.three c.if-s-2.false c.if-s-3.true))

pub returns : goal.returns
returns c =
    c.fit_all-2.ensures 2 refl ∙ sym
    (ap (λ ws. fit_all ws (drop c.args.at c.args.elements.now))
    (widths_two c.args.s.size c.args.s.float c.args.s.three c.if-s-2.false c.if-s-3.false c.args.n
    c.args.points c.requires.1))
