-- The points do not fit (`part-short`), or the answer of the text is counted with them (`part_then`); no point has more elements than bytes.
use mathlib.Core.Path.{◌≡◌, refl, sym, ◌∙◌}
use native.Mathlib.Omega.{arith}
use Rattle.reading_check.proofs.Laws.Loop.{rest-within}
use Rattle.reading_check.proofs.Laws.Parts.{elements-within, part-short, part_then}
use Rattle.fields.proofs.Laws.Widths.{product_fits}
use Rattle.reading_check.proofs.parts.part.Goals as goal
use borrow.Author.Rules.{rules}
use Rattle.std.specs.Prelude.{Ok, Err}

pub overflow_mul-size : goal.overflow_mul-size
overflow_mul-size c =
    record { fits = omega (arith, product_fits _ _ c.requires.1 c.point_size.ensures.1) }

pub returns-then-xs-size : goal.returns-then-xs-size
returns-then-xs-size c =
    rw c.refused.ensures (record { means = λ y. part-short y _ _ _ _ _ _ c.shape_of-s.ensures _ c.point_size.ensures.0 refl c.if-xs-size.true; within = tt })

pub overflow_add-result : goal.overflow_add-result
overflow_add-result c =
    let w = rest-within _ _ c.args.xs.now c.text_end.result c.text_end.ensures.within _ c.in_ok-t.was in
    omega (arith, w)

pub returns : goal.returns
returns c =
    let point = c.point_size.ensures.0 in
    let elements = c.elements_of-elements.ensures.0 in
    let w = rest-within _ _ c.args.xs.now c.text_end.result c.text_end.ensures.within _ c.in_ok-t.was in
    let is = c.shape_of-s.ensures in
    let b = elements-within c.shape_of-s.result c.args.count _ _ point elements in
    record {
      means = λ y. part_then y _ _ _ _ _ _ is _ point refl c.if-xs-size.false _ elements (Ok _)
          (sym c.in_ok-t.was ∙ c.text_end.ensures.means y);
      within = omega (arith, w, b);
    }

pub returns-in_err-t : goal.returns-in_err-t
returns-in_err-t c =
    let e : c.from_residual.result ≡ Err c.in_err-t.field-0.0 = search rules in
    rw e
    (record {
      means = λ y. part_then y _ _ _ _ _ _ c.shape_of-s.ensures _ c.point_size.ensures.0 refl
          c.if-xs-size.false _ c.elements_of-elements.ensures.0 (Err _)
          (sym c.in_err-t.was ∙ c.text_end.ensures.means y);
      within = tt;
    })
