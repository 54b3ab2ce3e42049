-- Four ways out: a bad stated length (`value-bad`), too few bytes (`value-short`), no closing zeros (`value_open`), or counted (`value-fine`).
use native.Mathlib.Omega.{arith}
use mathlib.Core.Path.{ap, sym, ◌∙◌}
use Rattle.layout.specs.Bytes.{zeros}
use Rattle.reading_check.proofs.Laws.Items.{value-bad, value-closes, value-short, value_open, value-fine}
use Rattle.reading_check.proofs.items.value.Goals as goal

pub returns-then-not-good : goal.returns-then-not-good
returns-then-not-good c =
    rw c.refused.ensures
    record { means = λ y. value-bad y _ _ _ c.requires.1 _ c.value_size-size.ensures.0 c.if-not-good.true; within = tt }

pub returns-then-xs-used : goal.returns-then-xs-used
returns-then-xs-used c =
    rw c.refused-then-xs-used.ensures
    record { means = λ y. value-short y _ _ _ c.requires.1 _ c.value_size-size.ensures.0 c.if-not-good.false c.if-xs-used.true; within = tt }

pub overflow_sub-end : goal.overflow_sub-end
overflow_sub-end c =
    let k = value-closes 0 0 _ _ c.requires.1 _ c.value_size-size.ensures.0 c.if-not-good.false in
    omega (arith, k)

pub part-requires : goal.part-requires
part-requires c =
    let k = value-closes 0 0 _ _ c.requires.1 _ c.value_size-size.ensures.0 c.if-not-good.false in
    omega (arith, k)

pub returns-then-not-all_zero : goal.returns-then-not-all_zero
returns-then-not-all_zero c =
    rw c.refused-then-not-all_zero.ensures
    record {
      means = λ y. value_open y _ _ _ c.requires.1 _ c.value_size-size.ensures.0 c.if-not-good.false c.if-xs-used.false
          (sym (ap zeros c.part.ensures) ∙ sym c.all_zero.ensures ∙ c.if-not-all_zero.true);
      within = tt;
    }

pub returns : goal.returns
returns c =
    record {
      means = λ y. value-fine y _ _ _ c.requires.1 _ c.value_size-size.ensures.0 c.if-not-good.false c.if-xs-used.false
          (sym (ap zeros c.part.ensures) ∙ sym c.all_zero.ensures ∙ c.if-not-all_zero.false);
      within = omega arith;
    }
