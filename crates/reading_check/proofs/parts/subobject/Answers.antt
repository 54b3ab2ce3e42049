-- No room for N1 and N2 (`subobject_short`), N1 without the mark (`subobject_count`), or what the part behind them answers (`subobject_then`).
use native.Mathlib.Omega.{arith}
use mathlib.Core.Path.{◌≡◌, sym, ◌∙◌}
use Rattle.reading_check.proofs.Laws.Loop.{rest-within}
use Rattle.reading_check.proofs.Laws.Parts.{subobject_short, subobject_count, subobject_then}
use Rattle.reading_check.proofs.parts.subobject.Goals as goal
use borrow.Author.Rules.{rules}
use Rattle.std.specs.Prelude.{Ok, Err}

pub returns-then-xs-lt-SIZE : goal.returns-then-xs-lt-SIZE
returns-then-xs-lt-SIZE c =
    rw c.refused.ensures (record { means = λ y. subobject_short y _ _ _ _ c.if-xs-lt-SIZE.true; within = tt })

pub overflow_add-result : goal.overflow_add-result
overflow_add-result c =
    let w = rest-within _ _ c.args.xs.now c.part.result c.part.ensures.within _ c.in_ok-t.was in
    omega (arith, w)

pub returns : goal.returns
returns c =
    let w = rest-within _ _ c.args.xs.now c.part.result c.part.ensures.within _ c.in_ok-t.was in
    record {
      means = λ y. subobject_then y _ _ _ _ c.if-xs-lt-SIZE.false _ _ c.at-n1.ensures c.at-n2.ensures
          c.if-not-marked-n1.false _ (omega arith) (Ok _) (sym c.in_ok-t.was ∙ c.part.ensures.means y);
      within = omega (arith, w);
    }

pub returns-in_err-t : goal.returns-in_err-t
returns-in_err-t c =
    let e : c.from_residual.result ≡ Err c.in_err-t.field-0.0 = search rules in
    rw e
    (record {
      means = λ y. subobject_then y _ _ _ _ c.if-xs-lt-SIZE.false _ _ c.at-n1.ensures c.at-n2.ensures
          c.if-not-marked-n1.false _ (omega arith) (Err _) (sym c.in_err-t.was ∙ c.part.ensures.means y);
      within = tt;
    })

pub returns-then-not-marked-n1 : goal.returns-then-not-marked-n1
returns-then-not-marked-n1 c =
    rw c.refused-then-not-marked-n1.ensures (record {
      means = λ y. subobject_count y _ _ _ _ c.if-xs-lt-SIZE.false _ _ c.at-n1.ensures c.at-n2.ensures
          c.if-not-marked-n1.true;
      within = tt;
    })
