use mathlib.Core.Path.{refl, ◌∙◌}
use native.Mathlib.Omega.{arith}
use Rattle.reading_check.proofs.Laws.Loop.{same_start, same_done, batch_stop, batch_turn, sum_ok, within-turn}
use Rattle.reading_check.proofs.records.walk.Goals as goal

pub loop-left-init : goal.loop-left-init
loop-left-init c = rw c.none-acc.ensures (omega arith, same_start _ _ _ _ _ _ _ refl, record { inside = omega arith; rest = omega arith; small = omega arith })

pub sum_past-summed-requires : goal.sum_past-summed-requires
sum_past-summed-requires c =
    (c.loop-left.invariant.2, c.loop-left.invariant.0.used, c.requires.1)

pub and-acc-requires : goal.and-acc-requires
and-acc-requires c =
    sum_ok c.args.xs.now _ c.loop-left.invariant.0 c.records.result c.records.ensures.within _
    c.in-Ok.is (omega arith)

pub returns-in-Err : goal.returns-in-Err
returns-in-Err c =
    let stop = batch_stop _ _ _ _ _ _ _ _ c.loop-left.invariant.1 _ (omega (arith, c.min-some.ensures))
    c.records.result c.records.ensures.means _ c.in-Err.is in
    record { means = c.with_sum.ensures.0 ∙ stop; sums = (c.with_sum.ensures.1, c.with_sum.ensures.2) }

pub loop-left-preserved : goal.loop-left-preserved
loop-left-preserved c =
    let z = c.in-Ok.is in (
      within-turn c.args.xs.now _ c.loop-left.invariant.0 c.records.result c.records.ensures.within _ z _
          c.and-acc.ensures,
      batch_turn _ _ _ _ _ _ _ _ c.loop-left.invariant.1 _ (omega (arith, c.min-some.ensures)) c.records.result
          c.records.ensures.means _ z _ c.and-acc.ensures,
      c.sum_past-summed.ensures.0,
    )

pub returns : goal.returns
returns c =
    record {
      means = c.with_sum-2.ensures.0 ∙ same_done _ _ _ _ _ _ _ _ c.loop-left.invariant.1 (omega arith);
      sums = (c.with_sum-2.ensures.1, c.with_sum-2.ensures.2);
    }
