-- The parts must fill the metric's bytes: they are refused (`whole-stop`), leave bytes over (`whole-left`), or fill them (`whole-fine`).
use mathlib.Core.Path.{◌≡◌}
use lib.ListN.{length}
use Rattle.reading_check.specs.Tally.{metric_table}
use Rattle.layout.specs.Reading.Parts.{part_walk, subobject_walk, metric_walk}
use Rattle.layout.specs.Walk.{times, pair}
use native.Mathlib.Omega.{arith}
use Rattle.reading_check.proofs.Laws.Loop.{within-fine}
use Rattle.reading_check.proofs.Laws.Wholes.{whole-stop, whole-left, whole-fine}
use Rattle.fields.specs.References.{reference_by}
use Rattle.layout.specs.Refusals.{LENGTH}
use borrow.Author.Rules.{rules}
use Rattle.std.specs.Prelude.{Err}
use Rattle.reading_check.proofs.parts.metric.Goals as goal

pub returns-then-all-xs : goal.returns-then-all-xs
unfolding metric_walk
returns-then-all-xs c =
    rw c.refused.ensures (record {
      means = λ y. whole-left y metric_table LENGTH
          (pair (part_walk (reference_by c.args.reference) c.args.count)
          (times c.args.n
          (subobject_walk (reference_by c.args.reference) c.args.marked)))
          c.args.p c.args.xs.now c.pair.result (c.pair.ensures.means y) _ c.in_ok-all.was c.if-all-xs.true;
      within = tt;
    })

pub returns : goal.returns
unfolding metric_walk
returns c =
    let w = within-fine _ _ c.pair.result _ c.in_ok-all.was c.pair.ensures.within in
    let l : c.in_ok-all.all.used ≡ length c.args.xs.now = omega (arith, w) in
    record {
      means = λ y. whole-fine y metric_table LENGTH
          (pair (part_walk (reference_by c.args.reference) c.args.count)
          (times c.args.n
          (subobject_walk (reference_by c.args.reference) c.args.marked)))
          c.args.p c.args.xs.now c.pair.result (c.pair.ensures.means y) _ c.in_ok-all.was l;
      within = w;
    }

pub returns-in_err-all : goal.returns-in_err-all
unfolding metric_walk
returns-in_err-all c =
    let e : c.from_residual.result ≡ Err c.in_err-all.field-0.0 = search rules in
    rw e
    (record {
      means = λ y. whole-stop y metric_table LENGTH
          (pair (part_walk (reference_by c.args.reference) c.args.count)
          (times c.args.n
          (subobject_walk (reference_by c.args.reference) c.args.marked)))
          c.args.p c.args.xs.now c.pair.result (c.pair.ensures.means y) _ c.in_err-all.was;
      within = tt;
    })
