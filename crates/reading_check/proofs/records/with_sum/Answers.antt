-- The sum has gone past the last byte, so nothing is left to be summed (`total-end`) and it is the total of all.
use mathlib.Core.Path.{refl}
use native.Mathlib.Omega.{arith}
use Rattle.fields.proofs.Laws.Lists.{total-end}
use Rattle.reading_check.proofs.records.with_sum.Goals as goal

pub returns : goal.returns
returns c =
    let done = total-end c.args.xs.now c.sum_past.result.to c.sum_past.ensures.1 in
    (refl, omega (arith, done), omega (arith, done))
