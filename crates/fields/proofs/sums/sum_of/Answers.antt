use mathlib.Core.Path.{ap, ◌∙◌}
use native.Mathlib.Omega.{arith}
use lib.ListN.{length, length-append}
use Rattle.laws.proofs.Base.Numbers.{total_append}
use Rattle.layout.specs.Bytes.{total}
use Rattle.std.specs.Slice.Iter.{chunks_rest}
use Rattle.fields.proofs.sums.sum_of.Goals as goal

pub loop-bytes-preserved : goal.loop-bytes-preserved
loop-bytes-preserved c =
    let one = c.in-Some.bytes.now in
    let rest = chunks_rest c.next.new.self in
    let steps = c.in-Some.ensures.steps in
    let summed = ap total steps.1.0 ∙ total_append one rest in
    let long = ap (λ l. length l) steps.1.0 ∙ length-append one rest in
    (steps.0 ∙ c.loop-bytes.invariant.0, omega (arith, summed), omega (arith, long))
