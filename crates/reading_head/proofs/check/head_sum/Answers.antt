-- The bytes before the stated sum and those after it, up to the first record, are summed; `sum_of` adds the total from there on (`total_on`).
use mathlib.Core.Path.{ap}
use native.Mathlib.Omega.{arith}
use lib.ListN.{length}
use Rattle.fields.proofs.Laws.Lists.{part_length, total_on}
use Rattle.layout.specs.Bytes.{total}
use Rattle.reading_head.proofs.check.head_sum.Goals as goal

pub sum_of-front-requires : goal.sum_of-front-requires
sum_of-front-requires c = rw c.part.ensures (omega (arith, part_length c.args.s.now 0 12 (omega arith)))

pub sum_of-back-requires : goal.sum_of-back-requires
sum_of-back-requires c =
    rw c.part-2.ensures (omega (arith, part_length c.args.s.now 16 436 (omega arith)))

-- the two parts' lengths bound their sums
pub overflow_add-result : goal.overflow_add-result
overflow_add-result c =
    let s = c.args.s.now in
    omega (
      arith,
      ap length c.part.ensures,
      ap length c.part-2.ensures,
      part_length s 0 12 (omega arith),
      part_length s 16 436 (omega arith),
    )

pub returns : goal.returns
returns c =
    let s = c.args.s.now in
    omega (
      arith,
      ap length c.part.ensures,
      ap length c.part-2.ensures,
      part_length s 0 12 (omega arith),
      part_length s 16 436 (omega arith),
      ap total c.part.ensures,
      ap total c.part-2.ensures,
      total_on s 16 436,
    )
