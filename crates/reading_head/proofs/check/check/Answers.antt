-- The rest of the passport is within the sheet.
use native.Mathlib.Omega.{arith}
use Rattle.fields.proofs.Laws.Lists.{part_length}
use Rattle.reading_head.proofs.check.check.Goals as goal

pub rest_checks-requires : goal.rest_checks-requires
rest_checks-requires c =
    rw c.part.ensures (omega (arith, part_length c.args.s.now 96 304 (omega arith)))
