-- The three numbers of a hit are put, or nothing.
use mathlib.Core.Path.{refl, ap}
use lib.ListN.{length}
use native.Mathlib.Omega.{arith}
use Rattle.index.proofs.Laws.Each.{hit-row, no_row}
use Rattle.index.proofs.hits.put_hit.Goals as goal

pub put_row-requires : goal.put_row-requires
put_row-requires c =
    omega (arith, ap length (hit-row c.args.code c.args.number c.args.e c.if-e-code.true))

pub returns-then-e-code : goal.returns-then-e-code
returns-then-e-code c =
    rw (hit-row c.args.code c.args.number c.args.e c.if-e-code.true) (refl, c.put_row.ensures)

pub returns : goal.returns
returns c =
    rw (no_row c.args.code c.args.number c.args.e c.if-e-code.false) (omega arith, refl)
