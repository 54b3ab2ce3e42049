-- A sheet whose length was let through has passport and descriptor (`sized`).
use lib.ListN.{length}
use Prim.Native.Nat.{◌≤◌}
use native.Mathlib.Omega.{arith}
use Rattle.hop.proofs.Laws.Checks.{sized}
use Rattle.layout.specs.Reading.Sheets.{start}
use Rattle.hop.proofs.sheets.check_start.Goals as goal

pub fixed-requires : goal.fixed-requires
fixed-requires c =
    let long-enough : start ≤ length c.args.s.now = sized c.args.s.now c.size_checks.result c.size_checks.ensures c.in_ok-size_checks.was in
    omega (arith, long-enough)

pub fixed-requires-2 : goal.fixed-requires-2
fixed-requires-2 c =
    let long-enough : start ≤ length c.args.s.now = sized c.args.s.now c.size_checks.result c.size_checks.ensures c.in_ok-size_checks.was in
    omega (arith, long-enough)
