use Prim.Native.Nat.{◌+◌, ◌-◌}
use mathlib.Core.Path.{◌≡◌}
use native.Mathlib.Omega.{arith}
use Rattle.std.proofs.Common.{rules}
use Rattle.std.specs.Prelude.{Err}
use Rattle.writing_check.proofs.Laws.Pieces.{midway_start, midway_pre, midway_turn, midway_stop, midway_done}
use Rattle.writing_check.proofs.pieces.take_all.Goals as goal

pub loop-init : goal.loop-init
loop-init g c =
    let e : c.args.n - 0 ≡ c.args.n = omega arith in
    rw e (midway_start _ _ _ _ c.requires)

pub take-requires : goal.take-requires
take-requires g c = midway_pre _ _ _ _ _ _ c.loop.invariant (omega arith)

pub returns-in_err-at : goal.returns-in_err-at
returns-in_err-at g c =
    let e : c.from_residual.result ≡ Err c.in_err-at.field-0.0 = search rules in
    rw e (midway_stop _ _ _ _ _ _ _ c.loop.invariant (omega arith) c.in_err-at.ensures)

pub loop-preserved : goal.loop-preserved
loop-preserved g c =
    let e : c.args.n - (c.loop.counter + 1) ≡ c.args.n - c.loop.counter - 1 = omega arith in
    rw e (midway_turn _ _ _ _ _ _ _ c.loop.invariant (omega arith) c.in_ok-at.ensures)

pub returns : goal.returns
returns g c = midway_done _ _ _ _ _ _ c.loop.invariant (omega arith)
