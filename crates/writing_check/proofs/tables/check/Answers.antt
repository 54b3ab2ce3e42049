use native.Mathlib.Omega.{arith}
use Rattle.std.proofs.Common.{rules}
use Rattle.laws.proofs.Base.Numbers.{all-bytes}
use Rattle.writing_check.specs.Places.{lists}
use Rattle.writing_check.proofs.Laws.Tables.{going_start, row_went, row_next, going_stop, going_turn, going_done, going_left}
use Rattle.writing_check.proofs.tables.check.Goals as goal

pub loop-p-init : goal.loop-p-init
loop-p-init c = (
  record {
    number = omega arith;
    element = omega arith;
    byte = omega arith;
    length = omega arith;
    is_bytes = all-bytes c.args.t.now.bytes.now c.args.t.now.is_bytes;
  },
  omega arith,
  going_start c.args.year (lists c.args.t.now),
)

pub returns-in_err-p : goal.returns-in_err-p
returns-in_err-p c =
    rw (← going_stop c.args.year (lists c.args.t.now) _ _ c.loop-p.invariant.2 c.loop-p.invariant.0 c.loop-p-test.true c.take_row.result
    c.take_row.ensures _ c.in_err-p.was) (search rules)

pub loop-p-smaller : goal.loop-p-smaller
loop-p-smaller c =
    let n = row_next c.args.year (lists c.args.t.now) _ _ c.loop-p.invariant.2 c.loop-p.invariant.0 c.loop-p-test.true c.take_row.result
    c.take_row.ensures _ c.in_ok-p.was in
    omega (arith, n)

pub loop-p-preserved : goal.loop-p-preserved
loop-p-preserved c =
    let g = c.loop-p.invariant.2 in
    let h = c.loop-p.invariant.0 in
    let n = row_next c.args.year (lists c.args.t.now) _ _ g h c.loop-p-test.true c.take_row.result c.take_row.ensures _ c.in_ok-p.was in (
      (row_went c.args.year (lists c.args.t.now) _ _ g h c.loop-p-test.true c.take_row.result c.take_row.ensures _ c.in_ok-p.was).at,
      omega (arith, n),
      going_turn c.args.year (lists c.args.t.now) _ _ g h c.loop-p-test.true c.take_row.result c.take_row.ensures _ c.in_ok-p.was,
    )

pub returns-then-t-p : goal.returns-then-t-p
returns-then-t-p c =
    going_done c.args.year (lists c.args.t.now) _ _ c.loop-p.invariant.2 c.loop-p.invariant.0 c.loop-p-test.false c.if-t-p.true

pub returns : goal.returns
returns c =
    rw (← going_left c.args.year (lists c.args.t.now) _ _ c.loop-p.invariant.2 c.loop-p.invariant.0 c.loop-p-test.false c.if-t-p.false) (search rules)
