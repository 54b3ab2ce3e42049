-- `Ready` gives each of the three calls what it asks; head, records and the sum over them are the encoding of the sheet (`emitted`).
use mathlib.Core.Path.{refl}
use lib.ListN.{length}
use native.Mathlib.Omega.{arith}
use Rattle.writing.proofs.Laws.Emitted.{count_fits, head_asks, rows_ask, sum_asks, emitted}
use Rattle.writing_check.specs.Places.{lists}
use Rattle.writing_head.specs.Heads.{head_in}
use Rattle.writing.proofs.sheets.emit_sheet.Goals as goal

pub overflow_cast-count : goal.overflow_cast-count
overflow_cast-count c =
    omega (arith, count_fits (head_in c.args.scale c.args.head) (lists c.args.t.now) c.args.totals (length c.args.out.now) c.requires)

pub emit-requires : goal.emit-requires
emit-requires c =
    let a = head_asks (head_in c.args.scale c.args.head) (lists c.args.t.now) c.args.totals (length c.args.out.now) c.requires in
    (record { date = a.0; designation = a.1; title = a.2; rest = a.3; designation2 = a.4; carried = a.5 }, a.6)

pub emit-requires-2 : goal.emit-requires-2
emit-requires-2 c =
    rows_ask (head_in c.args.scale c.args.head) (lists c.args.t.now) c.args.totals (length c.args.out.now) c.requires _ (omega arith)

pub overflow_add-totals : goal.overflow_add-totals
overflow_add-totals c =
    let a = sum_asks (head_in c.args.scale c.args.head) (lists c.args.t.now) c.args.totals (length c.args.out.now) c.requires _ refl in
    omega (arith, a)

pub emit_sum-requires : goal.emit_sum-requires
emit_sum-requires c =
    sum_asks (head_in c.args.scale c.args.head) (lists c.args.t.now) c.args.totals (length c.args.out.now) c.requires _ (omega arith)

pub returns : goal.returns
returns c =
    emitted (head_in c.args.scale c.args.head) (lists c.args.t.now) c.args.totals (length c.args.out.now) c.requires c.args.out.now _ _ _ refl
    c.emit.ensures c.emit-2.ensures c.emit_sum.ensures
