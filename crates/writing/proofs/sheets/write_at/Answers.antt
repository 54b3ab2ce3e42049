-- Three ways out: the measure refuses, the slice is too short (`short_right`), or the sheet is `Ready` and its bytes are emitted (`written_right`).
use mathlib.Core.Path.{◌≡◌}
use native.Mathlib.Omega.{arith}
use Prim.Native.Nat.{◌<◌, ◌^◌}
use Rattle.std.specs.Prelude.{Err}
use Rattle.std.proofs.Common.{rules}
use Rattle.writing.proofs.Laws.Answered.{refused_right, within, ready, short_right, written_right}
use Rattle.writing.proofs.Laws.Measured.{typed_texts, typed_pool}
use Rattle.writing_check.specs.Places.{lists}
use Rattle.writing_head.specs.Heads.{head_in}
use Rattle.writing.proofs.sheets.write_at.Goals as goal

pub returns-in_err-totals : goal.returns-in_err-totals
returns-in_err-totals c =
    let e : c.from_residual.result ≡ Err c.in_err-totals.field-0.0 = search rules in
    let small : c.args.scale < 256 ^ 4 = omega (arith, c.well_formed) in
    let both = refused_right c.args.year (head_in c.args.scale c.args.head) (lists c.args.t.now) c.args.out.now c.measure.result
    (c.measure.ensures c.args.scale small) _ c.in_err-totals.was in
    rw e record { answers = both.0; sheet = both.1 }

pub overflow_add-n : goal.overflow_add-n
overflow_add-n c =
    let small : c.args.scale < 256 ^ 4 = omega (arith, c.well_formed) in
    omega (
      arith,
      within c.args.year (head_in c.args.scale c.args.head) (lists c.args.t.now) c.args.out.now c.measure.result
          (c.measure.ensures c.args.scale small) (typed_texts c.args.head c.args.scale small c.requires) (typed_pool c.args.t.now) _ c.in_ok-totals.was,
    )

pub returns-then-out-n : goal.returns-then-out-n
returns-then-out-n c =
    let small : c.args.scale < 256 ^ 4 = omega (arith, c.well_formed) in
    let both = short_right c.args.year (head_in c.args.scale c.args.head) (lists c.args.t.now) c.args.out.now c.measure.result
    (c.measure.ensures c.args.scale small) (typed_texts c.args.head c.args.scale small c.requires) (typed_pool c.args.t.now) _ c.in_ok-totals.was
    (omega arith) in
    rw c.refused.ensures record { answers = both.0; sheet = both.1 }

pub emit_sheet-requires : goal.emit_sheet-requires
emit_sheet-requires c =
    let small : c.args.scale < 256 ^ 4 = omega (arith, c.well_formed) in
    ready c.args.year (head_in c.args.scale c.args.head) (lists c.args.t.now) c.args.out.now c.measure.result
    (c.measure.ensures c.args.scale small) (typed_texts c.args.head c.args.scale small c.requires) (typed_pool c.args.t.now) _ c.in_ok-totals.was
    (omega arith)

pub returns : goal.returns
returns c =
    let small : c.args.scale < 256 ^ 4 = omega (arith, c.well_formed) in
    let both = written_right c.args.year (head_in c.args.scale c.args.head) (lists c.args.t.now) c.args.out.now c.measure.result
    (c.measure.ensures c.args.scale small) (typed_texts c.args.head c.args.scale small c.requires) (typed_pool c.args.t.now) _ c.in_ok-totals.was
    _ (omega arith) c.emit_sheet.ensures in
    record { answers = both.0; sheet = both.1 }
