-- Four ways out, as in the definition's walk: the head is refused, the table is, the records are too long (`too_long`), or all fits (`fits`).
use mathlib.Core.Path.{◌≡◌}
use Rattle.std.specs.Prelude.{Err}
use Rattle.std.proofs.Common.{rules}
use Rattle.writing.proofs.Laws.Measured.{head-stops, rows_stop, too_long, fits, typed_texts, typed_pool}
use Rattle.writing_check.specs.Places.{lists}
use Rattle.writing_head.specs.Heads.{head_in}
use Rattle.writing.proofs.sheets.measure.Goals as goal

pub returns-in_err-check : goal.returns-in_err-check
returns-in_err-check c =
    let e : c.from_residual.result ≡ Err c.in_err-check.field-0.0 = search rules in
    λ scale small. rw e
    (head-stops c.args.year (head_in scale c.args.head) (lists c.args.t.now) c.check.result (c.check.ensures scale) _ c.in_err-check.was)

pub returns-in_err-totals : goal.returns-in_err-totals
returns-in_err-totals c =
    let e : c.from_residual-in_err-totals.result ≡ Err c.in_err-totals.field-0.0 = search rules in
    λ scale small. rw e
    (rows_stop c.args.year (head_in scale c.args.head) (lists c.args.t.now) c.check.result (c.check.ensures scale) c.in_ok-check.was
    c.check-2.result c.check-2.ensures _ c.in_err-totals.was)

pub returns-then-totals-gt-RECORDS_LIMIT : goal.returns-then-totals-gt-RECORDS_LIMIT
returns-then-totals-gt-RECORDS_LIMIT c =
    λ scale small. rw c.refused.ensures
    (too_long c.args.year (head_in scale c.args.head) (lists c.args.t.now) c.check.result (c.check.ensures scale) c.in_ok-check.was
    c.check-2.result c.check-2.ensures (typed_texts c.args.head scale small c.requires) (typed_pool c.args.t.now) _ c.in_ok-totals.was
    c.if-totals-gt-RECORDS_LIMIT.true)

pub returns : goal.returns
returns c =
    λ scale small.
    fits c.args.year (head_in scale c.args.head) (lists c.args.t.now) c.check.result (c.check.ensures scale) c.in_ok-check.was
    c.check-2.result c.check-2.ensures (typed_texts c.args.head scale small c.requires) (typed_pool c.args.t.now) _ c.in_ok-totals.was
    c.if-totals-gt-RECORDS_LIMIT.false
