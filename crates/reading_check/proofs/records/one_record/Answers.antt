-- Three ways out: no room for a header (`record_short`), a header that is refused (`record_stop`), or what the rest answers (`record_on`).
use native.Mathlib.Omega.{arith}
use Rattle.reading_check.proofs.Laws.Records.{record_short, record_on, record_stop, record_passed}
use borrow.Author.Rules.{rules}
use Rattle.std.specs.Prelude.{Err}
use mathlib.Core.Path.{◌≡◌}
use Rattle.reading_check.proofs.records.one_record.Goals as goal

pub returns-then-xs-lt-SIZE : goal.returns-then-xs-lt-SIZE
returns-then-xs-lt-SIZE c =
    rw c.refused.ensures (record { means = record_short _ _ _ c.if-xs-lt-SIZE.true; within = tt })

pub rest-requires : goal.rest-requires
rest-requires c =
    let checked = rw c.header_at-h.ensures at c.check_header.ensures in (
      omega arith,
      rw c.header_at-h.ensures (record_passed _ _ c.args.xs.now c.if-xs-lt-SIZE.false
          c.check_header.result checked c.in_ok-check_header.was),
    )

pub returns : goal.returns
returns c =
    let checked = rw c.header_at-h.ensures at c.check_header.ensures in
    record {
      means = record_on _ _ c.args.xs.now c.if-xs-lt-SIZE.false c.check_header.result checked
          c.in_ok-check_header.was _ c.rest.ensures.means;
      within = c.rest.ensures.within;
    }

pub returns-in_err-check_header : goal.returns-in_err-check_header
returns-in_err-check_header c =
    let checked = rw c.header_at-h.ensures at c.check_header.ensures in
    let e : c.from_residual.result ≡ Err c.in_err-check_header.field-0.0 = search rules in
    rw e
    (record {
      means = record_stop _ _ c.args.xs.now c.if-xs-lt-SIZE.false c.check_header.result checked _
          c.in_err-check_header.was;
      within = tt;
    })
