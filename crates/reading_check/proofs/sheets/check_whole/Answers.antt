-- The head's sum and the walk's make the sheet's, of which the low bits are compared; a head that is refused answers (`head-stop`), otherwise
-- `check_records` does (`head_on`).
use mathlib.Core.Path.{◌≡◌, ap, ◌∙◌}
use native.Mathlib.Omega.{arith}
use lib.ListN.{drop}
use Rattle.reading_check.proofs.Laws.Sheets.{head_on, head-stop, walked_here}
use Rattle.fields.proofs.Laws.Lists.{rest_is}
use Rattle.layout.specs.Bytes.{total, low32}
use borrow.Author.Rules.{rules}
use Rattle.std.specs.Prelude.{Err}
use Rattle.reading_check.proofs.sheets.check_whole.Goals as goal

pub check-requires : goal.check-requires
check-requires c =
    let records : c.walk-walked.result.sum ≡ total (drop 452 c.args.s.now) = rw rest_is at c.walk-walked.ensures.sums.0 in
    (c.requires.0, c.low-sum.ensures ∙ ap low32 (omega (arith, records, c.head_sum.ensures.0)))

pub check_records-requires : goal.check_records-requires
check_records-requires c =
    let s = c.args.s.now in
    let year = c.args.year in (
      head_on s c.requires.1 c.requires.0 year c.check.result c.check.ensures c.in_ok-check.was,
      walked_here year s _ c.at.ensures _ c.walk-walked.ensures.means,
    )

pub returns-in_err-check : goal.returns-in_err-check
returns-in_err-check c =
    let e : c.from_residual.result ≡ Err c.in_err-check.field-0.0 = search rules in
    rw e
    (head-stop c.args.s.now c.requires.1 c.requires.0 c.args.year c.check.result c.check.ensures _
    c.in_err-check.was)
