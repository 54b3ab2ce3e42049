-- A length that is refused answers (`size-stop`), otherwise `check_whole` does, for which it is long and short enough (`size_on`).
use Rattle.reading_check.proofs.Laws.Sheets.{size_on, size-stop}
use borrow.Author.Rules.{rules}
use Rattle.std.specs.Prelude.{Err}
use mathlib.Core.Path.{◌≡◌}
use Rattle.reading_check.proofs.sheets.check.Goals as goal

pub check_whole-requires : goal.check_whole-requires
check_whole-requires c =
    size_on c.args.year c.args.s.now c.size_checks.result (c.size_checks.ensures _) c.in_ok-size_checks.was

pub returns-in_err-size_checks : goal.returns-in_err-size_checks
returns-in_err-size_checks c =
    let e : c.from_residual.result ≡ Err c.in_err-size_checks.field-0.0 = search rules in
    rw e
    (size-stop c.args.year c.args.s.now c.size_checks.result (c.size_checks.ensures _) _ c.in_err-size_checks.was)
