-- The records are refused (`sheet-stop`), leave bytes over (`sheet-left`), or fill the sheet, and the counts are its sizes (`sheet-fine`).
use native.Mathlib.Omega.{arith}
use Rattle.reading_check.proofs.Laws.Sheets.{sheet-stop, sheet-left, sheet-fine}
use Rattle.laws.proofs.Base.Numbers.{all-bytes}
use borrow.Author.Rules.{rules}
use Rattle.std.specs.Prelude.{Err}
use mathlib.Core.Path.{◌≡◌}
use Rattle.reading_check.proofs.sheets.check_records.Goals as goal

pub returns-then-t-s : goal.returns-then-t-s
returns-then-t-s c =
    rw c.refused.ensures (sheet-left c.args.year c.args.s.now c.requires.0 c.args.counted c.requires.1 _ c.in_ok-t.was
    c.if-t-s.true)

pub returns : goal.returns
returns c =
    let bytes = all-bytes c.args.s.now (λ i. omega (arith, c.type_inv.s i)) in
    sheet-fine c.args.year c.args.s.now c.requires.0 c.args.counted c.requires.1 _ c.in_ok-t.was
    bytes c.if-t-s.false _ c.at.ensures _ c.at-2.ensures

pub returns-in_err-t : goal.returns-in_err-t
returns-in_err-t c =
    let e : c.from_residual.result ≡ Err c.in_err-t.field-0.0 = search rules in
    rw e
    (sheet-stop c.args.year c.args.s.now c.requires.0 c.args.counted c.requires.1 _ c.in_err-t.was)
