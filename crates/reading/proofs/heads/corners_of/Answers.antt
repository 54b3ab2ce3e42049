-- The check accepted the sheet, so the corners are those of its head (`corners_right`); or the check's refusal is the answer (`corners-refused`).
use Rattle.reading.proofs.Laws.Seen.{seen}
use Rattle.reading.proofs.Laws.Asked.{read, corners_right, corners-refused}
use borrow.Author.Rules.{rules}
use Rattle.std.specs.Prelude.{Err}
use mathlib.Core.Path.{◌≡◌}
use Rattle.reading.proofs.heads.corners_of.Goals as goal

pub corners_in-requires : goal.corners_in-requires
corners_in-requires c =
    read c.args.setting.year c.args.s.now _ (seen _ _ _ _ c.check.ensures c.in_ok-check.was)

pub returns : goal.returns
returns c =
    corners_right c.args.setting.year c.args.s.now _ (seen _ _ _ _ c.check.ensures c.in_ok-check.was) _
    c.corners_in.ensures

pub returns-in_err-check : goal.returns-in_err-check
returns-in_err-check c =
    let e : c.from_residual.result ≡ Err c.in_err-check.field-0.0 = search rules in
    rw e (corners-refused c.args.setting.year c.args.s.now _ _ c.check.ensures c.in_err-check.was)
