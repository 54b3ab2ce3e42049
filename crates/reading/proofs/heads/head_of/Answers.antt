-- The check accepted the sheet, so the head answered is the one read from it (`head_right`); or the check's refusal is the answer.
use Rattle.reading.proofs.Laws.Seen.{seen}
use Rattle.reading.proofs.Laws.Asked.{read, head_right, head-refused}
use borrow.Author.Rules.{rules}
use Rattle.std.specs.Prelude.{Err}
use mathlib.Core.Path.{◌≡◌}
use Rattle.reading.proofs.heads.head_of.Goals as goal

pub head_in-requires : goal.head_in-requires
head_in-requires c =
    read c.args.setting.year c.args.s.now _ (seen _ _ _ _ c.check.ensures c.in_ok-check.was)

pub returns : goal.returns
returns c =
    head_right c.args.setting.year c.args.s.now _ (seen _ _ _ _ c.check.ensures c.in_ok-check.was) _
    c.head_in.ensures

pub returns-in_err-check : goal.returns-in_err-check
returns-in_err-check c =
    let e : c.from_residual.result ≡ Err c.in_err-check.field-0.0 = search rules in
    rw e (head-refused c.args.setting.year c.args.s.now _ _ c.check.ensures c.in_err-check.was)
