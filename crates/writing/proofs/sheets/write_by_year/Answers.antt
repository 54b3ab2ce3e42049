-- The year of the setting made is the one asked for (`known`), and where none is made its refusal is the answer (`not_written`).
use mathlib.Core.Path.{◌≡◌}
use Rattle.layout.specs.Answers.Lent.{head_of}
use Rattle.layout.specs.Writing.Tables.{table}
use Rattle.meanings.proofs.Laws.Settings.{known}
use Rattle.std.specs.Prelude.{Err}
use Rattle.std.proofs.Common.{rules}
use Rattle.writing.proofs.Laws.Answered.{not_written}
use Rattle.writing.proofs.sheets.write_by_year.Goals as goal

pub returns : goal.returns
returns c =
    let at = rw (known c.args.year _ _ c.new.ensures c.in_ok-setting.was) at c.write.ensures in
    record { answers = at.answers; sheet = at.sheet }

pub returns-in_err-setting : goal.returns-in_err-setting
returns-in_err-setting c =
    let a = c.args in
    let h = head_of a.date.now a.designation.now a.scale a.title.now a.rest.now a.designation2.now a.carried.now in
    let t = table a.table.now a.elements.now a.bytes.now in
    let e : c.from_residual.result ≡ Err c.in_err-setting.field-0.0 = search rules in
    let both = not_written a.year c.new.result _ c.new.ensures c.in_err-setting.was h t a.out.now in
    rw e record { answers = both.0; sheet = both.1 }
